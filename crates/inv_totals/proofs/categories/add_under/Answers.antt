use Rattle.std.proofs.Common.{ap, sym, subst, ◌∙◌, rules}
use Rattle.inv_totals.specs.Adding.{or_none, with_amount, sums_under, AddsUnder}
use Rattle.inv_totals.proofs.TallyLemmas.{adds_under, adds_new}
use Rattle.inv_totals.proofs.categories.add_under.Goals as goal

pub returns-in-Some : goal.returns-in-Some
returns-in-Some c =
    adds_under c.args.key.now c.args.categories.now (c.get_mut.follows.lender c.with.result) c.with.result c.args.part c.args.amount
    ((c.get_mut.follows.holds c.with.result).3 (search rules)) (c.with.ensures ∙ ap (λ o. with_amount
    (or_none o) c.args.part c.args.amount) c.in-Some.ensures.value)

pub returns-in_ok-insert-in-None : goal.returns-in_ok-insert-in-None
returns-in_ok-insert-in-None c =
    let same = c.get_mut.follows.holds-at-none in
    let sums = c.with-in-None.ensures ∙ ap (λ s. with_amount s c.args.part c.args.amount) (c.none.ensures ∙ ap or_none c.in-None.ensures.value) in
    subst (λ m. AddsUnder c.args.key.now c.args.part c.args.amount m c.insert.new.self) same
    (adds_new c.args.key.now c.in_ok-from_str-in-None.field-0 c.get_mut.follows.lender-at-none c.insert.new.self c.with-in-None.result c.args.part c.args.amount
    c.in_ok-from_str-in-None.ensures.ok c.in_ok-insert-in-None.ensures.updates (sums ∙ ap (λ m. with_amount
    (sums_under m c.args.key.now) c.args.part c.args.amount) (sym same)))
