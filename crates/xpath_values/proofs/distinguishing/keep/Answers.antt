use Rattle.std.proofs.Common.{◌≡◌, ◌∙◌, ap, sym, rules}
use Rattle.std.specs.Cmp.{int_cmp_total}
use Rattle.xpath_values.specs.Distinct.{is_known, with_item}
use Rattle.xpath_values.proofs.DistinctLemmas.{known_more}
use Rattle.xpath_values.proofs.distinguishing.keep.Goals as goal

pub returns-in_ok-push-clause-known : goal.returns-in_ok-push-clause-known
returns-in_ok-push-clause-known c = λ x h.
    let kept : c.push.new.self.items ≡ with_item c.args.kept.now.items c.args.item.now = search rules in
    known_more int_cmp_total c.days_are_ordered.ensures.total c.args.known.now c.add.new.self c.args.kept.now.items c.args.item.now c.requires.known
    c.in_ok-add.ensures.grown x h
    ∙ ap (λ ys. is_known ys x) (sym kept)

pub returns-else-branch-clause-known : goal.returns-else-branch-clause-known
returns-else-branch-clause-known c = λ x h.
    let kept : c.args.kept.now.items ≡ with_item c.args.kept.now.items c.args.item.now = search rules in
    known_more int_cmp_total c.days_are_ordered.ensures.total c.args.known.now c.add.new.self c.args.kept.now.items c.args.item.now c.requires.known
    c.in_ok-add.ensures.grown x h
    ∙ ap (λ ys. is_known ys x) (sym kept)
