use Rattle.std.proofs.Common.{◌∙◌, ap, subst}
use Rattle.xpath_items.specs.Faults.{Gives}
use Rattle.xpath_operators.specs.Rows.{rows, is_in}
use Rattle.xpath_operators.proofs.RowLemmas.{equal_is, some_right}
use Rattle.xpath_operators.proofs.searching.equal_pair.Goals as goal

pub returns : goal.returns
returns c =
    let ranked = c.in_ok-ranked.ranked.items in
    subst (Gives c.without_memory.result)
    (c.some_is_in.ensures
    ∙ (ap (λ ks. rows c.index-ys-0.result (is_in ks) c.args.xs.now) c.deref.ensures.value
    ∙ equal_is c.args.xs.now c.args.ys.now ranked c.index-ys-0.result c.requires
    (some_right c.args.xs.now c.args.ys.now c.requires) c.index-ys-0.is c.in_ok-ranked.ensures.same))
    c.without_memory.ensures
