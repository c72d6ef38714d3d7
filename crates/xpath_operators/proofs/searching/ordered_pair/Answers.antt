use Rattle.std.proofs.Common.{◌≡◌, ◌∙◌, sym, false, subst, get_or}
use Rattle.std.proofs.lemmas.List.{get_or_read}
use Rattle.xpath_operators.specs.Ranks.{item_cmp}
use Rattle.xpath_operators.specs.Rows.{decides}
use Rattle.xpath_operators.proofs.RowLemmas.{ordered_is}
use Rattle.xpath_operators.proofs.searching.ordered_pair.Goals as goal

pub returns : goal.returns
returns c =
    let ys = c.args.ys.now in
    let at = c.deciding-best.result in
    let best = c.index-ys-best.result in
    c.some_beside.ensures
    ∙ ordered_is c.args.op c.args.xs.now ys at best c.requires.orders c.requires.comparable c.deciding-best.ensures.within c.index-ys-best.is
    (λ n d l. subst (λ y. decides c.args.op (item_cmp (get_or ys n d) y) ≡ false) (sym (get_or_read ys _ _ c.deciding-best.ensures.within c.index-ys-best.is d))
    (c.deciding-best.ensures.best n d l))
