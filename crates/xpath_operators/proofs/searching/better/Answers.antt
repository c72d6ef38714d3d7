use Rattle.std.proofs.Common.{◌∙◌, ap, sym, get_or}
use Rattle.std.proofs.lemmas.List.{get_or_read}
use Rattle.xpath_operators.specs.Ranks.{item_cmp}
use Rattle.xpath_operators.specs.Rows.{decides}
use Rattle.xpath_operators.proofs.RowLemmas.{decides_keeps, decides_not}
use Rattle.xpath_operators.proofs.searching.better.Goals as goal

pub returns-then-decides-clause-keeps : goal.returns-then-decides-clause-keeps
returns-then-decides-clause-keeps c = λ x d h.
    let items = c.args.items.now in
    let k = get_or_read items _ _ c.requires.k c.index-items-k.is d in
    let best = get_or_read items _ _ c.requires.best c.index-items-best.is d in
    decides_keeps c.args.op x (get_or items c.args.best d) (get_or items c.args.k d) h
    (ap (decides c.args.op) (ap (λ y. item_cmp y (get_or items c.args.best d)) (sym k) ∙
    (ap (item_cmp c.index-items-k.result) (sym best) ∙ sym c.item_cmp.ensures)) ∙ (sym c.decides.ensures ∙ c.if-decides.true))

pub returns-then-decides-clause-takes : goal.returns-then-decides-clause-takes
returns-then-decides-clause-takes c = λ d. decides_not c.args.op (get_or c.args.items.now c.args.k d)
