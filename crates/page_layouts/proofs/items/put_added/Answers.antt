use Rattle.std.proofs.Common.{sym, arith}
use Rattle.page_layouts.proofs.ShowLemmas.{Shows-append, Shows-same}
use Rattle.page_values.proofs.LoopLemmas.{items-next}
use Rattle.page_layouts.proofs.items.put_added.Goals as goal

pub entries-preserved : goal.entries-preserved
entries-preserved g c =
    let next = items-next _ c.args.place.now.entries.now c.entries.e-index c.e-item.result (omega arith) c.e-item.is in
    Shows-same _ _ _ _ _ _ _ (sym next) (Shows-append _ _ _ _ _ _ _ _ _ c.entries.invariant c.put_where_added.ensures)
