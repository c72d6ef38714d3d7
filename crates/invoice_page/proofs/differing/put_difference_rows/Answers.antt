use Rattle.std.proofs.Common.{sym, arith}
use Rattle.invoice_page.specs.Page.{difference_row}
use Rattle.page_values.proofs.LoopLemmas.{items-next}
use Rattle.page_layouts.proofs.ShowLemmas.{Shows-append, Shows-same}
use Rattle.invoice_page.proofs.differing.put_difference_rows.Goals as goal

pub differences-preserved : goal.differences-preserved
differences-preserved g c =
    let next =
    items-next difference_row c.args.differences.now c.differences.difference-index c.difference-item.result (omega arith) c.difference-item.is in
    Shows-same _ _ _ _ _ _ _ (sym next) (Shows-append _ _ _ _ _ _ _ _ _ c.differences.invariant c.put_difference.ensures)
