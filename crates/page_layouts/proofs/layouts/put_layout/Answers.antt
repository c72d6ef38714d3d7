use Rattle.std.proofs.Common.{sym}
use Rattle.page_tables.specs.Tables.{item_lent}
use Rattle.page_layouts.specs.Layouts.{item_text}
use Rattle.page_values.specs.Seen.{seen}
use Rattle.page_values.proofs.LoopLemmas.{of-at}
use Rattle.page_layouts.proofs.ShowLemmas.{Shows-append, Shows-same}
use Rattle.page_layouts.proofs.layouts.put_layout.Goals as goal

pub items-preserved : goal.items-preserved
items-preserved g c =
    Shows-same _ _ _ _ _ _ _ (sym (of-at (item_text (seen c.args.place.now)) item_lent c.args.items.now c.items.item-index _ c.items-test.true))
    (Shows-append _ _ _ _ _ _ _ _ _ c.items.invariant c.put_item.ensures)
