use Rattle.std.proofs.Common.{map, take}
use Rattle.page_tables.specs.Tables as tables
use Rattle.page_layouts.specs.Layouts as layouts
use Rattle.page_layouts.specs.Streaming.{Shows, head_lent}
use Rattle.page_values.specs.Seen.{seen}
use Rattle.std.specs.List.{flat_map}
use Rattle.page_layouts.proofs.layouts.put_layout.Given as goal

abbrev pub invariant-items : goal.invariant-items
invariant-items g l = Shows (head_lent l.head) (flat_map (layouts.item_text (seen l.place))
    (map tables.item_lent (take l.item-index l.items))) l.initial.pen l.pen
    (g.K.Sink.view l.initial.out) (g.K.Sink.view l.out)
