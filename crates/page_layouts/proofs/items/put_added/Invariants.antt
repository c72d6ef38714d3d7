use Rattle.std.proofs.Common.{take}
use Rattle.page_layouts.specs.Layouts as layouts
use Rattle.page_layouts.specs.Streaming.{Shows, head_lent}
use Rattle.page_values.specs.Seen.{seen}
use Rattle.std.specs.List.{flat_map}
use Rattle.page_layouts.proofs.items.put_added.Given as goal

abbrev pub invariant-entries : goal.invariant-entries
invariant-entries g l = Shows (head_lent l.head) (flat_map (layouts.added_text (seen l.place)) (take l.e-index l.place.entries.now)) l.initial.pen l.pen
    (g.K.Sink.view l.initial.out) (g.K.Sink.view l.out)
