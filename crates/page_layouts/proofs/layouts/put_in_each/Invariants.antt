use Rattle.page_tables.specs.Tables as tables
use Rattle.page_values.specs.Places as places
use Rattle.page_layouts.specs.Layouts as layouts
use Rattle.page_layouts.specs.Streaming.{Shows, head_lent}
use Rattle.page_values.specs.Seen.{seen}
use Rattle.std.specs.List.{flat_map}
use Rattle.page_layouts.proofs.layouts.put_in_each.Given as goal

abbrev pub invariant-occurrences : goal.invariant-occurrences
invariant-occurrences g l = Shows (head_lent l.head)
    (flat_map (λ k. layouts.one_in (places.occurrence (seen l.place) l.group k) (tables.item_lent l.item)) (places.numbers_to l.behind)) l.initial.pen l.pen
    (g.K.Sink.view l.initial.out) (g.K.Sink.view l.out)
