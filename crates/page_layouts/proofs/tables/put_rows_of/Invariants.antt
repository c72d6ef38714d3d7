use Rattle.page_tables.specs.Tables as tables
use Rattle.page_values.specs.Places as places
use Rattle.page_layouts.specs.Tables as spec
use Rattle.page_layouts.specs.Streaming.{Shows, head_lent}
use Rattle.page_values.specs.Seen.{seen}
use Rattle.std.specs.List.{flat_map}
use Rattle.page_layouts.proofs.tables.put_rows_of.Given as goal

abbrev pub invariant-occurrences : goal.invariant-occurrences
invariant-occurrences g l = Shows (head_lent l.head)
    (flat_map (λ k. spec.table_row (places.occurrence (seen l.place) l.row.0 k) (tables.row_lent l.row).1) (places.numbers_to l.behind)) l.initial.pen l.pen
    (g.K.Sink.view l.initial.out) (g.K.Sink.view l.out)
