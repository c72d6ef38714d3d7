use Rattle.std.proofs.Common.{map, take}
use Rattle.page_tables.specs.Tables as tables
use Rattle.page_layouts.specs.Tables as spec
use Rattle.page_layouts.specs.Streaming.{Shows, head_lent}
use Rattle.page_values.specs.Seen.{seen}
use Rattle.std.specs.List.{flat_map}
use Rattle.page_layouts.proofs.tables.put_rows.Given as goal

abbrev pub invariant-groups : goal.invariant-groups
invariant-groups g l = Shows (head_lent l.head) (flat_map (spec.rows_of (seen l.place)) (map tables.row_lent (take l.row-index l.groups))) l.initial.pen l.pen
    (g.K.Sink.view l.initial.out) (g.K.Sink.view l.out)
