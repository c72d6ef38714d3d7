use Rattle.std.proofs.Common.{◌≡◌, map, take, true}
use Rattle.page_tables.specs.Tables as tables
use Rattle.page_layouts.specs.Tables as spec
use Rattle.page_values.specs.Seen.{seen}
use Rattle.std.specs.List.{flat_map}
use Rattle.inv_base.specs.Printing.{Prints}
use Rattle.page_layouts.proofs.tables.put_cells.Given as goal

abbrev pub invariant-cells : goal.invariant-cells
invariant-cells g l = Prints (flat_map (spec.cell_text (seen l.place)) (map tables.cell_lent (take l.cell-index l.cells))) l.initial.pen.printer.failed
    l.pen.printer.failed (g.K.Sink.view l.initial.out) (g.K.Sink.view l.out) × (l.pen.begun ≡ true)
