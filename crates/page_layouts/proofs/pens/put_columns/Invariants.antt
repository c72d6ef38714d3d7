use Rattle.std.proofs.Common.{map, take}
use Rattle.page_tables.specs.Tables as tables
use Rattle.page_layouts.specs.Tables as spec
use Rattle.std.specs.List.{flat_map}
use Rattle.inv_base.specs.Printing.{Prints}
use Rattle.page_layouts.proofs.pens.put_columns.Given as goal

abbrev pub invariant-columns : goal.invariant-columns
invariant-columns g l = Prints (flat_map spec.column_text (map tables.column_lent (take l.column-index l.columns))) l.initial.printer.failed l.printer.failed
    (g.K.Sink.view l.initial.out) (g.K.Sink.view l.out)
