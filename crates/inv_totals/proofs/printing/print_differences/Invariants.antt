use Rattle.std.proofs.Common.{take}
use Rattle.std.specs.Prelude.{flat_map}
use Rattle.inv_base.specs.Printing.{Printed}
use Rattle.inv_totals.specs.Lines.{line}
use Rattle.inv_totals.proofs.printing.print_differences.Given as goal

-- the lines so far
abbrev pub invariant-differences : goal.invariant-differences
invariant-differences g l = Printed l.printer.failed (flat_map line (take l.difference-index l.differences)) (g.K.Sink.view l.initial.out) (g.K.Sink.view l.out)
