use Rattle.std.proofs.Common.{◌-◌, ◌≤◌}
use Rattle.inv_base.specs.Printing.{Prints}
use Rattle.document_jobs.proofs.OutlineLemmas.{spaces}
use Rattle.document_jobs.proofs.printing.print_indent.Given as goal

-- the spaces of the levels so far
abbrev pub invariant-levels : goal.invariant-levels
invariant-levels g l = record {
  within : l.rest ≤ l.level - 1;
  printed : Prints (spaces (l.level - 1 - l.rest)) l.initial.printer.failed l.printer.failed (g.K.Sink.view l.initial.out) (g.K.Sink.view l.out);
}

abbrev pub decreases-levels : goal.decreases-levels
decreases-levels g l = l.rest
