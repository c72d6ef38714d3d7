use Rattle.std.proofs.Common.{◌≢◌, drop, flat_map}
use Rattle.xml_write.specs.declared.pen.PenState.TheVariants.{Fresh}
use Rattle.xml_write.specs.Writers.{state_of}
use Rattle.svrl_report.specs.Calls.{line_calls}
use Rattle.svrl_report.proofs.WriterSteps.{Ahead}
use Rattle.svrl_report.proofs.svrl.put_lines.Given as goal

abbrev pub invariant-lines : goal.invariant-lines
invariant-lines g l = record {
  ahead : Ahead (g.W.Writer.view l.initial.pen) (g.K.Sink.view l.initial.out) (flat_map line_calls l.lines)
      (g.W.Writer.view l.pen) (g.K.Sink.view l.out) (flat_map line_calls (drop l.line-index l.lines));
  state : state_of (g.W.Writer.view l.pen) ≢ Fresh;
}
