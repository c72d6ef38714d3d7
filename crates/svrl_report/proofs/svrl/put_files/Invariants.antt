use Rattle.std.proofs.Common.{◌≢◌, drop, flat_map}
use Rattle.xml_write.specs.declared.pen.PenState.TheVariants.{Fresh}
use Rattle.xml_write.specs.Writers.{state_of}
use Rattle.svrl_report.specs.Calls.{lines_calls}
use Rattle.svrl_report.proofs.WriterSteps.{Ahead}
use Rattle.svrl_report.proofs.svrl.put_files.Given as goal

abbrev pub invariant-files : goal.invariant-files
invariant-files g l = record {
  ahead : Ahead (g.W.Writer.view l.initial.pen) (g.K.Sink.view l.initial.out) (flat_map lines_calls l.findings)
      (g.W.Writer.view l.pen) (g.K.Sink.view l.out) (flat_map lines_calls (drop l.file-index l.findings));
  state : state_of (g.W.Writer.view l.pen) ≢ Fresh;
}
