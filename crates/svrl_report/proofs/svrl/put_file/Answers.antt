use Rattle.std.proofs.Common.{ap}
use Rattle.svrl_report.specs.Calls.{lines_calls}
use Rattle.svrl_report.proofs.WriterSteps.{Makes-same}
use Rattle.svrl_report.proofs.svrl.put_file.Goals as goal

pub returns-clause-makes : goal.returns-clause-makes
returns-clause-makes g c = Makes-same _ _ _ _ _ _ _ (ap lines_calls c.lines.ensures) c.put_lines.ensures.makes
