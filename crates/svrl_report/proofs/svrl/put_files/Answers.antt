use Rattle.svrl_report.specs.Calls.{lines_calls}
use Rattle.svrl_report.proofs.WriterSteps.{loop-err, loop-ok, loop-end}
use Rattle.svrl_report.proofs.svrl.put_files.Goals as goal

pub returns-in_err-put_file-clause-makes : goal.returns-in_err-put_file-clause-makes
returns-in_err-put_file-clause-makes g c =
    loop-err lines_calls c.args.findings.now _ _ _ _ _ _ _ _ _ c.files-test.true c.file-item.is c.files.invariant.ahead c.in_err-put_file.ensures.makes
    c.from_residual.ensures.0

pub files-preserved : goal.files-preserved
files-preserved g c = record {
  ahead = loop-ok lines_calls c.args.findings.now _ _ _ _ _ _ _ _ c.files-test.true c.file-item.is c.files.invariant.ahead c.in_ok-put_file.ensures.makes;
  state = c.in_ok-put_file.ensures.state;
}

pub returns-clause-makes : goal.returns-clause-makes
returns-clause-makes g c = loop-end lines_calls c.args.findings.now _ _ _ _ _ c.files-test.false c.files.invariant.ahead
