use Rattle.svrl_report.specs.Calls.{line_calls}
use Rattle.svrl_report.proofs.WriterSteps.{loop-err, loop-ok, loop-end}
use Rattle.svrl_report.proofs.svrl.put_lines.Goals as goal

pub returns-in_err-put_line-clause-makes : goal.returns-in_err-put_line-clause-makes
returns-in_err-put_line-clause-makes g c =
    loop-err line_calls c.args.lines.now _ _ _ _ _ _ _ _ _ c.lines-test.true c.line-item.is c.lines.invariant.ahead c.in_err-put_line.ensures.makes
    c.from_residual.ensures.0

pub lines-preserved : goal.lines-preserved
lines-preserved g c = record {
  ahead = loop-ok line_calls c.args.lines.now _ _ _ _ _ _ _ _ c.lines-test.true c.line-item.is c.lines.invariant.ahead c.in_ok-put_line.ensures.makes;
  state = c.in_ok-put_line.ensures.state;
}

pub returns-clause-makes : goal.returns-clause-makes
returns-clause-makes g c = loop-end line_calls c.args.lines.now _ _ _ _ _ c.lines-test.false c.lines.invariant.ahead
