use Rattle.std.proofs.Common.{◌∙◌, ◌++◌, ap, take, arith}
use Rattle.svrl_report.specs.Plain.{tally_of}
use Rattle.svrl_report.proofs.PlainLemmas.{one_behind, all_behind}
use Rattle.findings_json.proofs.printing.with_lines.Goals as goal

pub lines-preserved : goal.lines-preserved
lines-preserved c = λ before e.
    c.with-tally.ensures (before ++ take c.lines.line-index c.args.lines.now) (c.lines.invariant before e)
    ∙ ap tally_of (one_behind before c.args.lines.now c.lines.line-index c.line-item.result c.lines-test.true c.line-item.is)

pub returns : goal.returns
returns c = λ before e.
    c.lines.invariant before e
    ∙ ap tally_of (all_behind before c.args.lines.now c.lines.line-index (omega (arith, c.lines-test.false)))
