use Rattle.std.proofs.Common.{◌∙◌, ◌++◌, ap, take, arith}
use Rattle.inv_base.proofs.PrintingLemmas.{Prints-append, Prints-same}
use Rattle.svrl_report.specs.Plain.{tally_of}
use Rattle.svrl_report.proofs.PlainLemmas.{one_behind, all_behind, line_more}
use Rattle.svrl_report.proofs.plain.print_lines.Goals as goal

pub lines-preserved : goal.lines-preserved
lines-preserved g c = (
  Prints-same _ _ _ _ _ _ (line_more c.args.lines.now c.lines.line-index c.line-item.result c.lines-test.true c.line-item.is)
      (Prints-append _ _ _ _ _ _ _ _ c.lines.invariant.0 c.print_line.ensures),
  λ before e. c.with-tally.ensures (before ++ take c.lines.line-index c.args.lines.now) (c.lines.invariant.1 before e) ∙
      ap tally_of (one_behind before c.args.lines.now c.lines.line-index c.line-item.result c.lines-test.true c.line-item.is),
)

pub returns-clause-tally : goal.returns-clause-tally
returns-clause-tally g c = λ before e. c.lines.invariant.1 before e ∙
    ap tally_of (all_behind before c.args.lines.now c.lines.line-index (omega (arith, c.lines-test.false)))
