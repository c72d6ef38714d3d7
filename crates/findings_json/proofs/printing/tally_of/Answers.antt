use Rattle.std.proofs.Common.{◌∙◌, ◌++◌, ap, take, arith}
use Rattle.std.proofs.lemmas.List.{take_all}
use Rattle.svrl_report.specs.Plain.{tally_of, all_lines}
use Rattle.svrl_report.proofs.PlainLemmas.{file_more}
use Rattle.findings_json.proofs.printing.tally_of.Goals as goal

pub files-preserved : goal.files-preserved
files-preserved c =
    let before = all_lines (take c.files.file-index c.args.findings.now) in
    c.with_lines-tally.ensures before c.files.invariant
    ∙ (ap (λ lines. tally_of (before ++ lines)) c.lines.ensures
    ∙ ap tally_of (file_more c.args.findings.now c.files.file-index c.file-item.result c.files-test.true c.file-item.is))

pub returns : goal.returns
returns c =
    c.files.invariant
    ∙ ap (λ files. tally_of (all_lines files)) (take_all c.files.file-index c.args.findings.now (omega (arith, c.files-test.false)))
