use Rattle.std.proofs.Common.{ap, sym, ◌∙◌}
use Rattle.std.specs.List.{list_any}
use Rattle.document_jobs.specs.Checks.{counts}
use Rattle.document_jobs.proofs.CheckLemmas.{one_counts, none_counts, nothing_counts}
use Rattle.document_jobs.proofs.checks.finding_status.Goals as goal

pub returns-then-any_counts : goal.returns-then-any_counts
returns-then-any_counts c =
    let so = ap (list_any counts) (sym c.lines.ensures) ∙ (sym c.any_counts.ensures ∙ c.if-any_counts.true) in
    sym (one_counts c.args.found.now c.files.file-index c.file-item.result c.files-test.true c.file-item.is so) ∙ c.files.invariant

pub files-preserved : goal.files-preserved
files-preserved c =
    let so = ap (list_any counts) (sym c.lines.ensures) ∙ (sym c.any_counts.ensures ∙ c.if-any_counts.false) in
    none_counts c.args.found.now c.files.file-index c.file-item.result c.files-test.true c.file-item.is so ∙ c.files.invariant

pub returns : goal.returns
returns c = sym (nothing_counts c.args.found.now c.files.file-index c.files-test.false) ∙ c.files.invariant
