use Rattle.std.proofs.Common.{ap, arith}
use Rattle.json_text.proofs.MakingLemmas.{Leads-same, Leads-step, Leads-end, Wrote-same}
use Rattle.findings_json.specs.FindingsJson.{file_objects, names_of}
use Rattle.findings_json.proofs.FileLemmas.{next-file, last-file}
use Rattle.findings_json.proofs.printing.put_files.Goals as goal

pub files-preserved : goal.files-preserved
files-preserved g c =
    let names = names_of c.args.rules.now in
    let wrote = Wrote-same _ _ _ _ _ _ (λ i. file_objects (c.name_at.ensures i) (c.lines.ensures i)) c.put_lines.ensures in
    Leads-step _ _ _ _ _ _ _ _ _
    (Leads-same _ _ _ _ _ _ _ (next-file names c.args.findings.now c.files.k c.index-findings-k.result c.files-test.true c.index-findings-k.is) c.files.invariant)
    wrote

pub returns : goal.returns
returns g c =
    Leads-end _ _ _ _ _
    (Leads-same _ _ _ _ _ _ _ (last-file (names_of c.args.rules.now) c.args.findings.now c.files.k (omega (arith, c.files-test.false))) c.files.invariant)
