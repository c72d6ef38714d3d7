use Rattle.std.proofs.Common.{List, ℕ, true, false, sym, subst}
use Rattle.std.specs.Prelude.{chars, encode_utf8_all}
use Rattle.std.proofs.lemmas.Simd.{map-map}
use Rattle.inv_base.specs.Printing.{Printed}
use Rattle.json_text.specs.Layout.{document}
use Rattle.findings_json.specs.FindingsJson.{findings_json, names_of}
use Rattle.job_protocol.specs.Views.{text_of}
use Rattle.document_jobs.proofs.checks.write_json.Goals as goal

pub returns-then-print_findings : goal.returns-then-print_findings
returns-then-print_findings g c =
    let text : List (List ℕ) → List ℕ = λ names. encode_utf8_all (document (findings_json (chars c.args.file.now) names c.args.found.now)) in
    subst (λ names. Printed true (text names) (g.O.Sink.view c.args.out.now) (g.O.Sink.view c.print_findings.new.out))
    (sym (map-map chars text_of c.args.rules.now))
    (subst (λ failed. Printed failed (text (names_of c.args.rules.now)) (g.O.Sink.view c.args.out.now) (g.O.Sink.view c.print_findings.new.out))
    c.if-print_findings.true
    c.print_findings.ensures)

pub returns : goal.returns
returns g c =
    let text : List (List ℕ) → List ℕ = λ names. encode_utf8_all (document (findings_json (chars c.args.file.now) names c.args.found.now)) in
    subst (λ names. Printed false (text names) (g.O.Sink.view c.args.out.now) (g.O.Sink.view c.print_findings.new.out))
    (sym (map-map chars text_of c.args.rules.now))
    (subst (λ failed. Printed failed (text (names_of c.args.rules.now)) (g.O.Sink.view c.args.out.now) (g.O.Sink.view c.print_findings.new.out))
    c.if-print_findings.false
    c.print_findings.ensures)
