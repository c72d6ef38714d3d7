use Rattle.std.proofs.Common.{ap}
use Rattle.std.specs.Prelude.{chars}
use Rattle.json_text.proofs.MakingLemmas.{Wrote-same, Wrote-append, Wrote-last, Wrote-object, Printed-document}
use Rattle.findings_json.specs.FindingsJson.{counts_member, names_of, findings_json}
use Rattle.findings_json.proofs.printing.print_findings.Goals as goal

pub returns : goal.returns
unfolding findings_json
returns g c =
    let counted = Wrote-same _ _ _ _ _ _ (ap counts_member c.tally_of.ensures) c.put_counts.ensures in
    Printed-document (findings_json (chars c.args.file.now) (names_of c.args.rules.now) c.args.findings.now) _ _ _ _ _ _ c.new-pen.ensures.state
    c.new-pen.ensures.printer
    (Wrote-object _ _ _ _ _ _ _ _ _ _ c.begin_item.ensures
    (Wrote-append _ _ _ _ _ _ _ _ c.text_member.ensures
    (Wrote-append _ _ _ _ _ _ _ _ c.put_findings.ensures (Wrote-last _ _ _ _ _ counted)))
    c.end.ensures.prints c.end.ensures.state)
    c.finish.ensures
