use Rattle.json_text.proofs.MakingLemmas.{Wrote-append, Wrote-last}
use Rattle.findings_json.proofs.findings.put_tally.Goals as goal

pub returns : goal.returns
returns g c =
    Wrote-append _ _ _ _ _ _ _ _ c.number_member.ensures
    (Wrote-append _ _ _ _ _ _ _ _ c.number_member-2.ensures
    (Wrote-append _ _ _ _ _ _ _ _ c.number_member-3.ensures (Wrote-last _ _ _ _ _ c.number_member-4.ensures)))
