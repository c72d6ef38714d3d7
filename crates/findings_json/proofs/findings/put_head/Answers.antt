use Rattle.json_text.proofs.MakingLemmas.{Wrote-append, Wrote-last}
use Rattle.findings_json.proofs.findings.put_head.Goals as goal

pub returns : goal.returns
returns g c =
    Wrote-append _ _ _ _ _ _ _ _ c.put_kind.ensures
    (Wrote-append _ _ _ _ _ _ _ _ c.put_code.ensures
    (Wrote-append _ _ _ _ _ _ _ _ c.put_id.ensures (Wrote-last _ _ _ _ _ c.put_text.ensures)))
