use Rattle.json_text.proofs.MakingLemmas.{Wrote-append, Wrote-last, Wrote-object}
use Rattle.findings_json.proofs.printing.put_finding.Goals as goal

pub returns : goal.returns
returns g c =
    Wrote-object _ _ _ _ _ _ _ _ _ _ c.begin_item.ensures
    (Wrote-append _ _ _ _ _ _ _ _ c.put_rules.ensures
    (Wrote-append _ _ _ _ _ _ _ _ c.put_head.ensures (Wrote-last _ _ _ _ _ c.put_message.ensures)))
    c.end.ensures.prints c.end.ensures.state
