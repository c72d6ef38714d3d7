use Rattle.json_text.proofs.MakingLemmas.{Wrote-append, Wrote-last, Wrote-object}
use Rattle.validation_json.proofs.findings.FaultFormForm.put.Goals as goal

pub returns : goal.returns
returns g c =
    Wrote-object _ _ _ _ _ _ _ _ _ _ c.begin_item.ensures
    (Wrote-append _ _ _ _ _ _ _ _ c.put_kind.ensures
    (Wrote-append _ _ _ _ _ _ _ _ c.put_term.ensures
    (Wrote-append _ _ _ _ _ _ _ _ c.put_name.ensures (Wrote-last _ _ _ _ _ c.put_located.ensures))))
    c.end.ensures.prints c.end.ensures.state
