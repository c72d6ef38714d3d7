use Rattle.json_text.proofs.MakingLemmas.{Wrote-append, Wrote-last, Wrote-object}
use Rattle.validation_json.proofs.elements.put_node.Goals as goal

pub returns : goal.returns
returns g c =
    Wrote-object _ _ _ _ _ _ _ _ _ _ c.begin_item.ensures
    (Wrote-append _ _ _ _ _ _ _ _ c.put_located.ensures (Wrote-last _ _ _ _ _ c.put_text.ensures)) c.end.ensures.prints c.end.ensures.state
