use Rattle.json_text.proofs.MakingLemmas.{Wrote-array}
use Rattle.validation_json.proofs.elements.put_elements.Goals as goal

pub returns : goal.returns
returns g c = Wrote-array _ _ _ _ _ _ _ _ _ _ c.begin_member.ensures c.put_all_elements.ensures c.end.ensures.prints c.end.ensures.state
