use Rattle.json_text.proofs.MakingLemmas.{Wrote-append, Wrote-last}
use Rattle.validation_json.proofs.members.put_located.Goals as goal

pub returns : goal.returns
returns g c = Wrote-append _ _ _ _ _ _ _ _ c.put_text.ensures (Wrote-last _ _ _ _ _ c.put_place.ensures)
