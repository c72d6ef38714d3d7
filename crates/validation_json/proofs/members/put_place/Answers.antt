use Rattle.json_text.proofs.MakingLemmas.{Wrote-append, Wrote-last}
use Rattle.validation_json.proofs.members.put_place.Goals as goal

pub returns : goal.returns
returns g c = Wrote-append _ _ _ _ _ _ _ _ c.number_member.ensures (Wrote-last _ _ _ _ _ c.number_member-2.ensures)
