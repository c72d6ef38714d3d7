use Rattle.json_text.proofs.MakingLemmas.{Wrote-array}
use Rattle.validation_json.proofs.findings.put_findings.Goals as goal

pub returns : goal.returns
returns g c = Wrote-array _ _ _ _ _ _ _ _ _ _ c.begin_member.ensures c.put_spots.ensures c.end.ensures.prints c.end.ensures.state
