use Rattle.std.proofs.Common.{ap}
use Rattle.json_text.proofs.MakingLemmas.{Wrote-same}
use Rattle.validation_json.specs.ValidationJson.{name_member}
use Rattle.validation_json.proofs.findings.put_name.Goals as goal

pub returns : goal.returns
returns g c = Wrote-same _ _ _ _ _ _ (ap name_member c.as_str.ensures) c.put_name_text.ensures
