use Rattle.std.proofs.Common.{ap}
use Rattle.json_text.specs.Making.{text_member}
use Rattle.json_text.proofs.MakingLemmas.{Wrote-same}
use Rattle.findings_json.proofs.findings.put_text.Goals as goal

pub returns : goal.returns
returns g c = Wrote-same _ _ _ _ _ _ (ap (text_member c.args.name.now) c.as_str.ensures) c.text_member.ensures
