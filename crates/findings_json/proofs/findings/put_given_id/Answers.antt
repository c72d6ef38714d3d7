use Rattle.std.proofs.Common.{ap, codes}
use Rattle.json_text.specs.Making.{text_member}
use Rattle.json_text.proofs.MakingLemmas.{Wrote-same}
use Rattle.findings_json.proofs.findings.put_given_id.Goals as goal

pub returns : goal.returns
returns g c = Wrote-same _ _ _ _ _ _ (ap (text_member (codes "id")) c.as_str.ensures) c.text_member.ensures
