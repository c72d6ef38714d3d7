use Rattle.std.proofs.Common.{ap, ◌∙◌, codes}
use Rattle.std.specs.Prelude.{chars}
use Rattle.json_text.specs.Making.{text_member}
use Rattle.json_text.proofs.MakingLemmas.{Wrote-same}
use Rattle.findings_json.proofs.KindLemmas.{chars-kind}
use Rattle.findings_json.proofs.findings.put_kind.Goals as goal

pub returns : goal.returns
returns g c =
    Wrote-same _ _ _ _ _ _ (ap (text_member (codes "kind")) (ap chars c.kind_text.ensures ∙ chars-kind c.args.outcome c.args.level)) c.text_member.ensures
