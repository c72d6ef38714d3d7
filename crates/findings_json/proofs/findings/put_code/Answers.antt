use Rattle.std.proofs.Common.{ap, sym, ◌∙◌, codes}
use Rattle.std.specs.Prelude.{chars}
use Rattle.json_text.specs.Making.{text_member}
use Rattle.json_text.proofs.MakingLemmas.{Wrote-same}
use Rattle.findings_json.specs.FindingsJson.{code_member}
use Rattle.findings_json.proofs.KindLemmas.{chars-code}
use Rattle.findings_json.proofs.findings.put_code.Goals as goal

pub returns-in-Error : goal.returns-in-Error
returns-in-Error g c =
    Wrote-same _ _ _ _ _ _
    (ap (text_member (codes "code")) (ap chars c.code_of.ensures ∙ chars-code c.in-Error.error) ∙ sym (ap code_member c.in-Error.is)) c.text_member.ensures
