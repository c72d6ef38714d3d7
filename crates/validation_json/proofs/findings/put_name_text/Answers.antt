use Rattle.std.proofs.Common.{sym, ◌∙◌}
use Rattle.json_text.proofs.MakingLemmas.{Wrote-same, Wrote-nil}
use Rattle.validation_json.proofs.NameLemmas.{nameless, named}
use Rattle.validation_json.proofs.findings.put_name_text.Goals as goal

pub returns-then-is_empty : goal.returns-then-is_empty
returns-then-is_empty g c = Wrote-same _ _ _ _ _ _ (nameless c.args.name.now (sym c.is_empty.ensures ∙ c.if-is_empty.true)) (Wrote-nil _ _)

pub returns : goal.returns
returns g c =
    Wrote-same _ _ _ _ _ _ (named c.args.name.now c.utf8.name (sym c.is_empty.ensures ∙ c.if-is_empty.false)) c.text_member.ensures
