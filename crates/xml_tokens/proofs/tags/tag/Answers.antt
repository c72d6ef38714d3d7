use Rattle.std.proofs.Common.{subst}
use Rattle.std.specs.Prelude.{IfOk}
use Rattle.xml_tokens.specs.Told.{Tells}
use Rattle.xml_tokens.proofs.TagLemmas.{start-tag, end-tag}
use Rattle.xml_tokens.proofs.tags.tag.Goals as goal

pub returns-in-Some : goal.returns-in-Some
returns-in-Some c = subst (λ r. Tells c.end_tag.result r) (end-tag c.args.inside.now c.in-Some.name.now c.in-Some.ensures) c.end_tag.ensures

pub returns-in-None : goal.returns-in-None
returns-in-None c = subst (λ r. IfOk c.start_tag.result (λ read. Tells read r)) (start-tag c.args.inside.now c.in-None.ensures) c.start_tag.ensures
