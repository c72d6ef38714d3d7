use Rattle.std.proofs.Common.{ap, ◌∙◌, chars}
use Rattle.inv_base.specs.Tree.{Name}
use Rattle.xml_events.proofs.NameLemmas.{name_at-kept}
use Rattle.xml_events.proofs.names.NameTable.local.Goals as goal

pub returns : goal.returns
returns c = ap chars c.as_str.ensures.value ∙ ap (λ (name : Name). name.local) (name_at-kept _ _ _ c.at.result.now _ _ c.at.ensures c.self.view_is c.id.view_is)
