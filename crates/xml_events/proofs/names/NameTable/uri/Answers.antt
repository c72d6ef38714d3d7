use Rattle.std.proofs.Common.{ap, ◌∙◌}
use Rattle.inv_base.specs.Tree.{Name}
use Rattle.xml_events.proofs.NameLemmas.{name_at-kept, within-kept}
use Rattle.xml_events.proofs.names.NameTable.uri.Goals as goal

pub at-requires : goal.at-requires
at-requires c = within-kept _ _ _ c.at-kept.result.now c.at-kept.ensures c.self.invariant.within

pub returns : goal.returns
returns c = c.at.ensures ∙ ap (λ (name : Name). name.uri)
    (name_at-kept c.self.inside.spaces c.self.inside.names _ c.at-kept.result.now _ _ c.at-kept.ensures c.self.view_is c.id.view_is)
