use Rattle.std.proofs.Common.{ap, ◌∙◌}
use Rattle.xml_state.specs.Recent.{are_right, is_attribute}
use Rattle.xml_state.proofs.RecentLemmas.{attribute-declared}
use Rattle.xml_state.proofs.registry.Registry.is_undeclared_attribute.Goals as goal

pub returns-in-Some : goal.returns-in-Some
returns-in-Some c =
    let registry = c.self.inside in
    attribute-declared registry.scopes _ c.self.view_is c.args.name.now _
    (c.in-Some.ensures (is_attribute registry.scopes) (ap (are_right (is_attribute registry.scopes) registry.stamp) c.deref.ensures.value ∙
    c.self.invariant.attributes_are))
