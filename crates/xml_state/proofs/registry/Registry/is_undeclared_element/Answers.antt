use Rattle.std.proofs.Common.{ap, ◌∙◌}
use Rattle.xml_state.specs.Recent.{are_right, is_element}
use Rattle.xml_state.proofs.RecentLemmas.{element-declared}
use Rattle.xml_state.proofs.registry.Registry.is_undeclared_element.Goals as goal

pub returns-in-Some : goal.returns-in-Some
returns-in-Some c =
    let registry = c.self.inside in
    element-declared registry.scopes _ c.self.view_is c.args.name.now _
    (c.in-Some.ensures (is_element registry.scopes) (ap (are_right (is_element registry.scopes) registry.stamp) c.deref.ensures.value ∙
    c.self.invariant.elements_are))
