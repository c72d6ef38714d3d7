use Rattle.std.proofs.Common.{ap, ◌∙◌}
use Rattle.xml_state.specs.Recent.{are_right, is_attribute}
use Rattle.xml_state.proofs.RecentLemmas.{recalled-more, attribute-number, attribute-adds, attribute-kept}
use Rattle.xml_state.proofs.registry.Registry.number_attribute.Goals as goal

pub returns-in-Some-clause-number : goal.returns-in-Some-clause-number
returns-in-Some-clause-number c =
    let registry = c.self.inside in
    attribute-number registry.scopes _ c.self.view_is c.args.name.now _
    (c.in-Some.ensures (is_attribute registry.scopes) (ap (are_right (is_attribute registry.scopes) registry.stamp) c.deref.ensures.value ∙
    c.self.invariant.attributes_are))

pub returns-in-Some-clause-names : goal.returns-in-Some-clause-names
returns-in-Some-clause-names c =
    let registry = c.self.inside in
    attribute-adds registry.scopes _ c.self.view_is c.args.name.now _
    (c.in-Some.ensures (is_attribute registry.scopes) (ap (are_right (is_attribute registry.scopes) registry.stamp) c.deref.ensures.value ∙
    c.self.invariant.attributes_are))

pub invariant_of-self-in-Continue-branch-2 : goal.invariant_of-self-in-Continue-branch-2
invariant_of-self-in-Continue-branch-2 c =
    attribute-kept c.self.inside.scopes c.number_attribute.new.self c.self.inside.stamp c.self.inside.elements.items c.self.inside.attributes.items
    c.keep_recent.new.slots.items c.args.name.now
    c.parts_of.result.0.now c.parts_of.result.1.now c.in_ok-id.id c.is_unbound.result c.self.invariant c.parts_of.ensures.prefix c.parts_of.ensures.local
    c.is_unbound.ensures c.if-not-is_unbound.true
    c.in_ok-id.ensures.number c.in_ok-id.ensures.names c.keep_recent.ensures

pub invariant_of-self-in_err-keep_recent : goal.invariant_of-self-in_err-keep_recent
invariant_of-self-in_err-keep_recent c =
    attribute-kept c.self.inside.scopes c.number_attribute.new.self c.self.inside.stamp c.self.inside.elements.items c.self.inside.attributes.items
    c.keep_recent.new.slots.items c.args.name.now
    c.parts_of.result.0.now c.parts_of.result.1.now c.in_ok-id.id c.is_unbound.result c.self.invariant c.parts_of.ensures.prefix c.parts_of.ensures.local
    c.is_unbound.ensures c.if-not-is_unbound.true
    c.in_ok-id.ensures.number c.in_ok-id.ensures.names c.keep_recent.ensures

pub invariant_of-self-else-not-is_unbound : goal.invariant_of-self-else-not-is_unbound
invariant_of-self-else-not-is_unbound c = recalled-more c.self.inside.scopes c.number_attribute.new.self _ c.self.inside.stamp _ _ c.in_ok-id.ensures.names
    c.self.invariant
