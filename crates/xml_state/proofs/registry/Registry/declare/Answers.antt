use Rattle.xml_state.proofs.RecentLemmas.{recalled-earlier}
use Rattle.xml_state.proofs.registry.Registry.declare.Goals as goal

pub invariant_of-self : goal.invariant_of-self
invariant_of-self c = recalled-earlier c.self.inside.scopes c.declare.new.self c.self.inside.stamp _ _ _ c.in_ok-self-inside.ensures c.self.invariant
