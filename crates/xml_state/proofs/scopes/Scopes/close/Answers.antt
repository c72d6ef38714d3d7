use Rattle.std.proofs.Common.{ap}
use Rattle.xml_state.specs.Scopes.{InScope}
use Rattle.xml_state.proofs.ScopeLemmas.{closed_nested, closed_opened}
use Rattle.xml_state.proofs.scopes.Scopes.close.Goals as goal

pub invariant_of-self : goal.invariant_of-self
invariant_of-self c = record {
  scoped = record {
    nested = rw c.truncate.ensures.items (closed_nested _ _ c.in-Some.frame _ _ c.in-Some.ensures.items c.self.invariant.scoped.nested);
    below = c.self.invariant.scoped.below;
    kept = c.self.invariant.scoped.kept;
  };
  found = c.self.invariant.found;
}

pub returns-in-Some-clause-open : goal.returns-in-Some-clause-open
returns-in-Some-clause-open c =
    rw c.truncate.ensures.items
    (closed_opened c.self.inside.spaces _ _ c.in-Some.frame _ _ _ c.in-Some.ensures.items c.self.invariant.scoped.nested
    (ap (λ (s : InScope). s.open_elements) c.self.view_is))
