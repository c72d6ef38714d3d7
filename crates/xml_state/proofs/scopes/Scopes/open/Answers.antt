use Rattle.xml_state.proofs.ScopeLemmas.{nested_still}
use Rattle.xml_state.proofs.scopes.Scopes.open.Goals as goal

pub invariant_of-self-in_err-push : goal.invariant_of-self-in_err-push
invariant_of-self-in_err-push c = record {
  scoped = record {
    nested = nested_still _ _ _ _ _ _ c.in_err-push.ensures.items c.in_ok-extend_from_slice.ensures.items c.self.invariant.scoped.nested;
    below = c.self.invariant.scoped.below;
    kept = c.self.invariant.scoped.kept;
  };
  found = c.self.invariant.found;
}
