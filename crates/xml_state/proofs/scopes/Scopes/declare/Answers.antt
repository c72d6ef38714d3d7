use Rattle.std.proofs.Common.{rules}
use Rattle.xml_state.proofs.ScopeLemmas.{cut-bound, declared-scoped, declared-open, declared-bound, declared-names, on_ok}
use Rattle.xml_state.proofs.scopes.Scopes.declare.Goals as goal

pub declare_all-requires-clause-bound : goal.declare_all-requires-clause-bound
declare_all-requires-clause-bound c = rw c.unbind_to.ensures.items (cut-bound _ _ _ c.self.invariant.scoped.kept.apart c.self.invariant.scoped.below)

pub invariant_of-self : goal.invariant_of-self
invariant_of-self c = record {
  scoped =
      declared-scoped c.declare_all.result _ _ _ _ _ _ _ _ _ c.bindings_inside-inside.result _ c.self.invariant.scoped c.self.view_is
      (search rules) c.unbind_to.ensures.items c.declare_all.ensures.declares;
  found = c.declare_all.ensures.found;
}

pub returns-clause-open : goal.returns-clause-open
returns-clause-open c =
    on_ok c.declare_all.result
    (declared-open c.declare_all.result _ _ _ _ _ _ _ _ _ c.bindings_inside-inside.result _ c.self.invariant.scoped c.self.view_is
    (search rules) c.unbind_to.ensures.items c.declare_all.ensures.declares)

pub returns-clause-bound : goal.returns-clause-bound
returns-clause-bound c =
    declared-bound c.declare_all.result _ _ _ _ _ _ _ _ _ c.bindings_inside-inside.result _ c.self.invariant.scoped c.self.view_is
    (search rules) c.unbind_to.ensures.items c.declare_all.ensures.declares

pub returns-clause-names : goal.returns-clause-names
returns-clause-names c =
    on_ok c.declare_all.result
    (declared-names c.declare_all.result _ _ _ _ _ _ _ _ _ c.bindings_inside-inside.result _ c.self.invariant.scoped c.self.view_is
    (search rules) c.unbind_to.ensures.items c.declare_all.ensures.declares)
