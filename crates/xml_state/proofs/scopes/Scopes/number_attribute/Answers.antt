use Rattle.std.proofs.Common.{ap, ◌∙◌, refl}
use Rattle.std.proofs.lemmas.Result.{err_from_is_err_and}
use Rattle.xml_state.specs.Namespaces.{attribute_uri}
use Rattle.xml_state.specs.Scopes.{InScope, bindings_of}
use Rattle.xml_state.proofs.ScopeLemmas.{takes-named, scoped-grown, scoped-named, named-number, named-scope, named-still, same-scope}
use Rattle.xml_state.proofs.scopes.Scopes.number_attribute.Goals as goal

pub number_attribute_prefix-requires-clause-bound : goal.number_attribute_prefix-requires-clause-bound
number_attribute_prefix-requires-clause-bound c = rw c.deref.ensures.value
    (record { apart = c.self.invariant.scoped.kept.apart; below = c.self.invariant.scoped.below })

pub number_attribute_prefix-requires-clause-found : goal.number_attribute_prefix-requires-clause-found
number_attribute_prefix-requires-clause-found c = rw c.deref.ensures.value c.self.invariant.found

pub invariant_of-self : goal.invariant_of-self
invariant_of-self c = record {
  scoped = scoped-grown c.number_attribute_prefix.result _ _ _ _ _ _ _ c.self.invariant.scoped c.number_attribute_prefix.ensures;
  found = c.self.invariant.found;
}

pub returns-in_err-space-clause-err : goal.returns-in_err-space-clause-err
returns-in_err-space-clause-err c =
    let p = err_from_is_err_and c.from_residual.result c.from_residual.ensures.1 in
    rw p.1 (same-scope c.number_attribute_prefix.result _ _ _ _ _ _ _ _ _ c.self.invariant.scoped c.self.view_is c.number_attribute_prefix.ensures refl)

pub invariant_of-self-2 : goal.invariant_of-self-2
invariant_of-self-2 c =
    let bound = ap (bindings_of c.self.inside.spaces) c.deref.ensures.value ∙ ap (λ (s : InScope). s.bound) c.self.view_is in
    let takes = takes-named _ _ _ _ _ (ap (λ x. attribute_uri x c.args.prefix.now) bound) c.in_ok-space.ensures in
    record {
      scoped = scoped-named c.number_kept.result _ _ _ _ _ _ _ _ _ _ c.self.invariant.scoped c.self.view_is takes c.utf8.local c.number_kept.ensures.names
          c.number_kept.ensures.err;
      found = c.self.invariant.found;
    }

pub returns-clause-number : goal.returns-clause-number
returns-clause-number c =
    let bound = ap (bindings_of c.self.inside.spaces) c.deref.ensures.value ∙ ap (λ (s : InScope). s.bound) c.self.view_is in
    let takes = takes-named _ _ _ _ _ (ap (λ x. attribute_uri x c.args.prefix.now) bound) c.in_ok-space.ensures in
    named-number c.number_kept.result c.self.inside.frames.items c.self.inside.written.items _ _ c.self.inside.bindings.items _ c.number_kept.new.names _ _ _
    c.self.invariant.scoped c.self.view_is takes
    c.utf8.local c.number_kept.ensures.number

pub returns-clause-names : goal.returns-clause-names
returns-clause-names c =
    let bound = ap (bindings_of c.self.inside.spaces) c.deref.ensures.value ∙ ap (λ (s : InScope). s.bound) c.self.view_is in
    let takes = takes-named _ _ _ _ _ (ap (λ x. attribute_uri x c.args.prefix.now) bound) c.in_ok-space.ensures in
    named-scope c.number_kept.result _ _ _ _ _ _ _ _ _ _ c.self.invariant.scoped c.self.view_is takes c.utf8.local c.number_kept.ensures.names

pub returns-clause-err : goal.returns-clause-err
returns-clause-err c =
    let bound = ap (bindings_of c.self.inside.spaces) c.deref.ensures.value ∙ ap (λ (s : InScope). s.bound) c.self.view_is in
    let takes = takes-named _ _ _ _ _ (ap (λ x. attribute_uri x c.args.prefix.now) bound) c.in_ok-space.ensures in
    named-still c.number_kept.result _ _ _ _ _ _ _ _ _ _ c.self.invariant.scoped c.self.view_is takes c.utf8.local c.number_kept.ensures.err
