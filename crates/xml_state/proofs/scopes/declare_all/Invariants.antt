use Rattle.std.proofs.Common.{◌≡◌, map}
use Rattle.std.specs.Borrow.{Bor}
use Rattle.xml_tokens.specs.Seen.{seen_attribute}
use Rattle.xml_tokens.specs.declared.token.Attribute.{Attribute}
use Rattle.xml_state.specs.Scopes.{bindings_of, AreFound, Grows}
use Rattle.xml_state.proofs.ScopeLemmas.{declared_after}
use Rattle.xml_state.proofs.scopes.declare_all.Given as goal

abbrev pub invariant-loop-attribute : goal.invariant-loop-attribute
invariant-loop-attribute l = record {
  done : bindings_of l.spaces l.bindings.items ≡ declared_after (bindings_of l.initial.spaces l.initial.bindings.items)
      (map (λ (attribute : Bor Attribute). seen_attribute attribute.now) l.yielded);
  grows : Grows l.initial.spaces l.spaces l.initial.bindings.items l.bindings.items;
  found : AreFound l.shown l.bindings.items;
}
