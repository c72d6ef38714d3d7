use Rattle.std.proofs.Common.{◌≡◌, length, take}
use Rattle.xml_state.specs.Scopes.{AreFound}
use Rattle.xml_state.proofs.scopes.unbind_to.Given as goal

abbrev pub invariant-bindings : goal.invariant-bindings
invariant-bindings l = record {
  front : take l.inside l.bindings.items ≡ take l.inside l.initial.bindings.items;
  found : AreFound l.shown l.bindings.items;
}

abbrev pub decreases-bindings : goal.decreases-bindings
decreases-bindings l = length l.bindings.items
