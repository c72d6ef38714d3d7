use Rattle.std.proofs.Common.{◌≡◌, ℕ, ◌<◌, Bool, true, List}
use Rattle.xml_state.specs.Recent.{are_right}
use Rattle.xml_state.proofs.recent.add_slots.Given as goal

abbrev pub invariant-slots : goal.invariant-slots
invariant-slots l = (right : List ℕ → ℕ → Bool) (stamp : ℕ) → 0 < stamp → are_right right stamp l.initial.slots.items ≡ true →
    are_right right stamp l.slots.items ≡ true
