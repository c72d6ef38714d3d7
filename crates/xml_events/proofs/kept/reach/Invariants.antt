use Rattle.std.proofs.Common.{◌≡◌, ℕ, ◌+◌, ◌-◌, List, length}
use Rattle.xml_events.specs.Places.{place_in}
use Rattle.xml_events.proofs.kept.reach.Given as goal

abbrev pub invariant-maps : goal.invariant-maps
invariant-maps l = (n : ℕ) (local : List ℕ) → place_in l.places.items n local ≡ place_in l.initial.places.items n local

abbrev pub decreases-maps : goal.decreases-maps
decreases-maps l = (l.space + 1) - length l.places.items
