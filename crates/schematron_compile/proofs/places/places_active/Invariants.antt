use Rattle.std.proofs.Common.{◌≡◌, ◌++◌, ℕ, List, Option, length}
use Rattle.std.specs.Vec.Iter.{into_iter_items, into_iter_len}
use Rattle.schematron_compile.specs.Lent.{lent_entries}
use Rattle.schematron_compile.specs.Places as spec
use Rattle.schematron_compile.proofs.places.places_active.Given as goal

-- the places so far, and those that the elements to come name, are all
abbrev pub invariant-actives : goal.invariant-actives
invariant-actives l =
    ((ids : List (Option (List ℕ))) → spec.ArePlaces (spec.places_in l.places) ids
    → l.found.items ++ spec.places_active (lent_entries (into_iter_items l.e-iterator)) 0 ids ≡ spec.places_active (lent_entries l.fn.actives.items) 0 ids)
    × (into_iter_len l.e-iterator ≡ length (into_iter_items l.e-iterator))
