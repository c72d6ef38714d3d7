-- Faults by the elements at which they stand, and the sooner of two.
use Rattle.std.specs.Prelude.{ℕ, true, false, nat_le, List, [], ◌∷◌, Option, Some, None}
use Rattle.schematron_meaning.specs.declared.fault.Fault.{Fault}
use Rattle.schematron_meaning.specs.Entries.{Entry}
use Rattle.schematron_expansion.specs.declared.found.Found.{Found}

-- the first of an element, if it has any
abbrev pub first_at : ℕ → List Fault → Option Found
first_at at [] = None
first_at at (fault ∷ others) = Some (record { at = at; fault = fault })

abbrev pub first_or : Option Found → Option Found → Option Found
first_or None other = other
first_or (Some found) other = Some found

-- the first of some faults of entries
abbrev pub first_by : (Entry → List Fault) → List Entry → Option Found
first_by faults [] = None
first_by faults (e ∷ es) = first_or (first_at e.number (faults e)) (first_by faults es)

abbrev pub sooner_of : Found → Found → Found
sooner_of a b = elim (nat_le a.at b.at) [ true ↦ a | false ↦ b ]

abbrev pub sooner_than : Found → Option Found → Option Found
sooner_than a None = Some a
sooner_than a (Some b) = Some (sooner_of a b)

-- the one at the element before the other's; at one element the first
abbrev pub sooner : Option Found → Option Found → Option Found
sooner None other = other
sooner (Some a) other = sooner_than a other
