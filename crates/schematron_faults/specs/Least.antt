-- The first of the expressions that are refused, by the elements at which their faults stand.
use Rattle.std.specs.Prelude.{ℕ, Bool, true, nat_le, nat_lt, List, [], ◌∷◌, filter, Option, Some, None}
use Rattle.schematron_meaning.specs.Written.{Written}
use Rattle.schematron_meaning.specs.Faults.{refused}
use Rattle.schematron_expansion.specs.declared.found.Found.{Found}
use Rattle.schematron_expansion.specs.Found.{first_at, sooner}

abbrev pub found_of : Written → Option Found
found_of w = first_at w.stand (refused w)

-- of those at one element the first
abbrev pub least : List Written → Option Found
least [] = None
least (w ∷ ws) = sooner (found_of w) (least ws)

-- The element stands before the one of what was found.
abbrev pub is_sooner : Option Found → ℕ → Bool
is_sooner None at = true
is_sooner (Some found) at = nat_lt at found.at

-- The element isn't behind this one, if one is given.
abbrev pub is_up_to : Option ℕ → ℕ → Bool
is_up_to None n = true
is_up_to (Some last) n = nat_le n last

-- those whose faults stand at an element that isn't behind this one
abbrev pub up_to : Option ℕ → List Written → List Written
up_to last ws = filter (λ (w : Written). is_up_to last w.stand) ws

-- the soonest of what was found before and of those
abbrev pub soonest : Option Found → Option ℕ → List Written → Option Found
soonest best last ws = sooner best (least (up_to last ws))
