-- Faults as the code keeps them, the first of faults found one after another, and all of them in their order.
use Rattle.std.specs.Prelude.{ℕ, Bool, false, not, List, [], ◌∷◌, ◌++◌, Option, Some, None}
use Rattle.std.specs.Ordering.{nat_cmp, is_eq, is_lt}
use Rattle.std.specs.Cmp.Lexicographic.{slice_cmp}
use Rattle.std.specs.Map.{lookup}
use Rattle.bind_meaning.specs.declared.fault.BindFault.{BindFault}
use Rattle.bind_meaning.specs.declared.fault.BindKind.{BindKind}
use Rattle.bind_meaning.specs.Judging.{Found, earlier, rank}
use Rattle.bind_terms.specs.declared.found.Found.{Found as Kept}
use Rattle.bind_terms.specs.declared.found.Spot.{Spot}
use Rattle.bind_terms.specs.declared.found.Side.{Side}
use Rattle.bind_terms.specs.declared.found.Side.TheVariants as sides

-- the numbers of a spot
abbrev pub side_of : Side → List ℕ
side_of (sides.At row) = 0 ∷ (row ∷ [])
side_of (sides.Behind around place) = 1 ∷ (around ∷ place)

abbrev pub spot_of : Spot → List ℕ
spot_of s = s.node ∷ side_of s.side

-- the place of a fault of some kind at a spot
abbrev pub side_place : Side → BindKind → List ℕ
side_place (sides.At row) kind = 0 ∷ (row ∷ (rank kind ∷ []))
side_place (sides.Behind around place) kind = 1 ∷ (around ∷ place)

abbrev pub place_of : Spot → BindKind → List ℕ
place_of s kind = s.node ∷ side_place s.side kind

abbrev pub found_of : Kept → Found
found_of kept = record { place = place_of kept.spot kept.fault.kind; fault = kept.fault }

-- the same of an entry
abbrev pub found_in : Spot × BindFault → Found
found_in e = record { place = place_of e.0 e.1.kind; fault = e.1 }

-- the first of the faults so far, and of one more
abbrev pub with_found : Option Found → Found → Option Found
with_found None b = Some b
with_found (Some a) b = Some (earlier a b)

abbrev pub least_of : Option Found → List Found → Option Found
least_of so_far [] = so_far
least_of so_far (b ∷ others) = least_of (with_found so_far b) others

-- ---- what receives faults: what holds of it where it was given some, before and after it was given these behind them

abbrev pub Puts : (List Found → Type 0) → (List Found → Type 0) → List Found → Type 0
Puts was is more = (before : List Found) → was before → is (before ++ more)

-- ---- what is kept at a spot

abbrev pub kept_fault : Spot → List (Spot × BindFault) → Option BindFault
kept_fault s entries = lookup (λ other. is_eq (slice_cmp nat_cmp (spot_of s) (spot_of other))) entries

-- The first one at the spot stays, so the other isn't kept.
abbrev pub is_behind : Option BindFault → Kept → Bool
is_behind None kept = false
is_behind (Some first) kept = not (is_lt (slice_cmp nat_cmp (place_of kept.spot kept.fault.kind) (place_of kept.spot first.kind)))
