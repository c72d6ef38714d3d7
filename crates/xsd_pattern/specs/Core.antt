-- The few operators to which patterns come down.
use Rattle.std.specs.Prelude.{◌≡◌, List, [], ℕ, suc, zero, Bool, true, false, ◌&&◌, ◌||◌, Option, Some, None, ◌⊎◌}
use Rattle.xsd_pattern.specs.Cuts.{Cut, AllIn, joined}
use Rattle.xsd_pattern.specs.Finding.{IsOne}

pub data Core (C : Type 0) : Type 0 where
  nothing : Core C
  one : C → Core C
  both : Core C → Core C → Core C
  either : Core C → Core C → Core C
  maybe : Core C → Core C
  again : Core C → Core C  -- once or more

-- any number of parts
abbrev pub Run : (List ℕ → Type 0) → List ℕ → Type 0
Run P text = (parts : List (List ℕ)) × AllIn P parts × (text ≡ joined parts)

abbrev pub Has : {C : Type 0} → (C → ℕ → Bool) → Core C → List ℕ → Type 0
Has has nothing text = text ≡ []
Has has (one class) text = IsOne has class text
Has has (both r s) text = Cut (Has has r) (Has has s) text
Has has (either r s) text = Has has r text ⊎ Has has s text
Has has (maybe r) text = (text ≡ []) ⊎ Has has r text
Has has (again r) text = Cut (Has has r) (Run (Has has r)) text

-- so many of these, and then the rest
abbrev pub times : {C : Type 0} → ℕ → Core C → Core C → Core C
times zero r rest = rest
times (suc n) r rest = both r (times n r rest)

-- at most so many, or any number
abbrev pub up_to : {C : Type 0} → Option ℕ → Core C → Core C
up_to None r = maybe (again r)
up_to (Some n) r = times n (maybe r) nothing

-- the empty text is one of it
abbrev pub is_empty : {C : Type 0} → Core C → Bool
is_empty nothing = true
is_empty (one class) = false
is_empty (both r s) = is_empty r && is_empty s
is_empty (either r s) = is_empty r || is_empty s
is_empty (maybe r) = true
is_empty (again r) = is_empty r
