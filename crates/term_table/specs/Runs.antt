-- Seats in listing order, and those of one context among them, which stand together.
use Rattle.std.specs.Prelude.{◌≡◌, ℕ, Bool, true, false, ◌||◌, List, Some, is_some, is_none, All, AllPairs}
use Rattle.term_table.specs.declared.contexts.Context.{Context}
use Rattle.term_table.specs.declared.contexts.Seat.{Seat}
use Rattle.term_table.specs.Contexts.{is_inside}
use Rattle.term_table.specs.Places.{seat_place, precedes}

-- Both have a place, and the second may stand behind the first: its place is the same or a later one.
pub record MayFollow (a b : Seat) : Type 0 where
  pub first : List ℕ
  pub second : List ℕ
  pub first_is : seat_place a ≡ Some first
  pub second_is : seat_place b ≡ Some second
  pub order : precedes second first ≡ false

-- Each seat has a place, and none comes before one ahead of it.
pub record IsInOrder (seats : List Seat) : Type 0 where
  pub placed : All (λ (seat : Seat). is_some (seat_place seat) ≡ true) seats
  pub order : AllPairs MayFollow seats

-- An inner slot stands in an outer one. So it is wherever a term stands.
abbrev pub IsNested : Context → Type 0
IsNested context = (is_some context.outer || is_none context.inner) ≡ true

-- The seat is in the context or inside it.
abbrev pub is_in : Context → Seat → Bool
is_in context seat = is_inside context seat.context
