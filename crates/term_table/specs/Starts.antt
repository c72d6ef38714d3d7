-- Private functions that search for a context's seats: what they answer. No public clause cites it.
use Rattle.std.specs.Prelude.{ℕ, Bool, true, false, cond, nat_lt, List, [], ◌∷◌, ◌++◌, Option, Some, None}
use Rattle.term_table.specs.declared.contexts.Slot.{Slot}
use Rattle.term_table.specs.declared.contexts.Context.{Context}
use Rattle.term_table.specs.declared.contexts.Seat.{Seat}
use Rattle.term_table.specs.Places.{first_row, precedes, seat_place}

-- what the places in an occurrence begin with
abbrev pub slot_start : Option Slot → List ℕ
slot_start None = []
slot_start (Some slot) = first_row slot.group ∷ slot.index ∷ []

-- what the places in a context and inside it begin with
abbrev pub context_start : Context → List ℕ
context_start context = slot_start context.outer ++ slot_start context.inner

abbrev pub is_before : Context → Option (List ℕ) → Bool
is_before context None = false
is_before context (Some place) = precedes place (context_start context)

-- The seat stands ahead of the context.
abbrev pub stands_before : Context → Seat → Bool
stands_before context seat = is_before context (seat_place seat)

-- two numbers and two others in lexicographic order, and where they are the same, what decides then
abbrev pub by_starts : ℕ → ℕ → ℕ → ℕ → Bool → Bool
by_starts a b x y then = cond (nat_lt a x) true (cond (nat_lt x a) false (cond (nat_lt b y) true (cond (nat_lt y b) false then)))

-- The same of a seat that has a place: by the outer slots alone, where they tell it.
abbrev pub stands_ahead : Context → Seat → Bool
stands_ahead context seat = elim context.outer [
  | None ↦ stands_before context seat
  | Some outer ↦ elim seat.context.outer [
    | None ↦ stands_before context seat
    | Some slot ↦ by_starts (first_row slot.group) slot.index (first_row outer.group) outer.index (stands_before context seat)
  ]
]
