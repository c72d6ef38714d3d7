-- The contexts of a document, one after another.
use Rattle.std.specs.Prelude.{◌≡◌, ℕ, ◌-◌, Bool, true, false, List, [], ◌∷◌, ◌++◌, flat_map, Option, Some, None}
use Rattle.std.specs.List.{list_any}
use Rattle.std.specs.Ordering.{nat_cmp, is_eq}
use Rattle.std.specs.Cmp.Lexicographic.{slice_cmp}
use Rattle.inv_base.specs.Tree.{Node}
use Rattle.term_table.specs.declared.contexts.Slot.{Slot}
use Rattle.term_table.specs.declared.contexts.Context.{Context}
use Rattle.term_table.specs.declared.contexts.Seat.{Seat}
use Rattle.term_table.specs.Contexts.{same_context, outer_context}
use Rattle.term_table.specs.Places.{place}
use Rattle.inv_terms.specs.declared.violations.ModelViolation.{ModelViolation}
use Rattle.bind_meaning.specs.declared.fault.BindKind.TheVariants as kinds
use Rattle.bind_meaning.specs.declared.picked.Seated.{Seated}
use Rattle.bind_meaning.specs.declared.picked.PlacedPick.{PlacedPick}
use Rattle.bind_meaning.specs.Seats.{Room, each_once}
use Rattle.bind_meaning.specs.Judging.{Found, found, depth, name_of}
use Rattle.bind_meaning.specs.Faults.{violations_in}
use Rattle.bind_terms.specs.Faults.{Puts}
use Rattle.bind_terms.specs.Telling.{context_in}

abbrev pub room_at : Context → ℕ → Room
room_at context element = record { context = context; element = element }

abbrev pub missing_found : Context → ℕ → ℕ → ModelViolation → Found
missing_found context element last violation = found (last ∷ (1 ∷ ((2 - depth context) ∷ violation.place))) kinds.Missing (name_of violation.fault) element

-- a place of the context among contexts
abbrev pub room_key : Context → List ℕ
room_key context = place 181 context

-- One of the rooms has the context.
abbrev pub has_room : List Room → Context → Bool
has_room before context = list_any (λ (room : Room). same_context room.context context) before

-- the room of a seat
abbrev pub rooms_at : Context → Option Seated → List Room
rooms_at context seat = elim seat [ None ↦ [] | Some s ↦ room_at context s.element ∷ [] ]

abbrev pub has_key : List (List ℕ) → List ℕ → Bool
has_key keys key = list_any (λ other. is_eq (slice_cmp nat_cmp key other)) keys

-- The keys are those of the contexts of the rooms.
abbrev pub AreKeysOf : List Room → List (List ℕ) → Type 0
AreKeysOf before keys = (context : Context) → has_key keys (room_key context) ≡ has_room before context

-- the rooms of a pick, the outer one first
abbrev pub pick_rooms : PlacedPick → List Room
pick_rooms pick = rooms_at (outer_context (context_in pick)) pick.outer ++ rooms_at (context_in pick) pick.inner

-- a room, unless it was seen
abbrev pub once_if : Bool → Room → List Room
once_if true room = []
once_if false room = room ∷ []

-- the room of a seat, unless its context is one of those before
abbrev pub unseen : List Room → Context → Option Seated → List Room
unseen before context seat = elim seat [
  | None ↦ []
  | Some s ↦ once_if (has_room before context) (room_at context s.element)
]

-- Behind the rooms before, the keys are those of one more, and what is missing in it was given, unless it was seen.
pub record SeesMore (nodes : List Node) (seats : List Seat) (before : List Room) (context : Context) (seat : Option Seated) (keys : List (List ℕ))
    (was given : List Found → Type 0) : Type 0 where
  pub keys_are : AreKeysOf (before ++ rooms_at context seat) keys
  pub puts : Puts was given (flat_map (violations_in nodes seats) (unseen before context seat))

-- The keys are those of the rooms so far, and what receives faults was given what is missing in each room once, behind those before.
pub record Seen (nodes : List Node) (seats : List Seat) (first : List Found → Type 0) (before : List Room) (keys : List (List ℕ))
    (given : List Found → Type 0) : Type 0 where
  pub keys_are : AreKeysOf before keys
  pub puts : Puts first given (flat_map (violations_in nodes seats) (each_once before))

-- ---- one pick behind another

-- The rooms of the last pick's context are among those before.
pub record WereSeen (before : List Room) (last : Context) : Type 0 where
  pub outer : (slot : Slot) → last.outer ≡ Some slot → has_room before (outer_context last) ≡ true
  pub inner : (slot : Slot) → last.inner ≡ Some slot → has_room before last ≡ true

-- what received faults, with those of the rooms before
abbrev pub behind_rooms : List Node → List Seat → List Room → (List Found → Type 0) → List Found → Type 0
behind_rooms nodes seats before was fs = was (fs ++ flat_map (violations_in nodes seats) (each_once before))

-- Behind whatever was seen before, with the rooms of the last pick, the rooms of this one are seen.
abbrev pub SeesPick : List Node → List Seat → PlacedPick → Context → List (List ℕ) → List (List ℕ) → (List Found → Type 0) → (List Found → Type 0) → Type 0
SeesPick nodes seats pick last keys more was given =
    (before : List Room) → WereSeen before last → AreKeysOf before keys
    → Seen nodes seats (behind_rooms nodes seats before was) (before ++ pick_rooms pick) more given
