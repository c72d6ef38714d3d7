-- Listing order: where a term of a context stands in an invoice. EN 16931-1 lists terms and groups in one order; an
-- invoice lists each occurrence of a group whole where the group begins, one occurrence behind the other, and so inside
-- it.
use Rattle.std.specs.Prelude.{ℕ, Bool, false, List, [], ◌∷◌, ◌++◌, Option, Some, None, option_map, position, unwrap_or}
use Rattle.std.specs.Ordering.{nat_cmp, is_lt}
use Rattle.std.specs.Cmp.Lexicographic.{slice_cmp}
use Rattle.term_table.specs.declared.groups.Group.{Group}
use Rattle.term_table.specs.declared.terms.Term.{Term}
use Rattle.term_table.specs.declared.terms.TermRow.{TermRow}
use Rattle.term_table.specs.declared.contexts.Slot.{Slot}
use Rattle.term_table.specs.declared.contexts.Context.{Context}
use Rattle.term_table.specs.declared.contexts.Seat.{Seat}
use Rattle.term_table.specs.SemanticModel.{terms}
use Rattle.term_table.specs.Groups.{same_group}
use Rattle.term_table.specs.Rows.{row_of}

-- where a group begins: the number of its first row
unfoldable pub first_row : Group → ℕ
first_row group = unwrap_or (position (λ (row : TermRow). same_group row.group group) terms) 0

-- where the group of the slot begins and the number of the occurrence; without a slot the row itself
abbrev pub slot_place : ℕ → Option Slot → List ℕ
slot_place row None = row ∷ 0 ∷ []
slot_place row (Some slot) = first_row slot.group ∷ slot.index ∷ []

-- the place of a row in a context: five numbers, that of the outer slot, that of the inner slot, the row
abbrev pub place : ℕ → Context → List ℕ
place row context = slot_place row context.outer ++ (slot_place row context.inner ++ row ∷ [])

-- the place of a term in a context, where it has such a context
abbrev pub place_of : Term → Context → Option (List ℕ)
place_of term context = option_map (λ row. place row context) (row_of term context)

-- the place of a seat
abbrev pub seat_place : Seat → Option (List ℕ)
seat_place seat = place_of seat.term seat.context

-- The first place comes before the second.
abbrev pub precedes : List ℕ → List ℕ → Bool
precedes a b = is_lt (slice_cmp nat_cmp a b)

-- Both have a place, and that of the first comes before that of the second.
abbrev pub comes_before : Seat → Seat → Bool
comes_before a b = elim (seat_place a) [ None ↦ false | Some p ↦ elim (seat_place b) [ None ↦ false | Some q ↦ precedes p q ] ]
