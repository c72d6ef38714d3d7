-- The occurrences of groups, as marks, and the picks in them.
use Rattle.std.specs.Prelude.{◌≡◌, ℕ, ◌==◌, Bool, true, false, List, Option, Some, None, option_map, option_and_then, map, filter_map}
use Rattle.term_table.specs.declared.groups.Group.{Group}
use Rattle.term_table.specs.Groups.{number_of, same_group}
use Rattle.bind_rows.specs.declared.rows.Row.{Row}
use Rattle.bind_meaning.specs.declared.picked.Picked.{Picked}
use Rattle.bind_meaning.specs.declared.picked.Seated.{Seated}
use Rattle.bind_meaning.specs.declared.picked.PlacedPick.{PlacedPick}
use Rattle.bind_seats.specs.declared.marks.Mark.{Mark}
use Rattle.bind_seats.specs.Marks.{rises, has_mark, place_of}
use Rattle.bind_seats.specs.Rowed.{row_at}

-- an element that is an occurrence of the group in an element; those of an outer group are in the document
abbrev pub group_mark : ℕ → Group → ℕ → Mark
group_mark n group m = record { around = n; kind = number_of group; number = m }

abbrev pub outer_mark : Row → Picked → Option Mark
outer_mark row q = option_and_then (λ group. option_map (group_mark 0 group) q.outer) row.outer

abbrev pub inner_mark : Row → Picked → Option Mark
inner_mark row q = option_and_then (λ group. option_and_then (λ n. option_map (group_mark n group) q.inner) q.outer) row.inner

abbrev pub outer_marks : List Row → List Picked → List Mark
outer_marks rows qs = filter_map (λ (q : Picked). outer_mark (row_at rows q.row) q) qs

abbrev pub inner_marks : List Row → List Picked → List Mark
inner_marks rows qs = filter_map (λ (q : Picked). inner_mark (row_at rows q.row) q) qs

-- the occurrence of the group that the element is
abbrev pub seat_at : List Mark → ℕ → Group → ℕ → Seated
seat_at marks n group m = record { slot = record { group = group; index = place_of marks (group_mark n group m) }; element = m }

-- it is that of the group at the element
abbrev pub is_of : Seated → Group → ℕ → Bool
is_of seat group m = elim (seat.element == m) [ true ↦ same_group seat.slot.group group | false ↦ false ]

-- The occurrence, if any, is one of an outer group by these marks.
abbrev pub IsOuterSeat : List Mark → Option Seated → Type 0
IsOuterSeat marks None = Unit {0}
IsOuterSeat marks (Some seat) = seat ≡ seat_at marks 0 seat.slot.group seat.element

abbrev pub outer_seat_of : List Mark → Row → Picked → Option Seated
outer_seat_of marks row q = option_and_then (λ group. option_map (seat_at marks 0 group) q.outer) row.outer

abbrev pub inner_seat_of : List Mark → Row → Picked → Option Seated
inner_seat_of marks row q = option_and_then (λ group. option_and_then (λ n. option_map (seat_at marks n group) q.inner) q.outer) row.inner

-- a pick in its occurrences, by the marks of outer ones and of inner ones
abbrev pub seated : List Row → List Mark → List Mark → Picked → PlacedPick
seated rows outers inners q =
    record { node = q.node; row = q.row; outer = outer_seat_of outers (row_at rows q.row) q; inner = inner_seat_of inners (row_at rows q.row) q }

abbrev pub all_seated : List Row → List Mark → List Mark → List Picked → List PlacedPick
all_seated rows outers inners qs = map (seated rows outers inners) qs

-- Picks are seated by some marks in their order that are those of the picks.
pub record IsSeated (rows : List Row) (qs : List Picked) (seats : List PlacedPick) : Type 0 where
  pub outers : List Mark
  pub inners : List Mark
  pub outer_order : rises outers ≡ true
  pub inner_order : rises inners ≡ true
  pub outer_same : (m : Mark) → has_mark outers m ≡ has_mark (outer_marks rows qs) m
  pub inner_same : (m : Mark) → has_mark inners m ≡ has_mark (inner_marks rows qs) m
  pub seats_are : seats ≡ all_seated rows outers inners qs
