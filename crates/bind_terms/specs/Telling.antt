-- What was told so far, as the code keeps it: what the first pick of each term in each context said, by its place in
-- listing order.
use Rattle.std.specs.Prelude.{◌≡◌, ℕ, Bool, true, List, [], ◌∷◌, All, Option, Some, is_some, option_map, unwrap_or}
use Rattle.std.specs.List.{list_any}
use Rattle.std.specs.Ordering.{nat_cmp, is_eq}
use Rattle.std.specs.Cmp.Lexicographic.{slice_cmp}
use Rattle.std.specs.Map.{lookup}
use Rattle.std.specs.BTreeMap.{insert_entry}
use Rattle.inv_base.specs.Tree.{Node}
use Rattle.code_lists.specs.CodeFiles.{Lists}
use Rattle.term_table.specs.declared.contexts.Seat.{Seat}
use Rattle.term_table.specs.declared.contexts.Context.{Context}
use Rattle.term_table.specs.Rows.{row_of}
use Rattle.term_table.specs.Places.{place, seat_place}
use Rattle.bind_meaning.specs.declared.picked.PlacedPick.{PlacedPick}
use Rattle.bind_meaning.specs.Currencies.{Currencies}
use Rattle.bind_meaning.specs.Seats.{context_of, slot_of}
use Rattle.bind_meaning.specs.Values.{ParsedValue}
use Rattle.bind_meaning.specs.Judging.{Found, Told, seat_of, first_before, faults_behind}
use Rattle.bind_meaning.specs.Terms.{firsts_behind}
use Rattle.bind_terms.specs.declared.firsts.First.{First}

abbrev pub seat_of_first : First → Seat
seat_of_first f = record { term = f.term; context = f.context }

-- what it said
abbrev pub parsed_first : First → ParsedValue
parsed_first f = record { term = f.term; value = f.value }

-- the place of its row in its context
abbrev pub place_of_first : First → List ℕ
place_of_first f = place f.row f.context

-- what was told, as it is kept
abbrev pub first_of : Told → First
first_of t = record {
  row = unwrap_or (row_of t.parsed.term (context_of t.placed)) 0;
  context = context_of t.placed;
  term = t.parsed.term;
  value = t.parsed.value;
}

abbrev pub Entries : Type 0
Entries = List (List ℕ × First)

-- the context of a pick
abbrev pub context_in : PlacedPick → Context
context_in pick = record { outer = slot_of pick.outer; inner = slot_of pick.inner }

-- what is kept at a place
abbrev pub kept_at : List ℕ → Entries → Option First
kept_at place entries = lookup (λ other. is_eq (slice_cmp nat_cmp place other)) entries

-- the place of what was told
abbrev pub told_place : Told → List ℕ
told_place t = unwrap_or (seat_place (seat_of t)) []

-- what was told first of each, in listing order, behind others
abbrev pub arranged : Entries → List Told → Entries
arranged entries [] = entries
arranged entries (t ∷ ts) = arranged (insert_entry (slice_cmp nat_cmp) entries (told_place t) (first_of t)) ts

abbrev pub is_placed : Told → Bool
is_placed t = is_some (seat_place (seat_of t))

abbrev pub IsAtItsPlace : List ℕ × First → Type 0
IsAtItsPlace entry = seat_place (seat_of_first entry.1) ≡ Some entry.0

-- Behind what was told before, these are the entries, and the faults were given to what receives them.
pub record Holds (nodes : List Node) (lists : Lists) (c : Currencies) (before : List Told) (entries : Entries) (given : List Found → Type 0) : Type 0 where
  pub look_up : (t : Told) (place : List ℕ) → seat_place (seat_of t) ≡ Some place → kept_at place entries ≡ option_map first_of (first_before before t)
  pub entries_are : entries ≡ arranged [] (firsts_behind [] before)
  pub at_places : All IsAtItsPlace entries
  pub same_seats : (p : Seat → Bool) → list_any (λ (e : List ℕ × First). p (seat_of_first e.1)) entries ≡ list_any (λ t. p (seat_of t)) before
  pub is_given : given (faults_behind nodes lists c [] before)
  pub placed : All (λ t. is_placed t ≡ true) before
