-- What is missing in a context: terms and groups that are mandatory (EN 16931-1, sections 6.3 and 6.4). It is judged
-- over seats, terms in contexts, so that what was found for a term counts before it has a value.
use Rattle.std.specs.Prelude.{ℕ, ◌+◌, Bool, true, false, not, ◌&&◌, ◌||◌, ◌==◌, List, [], ◌∷◌, Option, Some, None, if◌then◌else◌}
use Rattle.std.specs.List.{list_any}
use Rattle.term_table.specs.declared.groups.Group.{Group}
use Rattle.term_table.specs.declared.groups.Occurrence.{Occurrence}
use Rattle.term_table.specs.declared.groups.Occurrence.TheVariants as occurs
use Rattle.term_table.specs.declared.terms.Mark.TheVariants as marks
use Rattle.term_table.specs.declared.terms.Term.{Term}
use Rattle.term_table.specs.declared.terms.TermRow.{TermRow}
use Rattle.term_table.specs.declared.contexts.Slot.{Slot}
use Rattle.term_table.specs.declared.contexts.Context.{Context}
use Rattle.term_table.specs.declared.contexts.Seat.{Seat}
use Rattle.term_table.specs.SemanticModel.{same_term, terms}
use Rattle.term_table.specs.Groups.{same_group, parent_of, occurrence_of}
use Rattle.term_table.specs.Contexts.{has_context, same_context}
use Rattle.term_table.specs.Places.{first_row, place}
use Rattle.inv_terms.specs.declared.violations.Name.{Name}
use Rattle.inv_terms.specs.declared.violations.Name.TheVariants as names
use Rattle.inv_terms.specs.declared.violations.TermFault.TheVariants as faults
use Rattle.inv_terms.specs.declared.violations.ModelViolation.{ModelViolation}

-- ---- which groups are there. The seats are those of one context and the contexts inside it.

abbrev pub is_at : Context → Term → Seat → Bool
is_at context term seat = same_term seat.term term && same_context seat.context context

-- A term stands in the context; a term stands in it or inside it.
abbrev pub has : List Seat → Context → Term → Bool
has seats context term = list_any (is_at context term) seats

abbrev pub has_term : List Seat → Term → Bool
has_term seats term = list_any (λ (s : Seat). same_term s.term term) seats

-- The first group is the second, or around it.
abbrev pub is_around : Group → Group → Bool
is_around group inner = same_group group inner || (same_group group (parent_of inner) || same_group group (parent_of (parent_of inner)))

-- BT-83, BT-89 and BT-90 don't make the group be there in which they stand, since CII writes them elsewhere.
abbrev pub shows_its_group : Term → Bool
shows_its_group term = not ((term.number == 83) || ((term.number == 89) || (term.number == 90)))

-- One of the group's terms stands, or one of the groups in it.
abbrev pub stands : List Seat → Group → Bool
stands seats group = list_any (λ (row : TermRow). is_around group row.group && (shows_its_group row.term && has_term seats row.term)) terms

-- whether a group is there, where that doesn't depend on the group around it
abbrev pub decided : List Seat → Group → Option Bool
decided seats group = elim (occurrence_of group) [
  | occurs.Once ↦ None
  | occurs.AtMostOnce ↦ Some (stands seats group)
  | occurs.AnyNumber ↦ Some true
  | occurs.AtLeastOnce ↦ Some true
]

abbrev pub first_decided : List (Option Bool) → Bool
first_decided [] = true
first_decided (None ∷ os) = first_decided os
first_decided (Some b ∷ os) = b

-- The group is there: always where it stands once in one that is there, where one of its terms stands if it stands at
-- most once, and in the context of an occurrence of its own.
abbrev pub is_there : List Seat → Group → Bool
is_there seats group = first_decided (decided seats group ∷ decided seats (parent_of group) ∷ decided seats (parent_of (parent_of group)) ∷ [])

-- ---- what is missing in a context

-- the term before the dash
abbrev pub whole_term : Term → Term
whole_term term = record term { part = 0 }

abbrev pub is_needed : List Seat → Context → TermRow → Bool
is_needed seats context row = elim row.mark [
  | marks.One ↦ is_there seats row.group
  | marks.Optional ↦ false
  | marks.After ↦ has seats context (whole_term row.term)
]

abbrev pub is_missing : List Seat → Context → TermRow → Bool
is_missing seats context row = is_needed seats context row && not (has seats context row.term)

abbrev pub is_slot_in : Group → Option Slot → Bool
is_slot_in group None = false
is_slot_in group (Some slot) = same_group slot.group group

-- An occurrence of the group stands.
abbrev pub has_occurrence : List Seat → Group → Bool
has_occurrence seats group = list_any (λ (s : Seat). is_slot_in group s.context.outer || is_slot_in group s.context.inner) seats

abbrev pub is_at_least_once : Occurrence → Bool
is_at_least_once occurs.Once = false
is_at_least_once occurs.AtMostOnce = false
is_at_least_once occurs.AnyNumber = false
is_at_least_once occurs.AtLeastOnce = true

-- A group begins with the row that stands at least once in the context, and has no occurrence.
abbrev pub lacks_group : List Seat → Context → ℕ → TermRow → Bool
lacks_group seats context k row =
    is_at_least_once (occurrence_of row.group) && ((k == first_row row.group)
    && (has_context (parent_of row.group) context && not (has_occurrence seats row.group)))

-- Nothing is ever missing at the row: its term may be left out, and so may its group.
abbrev pub may_be_left_out : TermRow → Bool
may_be_left_out row = elim row.mark [ marks.One ↦ false | marks.Optional ↦ not (is_at_least_once (occurrence_of row.group)) | marks.After ↦ false ]

-- what is missing at the k-th row
abbrev pub missing_at : List Seat → Context → ℕ → TermRow → Option Name
missing_at seats context k row =
    if has_context row.group context
    then (if is_missing seats context row then Some (names.Term row.term) else None)
    else (if lacks_group seats context k row then Some (names.Group row.group) else None)

-- the first of the rows from the k-th on at which something is missing
abbrev pub missing_from : List Seat → Context → ℕ → List TermRow → Option ModelViolation
missing_from seats context k [] = None
missing_from seats context k (row ∷ rows) = elim (missing_at seats context k row) [
  | Some name ↦ Some (record { place = place k context; fault = faults.Missing name })
  | None ↦ missing_from seats context (k + 1) rows
]

-- the first lack of a context, whose seats and those inside it are given; in a context the rows are in listing order
abbrev pub first_missing : List Seat → Context → Option ModelViolation
first_missing seats context = missing_from seats context 0 terms

-- ---- all that is missing in a context

-- what is missing at the k-th row and those behind it, in their order
abbrev pub all_missing_from : List Seat → Context → ℕ → List TermRow → List ModelViolation
all_missing_from seats context k [] = []
all_missing_from seats context k (row ∷ rows) = elim (missing_at seats context k row) [
  | Some name ↦ record { place = place k context; fault = faults.Missing name } ∷ all_missing_from seats context (k + 1) rows
  | None ↦ all_missing_from seats context (k + 1) rows
]

-- all that a context lacks, whose seats and those inside it are given
abbrev pub all_missing : List Seat → Context → List ModelViolation
all_missing seats context = all_missing_from seats context 0 terms
