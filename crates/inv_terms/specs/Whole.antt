-- When an invoice lacks nothing, in the words of EN 16931-1 (sections 6.3 and 6.4): each mandatory term of each group
-- that is there stands, each group that has to stand at least once does, and each code is in its list. It is said apart
-- from the walk that finds the first lack; laws tie both.
use Rattle.std.specs.Prelude.{◌≡◌, ◌⊎◌, ℕ, true, ◌||◌, List, Some, is_some, filter, map, slice_get, Contains}
use Rattle.code_lists.specs.CodeFiles.{Lists, allows}
use Rattle.code_lists.specs.declared.names.List.{List as CodeList}
use Rattle.term_table.specs.declared.groups.Group.{Group}
use Rattle.term_table.specs.declared.groups.Group.TheVariants as groups
use Rattle.term_table.specs.declared.groups.Occurrence.TheVariants as occurs
use Rattle.term_table.specs.declared.terms.Mark.TheVariants as marks
use Rattle.term_table.specs.declared.terms.Term.{Term}
use Rattle.term_table.specs.declared.terms.TermRow.{TermRow}
use Rattle.term_table.specs.declared.contexts.Context.{Context}
use Rattle.term_table.specs.declared.contexts.Seat.{Seat}
use Rattle.term_table.specs.SemanticModel.{terms}
use Rattle.term_table.specs.Groups.{parent_of, occurrence_of, is_repeated}
use Rattle.term_table.specs.Contexts.{has_context, is_inside, root_context, outer_context}
use Rattle.term_table.specs.Places.{place}
use Rattle.inv_terms.specs.declared.values.Value.TheVariants as values
use Rattle.inv_terms.specs.declared.entries.Entry.{Entry}
use Rattle.inv_terms.specs.Listing.{seat_of}
use Rattle.inv_terms.specs.declared.violations.Name.{Name}
use Rattle.inv_terms.specs.declared.violations.TermFault.TheVariants as faults
use Rattle.inv_terms.specs.declared.violations.ModelViolation.{ModelViolation}
use Rattle.inv_terms.specs.Lacking.{is_around, shows_its_group, whole_term, is_slot_in, missing_at}
use Rattle.inv_terms.specs.Validity.{list_of, unlisted}

-- ---- what stands in an invoice

-- The context is the outer occurrence that the entry stands in, or the inner one.
abbrev pub IsShownBy : Entry → Context → Type 0
IsShownBy e c = ((c ≡ outer_context e.context) × (is_some e.context.outer ≡ true)) ⊎ ((c ≡ e.context) × (is_some e.context.inner ≡ true))

-- The context is the invoice itself, or an occurrence of a group that stands in it.
abbrev pub IsContextOf : List Entry → Context → Type 0
IsContextOf es c = (c ≡ root_context) ⊎ ((e : Entry) × Contains es e × IsShownBy e c)

-- An entry with the term stands in the context.
pub record Stands (es : List Entry) (c : Context) (term : Term) : Type 0 where
  pub entry : Entry
  pub member : Contains es entry
  pub term_is : entry.term ≡ term
  pub context_is : entry.context ≡ c

-- An entry in the context or inside it has a term of the group, or of a group in it. BT-83, BT-89 and BT-90 don't
-- count.
pub record ShowsGroup (es : List Entry) (c : Context) (group : Group) : Type 0 where
  pub entry : Entry
  pub member : Contains es entry
  pub within : is_inside c entry.context ≡ true
  pub row : TermRow
  pub is_row : Contains terms row
  pub term_is : entry.term ≡ row.term
  pub around : is_around group row.group ≡ true
  pub counts : shows_its_group row.term ≡ true

-- The group is there in a context that its terms have.
pub data IsThere (es : List Entry) (c : Context) : Group → Type 0 where
  -- the invoice itself
  invoice : IsThere es c groups.Root
  -- a group whose occurrences are contexts: the context is one
  repeated : (group : Group) → is_repeated group ≡ true → IsThere es c group
  -- a group that stands once in one that is there
  once : (group : Group) → occurrence_of group ≡ occurs.Once → IsThere es c (parent_of group) → IsThere es c group
  -- a group that stands at most once, and shows
  shown : (group : Group) → occurrence_of group ≡ occurs.AtMostOnce → ShowsGroup es c group → IsThere es c group

-- The row's term is mandatory in the context: in a group that is there, or beside the term before its dash.
abbrev pub IsMandatory : List Entry → Context → TermRow → Type 0
IsMandatory es c row = ((row.mark ≡ marks.One) × IsThere es c row.group) ⊎ ((row.mark ≡ marks.After) × Stands es c (whole_term row.term))

-- An occurrence of the group stands in the context.
pub record HasOccurrence (es : List Entry) (c : Context) (group : Group) : Type 0 where
  pub entry : Entry
  pub member : Contains es entry
  pub within : is_inside c entry.context ≡ true
  pub occurrence : (is_slot_in group entry.context.outer || is_slot_in group entry.context.inner) ≡ true

-- ---- when it lacks nothing

-- Nothing is missing in the context.
pub record IsWhole (es : List Entry) (c : Context) : Type 0 where
  pub mandatory : (row : TermRow) → Contains terms row → has_context row.group c ≡ true → IsMandatory es c row → Stands es c row.term
  pub occurring : (group : Group) → occurrence_of group ≡ occurs.AtLeastOnce → has_context (parent_of group) c ≡ true → HasOccurrence es c group

-- Each code is in its term's list, where that is built in or given.
abbrev pub IsListed : List Entry → Lists → Type 0
IsListed es lists = (e : Entry) (list : CodeList) (code : List ℕ) → Contains es e → list_of e.term e.context ≡ Some list → e.value ≡ values.Code code →
    allows lists list code ≡ true

pub record IsValid (es : List Entry) (lists : Lists) : Type 0 where
  pub whole : (c : Context) → IsContextOf es c → IsWhole es c
  pub listed : IsListed es lists

-- ---- its lacks

-- the seats in a context and inside it
abbrev pub seats_in : List Entry → Context → List Seat
seats_in es c = map seat_of (filter (λ (e : Entry). is_inside c e.context) es)

-- Something is missing at a row of a context, or an entry's code isn't in its list.
pub record IsMissing (es : List Entry) (violation : ModelViolation) : Type 0 where
  pub context : Context
  pub is_context : IsContextOf es context
  pub number : ℕ
  pub row : TermRow
  pub is_row : slice_get terms number ≡ Some row
  pub name : Name
  pub missing : missing_at (seats_in es context) context number row ≡ Some name
  pub violation_is : violation ≡ record { place = place number context; fault = faults.Missing name }

abbrev pub IsViolation : List Entry → Lists → ModelViolation → Type 0
IsViolation es lists violation = IsMissing es violation ⊎ ((e : Entry) × Contains es e × (unlisted lists e ≡ Some violation))
