-- An invoice as a list of entries in the order of the semantic model, and which entry may be added to it.
use Rattle.std.specs.Prelude.{◌≡◌, ℕ, ◌+◌, ◌-◌, Bool, true, ◌&&◌, ◌||◌, ◌==◌, nat_le, List, [], ◌∷◌, Option, Some, None, is_some, find, fold, max, map, length}
use Rattle.std.specs.Prelude.{slice_get, option_map, if◌then◌else◌, All}
use Rattle.std.specs.List.{list_all, list_any}
use Rattle.term_table.specs.declared.groups.Group.{Group}
use Rattle.term_table.specs.declared.terms.DataType.{DataType}
use Rattle.term_table.specs.declared.terms.Term.{Term}
use Rattle.term_table.specs.declared.contexts.Slot.{Slot}
use Rattle.term_table.specs.declared.contexts.Context.{Context}
use Rattle.term_table.specs.declared.contexts.Seat.{Seat}
use Rattle.term_table.specs.SemanticModel.{same_term}
use Rattle.term_table.specs.Groups.{same_group}
use Rattle.term_table.specs.Contexts.{same_slot, same_context, is_inside}
use Rattle.term_table.specs.Rows.{HasType}
use Rattle.term_table.specs.Places as places
use Rattle.inv_terms.specs.declared.values.Value.{Value}
use Rattle.inv_terms.specs.declared.entries.Entry.{Entry}
use Rattle.inv_terms.specs.declared.listing.Refusal.{Refusal}
use Rattle.inv_terms.specs.declared.listing.Refusal.TheVariants as refusals
use Rattle.inv_terms.specs.Values.{value_of}

-- the term and the context of an entry
abbrev pub seat_of : Entry → Seat
seat_of e = record { term = e.term; context = e.context }

-- ---- values that fit

-- The value is one that some string has by a type of the term.
pub record Fits (term : Term) (value : Value) : Type 0 where
  pub data_type : DataType
  pub text : List ℕ
  pub typed : HasType term data_type
  pub read : value_of data_type text ≡ Some value

-- ---- listing order

-- The entry's term has such a context.
abbrev pub is_placed : Entry → Bool
is_placed e = is_some (places.seat_place (seat_of e))

-- Both have a place, and that of the first comes before that of the second.
abbrev pub comes_before : Entry → Entry → Bool
comes_before a b = places.comes_before (seat_of a) (seat_of b)

-- The entries are in strictly rising order.
abbrev pub is_listed : List Entry → Bool
is_listed [] = true
is_listed (e ∷ es) = list_all (comes_before e) es && is_listed es

-- ---- how occurrences are numbered

-- An entry stands in the context or inside it.
abbrev pub occurs : List Entry → Context → Bool
occurs es context = list_any (λ (e : Entry). is_inside context e.context) es

-- The slot's number is 1, or there is an occurrence with the number before it, in the context that `around` makes of a
-- slot.
abbrev pub is_counted : List Entry → (Slot → Context) → Option Slot → Bool
is_counted es around None = true
is_counted es around (Some slot) = nat_le 1 slot.index && ((slot.index == 1) || occurs es (around (record slot { index = slot.index - 1 })))

abbrev pub in_outer : Slot → Context
in_outer slot = record { outer = Some slot; inner = None }

abbrev pub in_inner : Option Slot → Slot → Context
in_inner outer slot = record { outer = outer; inner = Some slot }

-- The occurrences of each group are numbered from 1 without a gap, in each occurrence of the group around it.
abbrev pub is_numbered : List Entry → Bool
is_numbered es = list_all (λ (e : Entry). is_counted es in_outer e.context.outer && is_counted es (in_inner e.context.outer) e.context.inner) es

-- ---- invoices

pub record IsInvoice (es : List Entry) : Type 0 where
  -- each term stands in a context that it has, with a value that fits
  pub placed : list_all is_placed es ≡ true
  pub fit : All (λ (e : Entry). Fits e.term e.value) es
  pub listed : is_listed es ≡ true
  pub numbered : is_numbered es ≡ true

-- ---- what stands in it

-- It is the entry of the term in the context.
abbrev pub is_at : Term → Context → Entry → Bool
is_at term context e = same_term e.term term && same_context e.context context

-- the value of a term in a context
abbrev pub value_in : List Entry → Term → Context → Option Value
value_in es term context = option_map (λ (e : Entry). e.value) (find (is_at term context) es)

-- ---- which entry may be added

abbrev pub last_entry : List Entry → Option Entry
last_entry es = slice_get es (length es - 1)

-- The entry is listed behind the last one.
abbrev pub is_behind_last : Option Entry → Entry → Bool
is_behind_last None e = true
is_behind_last (Some last) e = comes_before last e

abbrev pub is_behind : List Entry → Entry → Bool
is_behind es e = is_behind_last (last_entry es) e

abbrev pub index_in : Group → Option Slot → ℕ
index_in group None = 0
index_in group (Some slot) = if same_group slot.group group then slot.index else 0

-- the number of the last occurrence of a group, 0 where there is none; the same inside an outer slot
abbrev pub last_outer : List Entry → Group → ℕ
last_outer es group = fold max 0 (map (λ (e : Entry). index_in group e.context.outer) es)

abbrev pub last_inner : List Entry → Option Slot → Group → ℕ
last_inner es outer group = fold max 0 (map (λ (e : Entry). if same_slot e.context.outer outer then index_in group e.context.inner else 0) es)

-- The slot is that of the last occurrence, which has the number, or of the next one. Numbers begin with 1.
abbrev pub is_last_or_next : (Group → ℕ) → Option Slot → Bool
is_last_or_next last None = true
is_last_or_next last (Some slot) = nat_le 1 slot.index && ((slot.index == last slot.group) || (slot.index == last slot.group + 1))

abbrev pub is_next : List Entry → Context → Bool
is_next es context = is_last_or_next (last_outer es) context.outer && is_last_or_next (last_inner es context.outer) context.inner

-- why an entry may not be added, if so; one in a context that its term doesn't have counts as one behind the last
abbrev pub refusal : List Entry → Entry → Option Refusal
refusal es e =
    if is_placed e
    then (if is_behind es e then (if is_next es e.context then None else Some refusals.BadContext) else Some refusals.OutOfOrder)
    else Some refusals.BadContext
