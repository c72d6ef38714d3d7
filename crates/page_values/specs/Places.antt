-- Where the items of a layout stand: in the invoice itself, or in an occurrence of a group.
use Rattle.std.specs.Prelude.{ℕ, zero, suc, ◌-◌, List, [], ◌∷◌, ◌++◌, map, filter, length, Option, Some, None, Ok, Err, slice_get}
use Rattle.term_table.specs.declared.groups.Group.{Group}
use Rattle.term_table.specs.declared.groups.Group.TheVariants as groups
use Rattle.term_table.specs.declared.terms.Term.{Term}
use Rattle.term_table.specs.declared.contexts.Slot.{Slot}
use Rattle.term_table.specs.declared.contexts.Context.{Context}
use Rattle.term_table.specs.Contexts.{is_inside, root_context}
use Rattle.inv_terms.specs.declared.values.Value.{Value}
use Rattle.inv_terms.specs.declared.entries.Entry.{Entry}
use Rattle.inv_terms.specs.Listing.{value_in, last_outer, last_inner}
use Rattle.inv_terms.specs.Attachments.{attached_document, base64_in, bytes_of}

-- The entries of the invoice, or those in an occurrence and inside it; its context; and of each supporting document (BG-24) how many
-- bytes are attached, if they are base64.
pub record Place : Type 0 where
  pub entries : List Entry
  pub context : Context
  pub sizes : List (Option ℕ)

-- 1, 2, .. up to a number
abbrev pub numbers_to : ℕ → List ℕ
numbers_to zero = []
numbers_to (suc n) = numbers_to n ++ (suc n ∷ [])

abbrev pub slot : Group → ℕ → Slot
slot group k = record { group = group; index = k }

-- the context of an occurrence in a context: the outer one in the invoice, the inner one in an outer one
abbrev pub context_inside : Context → Slot → Context
context_inside context inside = elim context.outer [
  | None ↦ record { outer = Some inside; inner = None }
  | Some outer ↦ record { outer = Some outer; inner = Some inside }
]

-- how many occurrences of a group there are
abbrev pub count_in : Place → Group → ℕ
count_in place group = elim place.context.outer [ None ↦ last_outer place.entries group | Some outer ↦ last_inner place.entries (Some outer) group ]

-- the entries in a context and inside it
abbrev pub entries_in : Context → List Entry → List Entry
entries_in context es = filter (λ (e : Entry). is_inside context e.context) es

-- an occurrence of a group by its number
abbrev pub occurrence : Place → Group → ℕ → Place
occurrence place group k =
    let context = context_inside place.context (slot group k) in
    record { entries = entries_in context place.entries; context = context; sizes = place.sizes }

-- the value of a term
abbrev pub value_at : Place → Term → Option Value
value_at place term = value_in place.entries term place.context

-- ---- attached documents

-- how many bytes a base64 text stands for, if it is base64
abbrev pub size_of : List ℕ → Option ℕ
size_of text = elim (bytes_of text) [ Ok bytes ↦ Some (length bytes) | Err fault ↦ None ]

abbrev pub size_of_value : Value → Option ℕ
size_of_value value = elim (base64_in value) [ None ↦ None | Some text ↦ size_of text ]

abbrev pub document_context : ℕ → Context
document_context k = record { outer = Some (slot groups.SupportingDocument k); inner = None }

-- the same of the document that is attached to a supporting document
abbrev pub size_in : List Entry → ℕ → Option ℕ
size_in es k = elim (value_in es attached_document (document_context k)) [ None ↦ None | Some value ↦ size_of_value value ]

abbrev pub sizes_of : List Entry → List (Option ℕ)
sizes_of es = map (size_in es) (numbers_to (last_outer es groups.SupportingDocument))

-- the size with a number, from 1
abbrev pub size_of_number : List (Option ℕ) → ℕ → Option ℕ
size_of_number sizes number = elim (slice_get sizes (number - 1)) [ None ↦ None | Some size ↦ size ]

-- how many bytes are attached in the occurrence
abbrev pub size_at : Place → Option ℕ
size_at place = elim place.context.outer [ None ↦ None | Some outer ↦ size_of_number place.sizes outer.index ]

-- ---- the invoice itself

abbrev pub invoice_place : List Entry → Place
invoice_place es = record { entries = es; context = root_context; sizes = sizes_of es }
