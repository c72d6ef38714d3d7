-- An invoice and a table, seen from a context of the invoice. No public clause cites it.
use Rattle.std.specs.Prelude.{◌≡◌, ℕ, Bool, true, false, List, Option, Some, None, filter, map}
use Rattle.std.specs.List.{list_all, range_with_len}
use Rattle.std.proofs.Common.{◌⊎◌}
use Rattle.term_table.specs.declared.groups.Group.{Group}
use Rattle.term_table.specs.declared.terms.Term.{Term}
use Rattle.term_table.specs.declared.contexts.Slot.{Slot}
use Rattle.term_table.specs.declared.contexts.Context.{Context}
use Rattle.term_table.specs.Contexts.{is_inside, outer_context}
use Rattle.term_table.specs.Runs.{IsInOrder}
use Rattle.inv_terms.specs.declared.entries.Entry.{Entry}
use Rattle.inv_terms.specs.Listing.{seat_of, value_in}
use Rattle.inv_terms.specs.Presences.{AreKnown}
use Rattle.inv_terms.specs.Counts.{AreCounted}
use Rattle.bind_rows.specs.declared.names.Leaf.{Leaf}
use Rattle.bind_rows.specs.declared.names.Leaf.TheVariants as leaves
use Rattle.bind_rows.specs.declared.rows.Row.{Row}
use Rattle.bind_rows.specs.declared.rows.Form.{Form}
use Rattle.bind_rows.specs.declared.rows.Form.TheVariants as forms
use Rattle.bind_meaning.specs.Trees.{or_here}
use Rattle.bind_write.specs.declared.source.Source.{Source}

-- ---- notes with a code stand in elements, not in attributes

abbrev pub is_note : Form → Bool
is_note forms.Model = false
is_note forms.PlainDate = false
is_note forms.DueDateTypeCode = false
is_note forms.CodedNote = true
is_note (forms.Typed data_type) = false
is_note forms.TypedPlainDate = false

abbrev pub is_plain_leaf : Leaf → Form → Bool
is_plain_leaf leaves.Element form = true
is_plain_leaf (leaves.Attribute local) forms.Model = true
is_plain_leaf (leaves.Attribute local) forms.PlainDate = true
is_plain_leaf (leaves.Attribute local) forms.DueDateTypeCode = true
is_plain_leaf (leaves.Attribute local) forms.CodedNote = false
is_plain_leaf (leaves.Attribute local) (forms.Typed data_type) = true
is_plain_leaf (leaves.Attribute local) forms.TypedPlainDate = true

abbrev pub has_plain_attribute : Row → Bool
has_plain_attribute row = is_plain_leaf row.leaf row.form

-- ---- sources

-- the entries in the outer occurrence of a context
abbrev pub run_of : List Entry → Context → List Entry
run_of es c = filter (λ (e : Entry). is_inside (outer_context c) e.context) es

pub record IsSource (s : Source) : Type 0 where
  pub order : IsInOrder (map seat_of s.entries.now)
  pub run : s.run.now ≡ run_of s.entries.now s.context
  pub known : AreKnown s.presence (map seat_of s.run.now)
  pub notes : list_all has_plain_attribute s.rows.now ≡ true
  pub counted : AreCounted s.counts.now s.entries.now

-- It is the source of these rows and entries, from the context.
pub record Sees (rows : List Row) (es : List Entry) (c : Context) (s : Source) : Type 0 where
  pub rows_are : s.rows.now ≡ rows
  pub entries_are : s.entries.now ≡ es
  pub context_is : s.context ≡ c
  pub source : IsSource s

-- The second context is the first or lies further out.
pub record IsAround (c d : Context) : Type 0 where
  pub outer : (d.outer ≡ None) ⊎ (d.outer ≡ c.outer)

-- Among both lists of entries the terms have the same values in the context.
abbrev pub HasSameValues : List Entry → List Entry → Context → Type 0
HasSameValues es run c = (term : Term) → value_in run term c ≡ value_in es term c

-- ---- where a line is written

abbrev pub in_outer : Slot → Context
in_outer slot = record { outer = Some slot; inner = None }

abbrev pub in_inner : Option Slot → Slot → Context
in_inner outer slot = record { outer = outer; inner = Some slot }

abbrev pub spot_of : Context → Group → ℕ → Context
spot_of c group k = elim c.outer [
  | None ↦ in_outer (record { group = group; index = k })
  | Some outer ↦ in_inner (Some outer) (record { group = group; index = k })
]

-- in each of so many occurrences of the group, or once in the context
abbrev pub spots_by : Context → Group → ℕ → List Context
spots_by c group count = or_here c (map (spot_of c group) (range_with_len 1 count))
