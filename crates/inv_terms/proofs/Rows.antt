-- The definitions on cases with known answers.
use Rattle.std.proofs.Common.{◌≡◌, ℕ, [], ◌∷◌, Some, None, codes, refl}
use Rattle.inv_base.specs.Characters.{is_char, is_white_space}
use Rattle.inv_decimal.specs.WrittenNumber.{read_scaled, written_units}
use Rattle.term_table.specs.declared.groups.Group.TheVariants as groups
use Rattle.term_table.specs.declared.terms.DataType.TheVariants as data_types
use Rattle.term_table.specs.declared.terms.Term.{Term}
use Rattle.inv_terms.specs.declared.values.Value.TheVariants as values
use Rattle.inv_terms.specs.declared.entries.Entry.{Entry}
use Rattle.inv_terms.specs.declared.listing.Refusal.TheVariants as refusals
use Rattle.term_table.specs.SemanticModel.{terms, extension_rows, listing_rows}
use Rattle.term_table.specs.Groups.{parent_of, occurrence_of}
use Rattle.term_table.specs.Contexts.{root_context}
use Rattle.term_table.specs.Places.{first_row}
use Rattle.inv_terms.specs.Values.{value_of}
use Rattle.inv_terms.specs.Listing.{refusal, in_outer}

bt : ℕ → Term
bt n = record { number = n; part = 0 }

-- an entry of the invoice itself, and one of an occurrence; the value doesn't count here
entry : ℕ → Entry
entry n = record { context = root_context; term = bt n; value = values.Text [] }

note : ℕ → ℕ → Entry
note index n = record { context = in_outer (record { group = groups.InvoiceNote; index = index }); term = bt n; value = values.Text [] }

identifier : value_of data_types.I (codes " a ") ≡ Some (values.Identifier (codes "a"))
unfolding value_of is_char is_white_space
identifier = refl

no_identifier : value_of data_types.I (codes " ") ≡ None
unfolding value_of is_char is_white_space
no_identifier = refl

text : value_of data_types.T (codes " a ") ≡ Some (values.Text (codes " a "))
unfolding value_of is_char is_white_space
text = refl

no_amount : value_of data_types.A (codes "1,0") ≡ None
unfolding value_of is_char is_white_space read_scaled written_units
no_amount = refl

-- BT-1 behind BT-2
out_of_order : refusal (entry 2 ∷ []) (entry 1) ≡ Some refusals.OutOfOrder
unfolding entry bt terms extension_rows listing_rows parent_of occurrence_of first_row
out_of_order = refl

in_order : refusal (entry 1 ∷ []) (entry 2) ≡ None
unfolding entry bt terms extension_rows listing_rows parent_of occurrence_of first_row
in_order = refl

twice : refusal (entry 1 ∷ []) (entry 1) ≡ Some refusals.OutOfOrder
unfolding entry bt terms extension_rows listing_rows parent_of occurrence_of first_row
twice = refl

-- the second note without a first
gap : refusal (entry 1 ∷ []) (note 2 22) ≡ Some refusals.BadContext
unfolding entry note bt terms extension_rows listing_rows parent_of occurrence_of first_row
gap = refl

next_note : refusal (note 1 22 ∷ []) (note 2 22) ≡ None
unfolding note bt terms extension_rows listing_rows parent_of occurrence_of first_row
next_note = refl

no_note_zero : refusal [] (note 0 22) ≡ Some refusals.BadContext
unfolding note bt terms extension_rows listing_rows parent_of occurrence_of first_row
no_note_zero = refl

-- ---- terms that a table adds: EXT-1 is 1001

line_entry : ℕ → ℕ → Entry
line_entry index n = record { context = in_outer (record { group = groups.InvoiceLine; index = index }); term = bt n; value = values.Text [] }

-- behind the other entries of its line, and before the next line
extension_in_line : refusal (line_entry 1 153 ∷ []) (line_entry 1 1001) ≡ None
unfolding line_entry bt terms extension_rows listing_rows parent_of occurrence_of first_row
extension_in_line = refl

line_behind_extension : refusal (line_entry 1 1001 ∷ []) (line_entry 2 126) ≡ None
unfolding line_entry bt terms extension_rows listing_rows parent_of occurrence_of first_row
line_behind_extension = refl

term_behind_extension : refusal (line_entry 1 1001 ∷ []) (line_entry 1 153) ≡ Some refusals.OutOfOrder
unfolding line_entry bt terms extension_rows listing_rows parent_of occurrence_of first_row
term_behind_extension = refl

-- of the invoice itself, behind all lines, by number
extension_of_invoice : refusal (line_entry 1 1001 ∷ []) (entry 1001) ≡ None
unfolding line_entry entry bt terms extension_rows listing_rows parent_of occurrence_of first_row
extension_of_invoice = refl

extensions_by_number : refusal (entry 1010 ∷ []) (entry 1002) ≡ Some refusals.OutOfOrder
unfolding entry bt terms extension_rows listing_rows parent_of occurrence_of first_row
extensions_by_number = refl

-- not in other groups, and there is no EXT-100
extension_in_note : refusal (note 1 22 ∷ []) (note 1 1001) ≡ Some refusals.BadContext
unfolding note bt terms extension_rows listing_rows parent_of occurrence_of first_row
extension_in_note = refl

no_hundredth : refusal [] (entry 1100) ≡ Some refusals.BadContext
unfolding entry bt terms extension_rows listing_rows parent_of occurrence_of first_row
no_hundredth = refl
