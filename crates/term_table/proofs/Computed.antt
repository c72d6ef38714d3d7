-- What is computed: terms that tables add, in listing order, and names of terms.
use Rattle.std.proofs.Common.{◌≡◌, ℕ, true, length, codes, Option, Some, None, refl}
use Rattle.term_table.specs.declared.groups.Group.{Group}
use Rattle.term_table.specs.declared.groups.Group.TheVariants as groups
use Rattle.term_table.specs.declared.terms.Term.{Term}
use Rattle.term_table.specs.declared.contexts.Slot.{Slot}
use Rattle.term_table.specs.declared.contexts.Context.{Context}
use Rattle.term_table.specs.declared.contexts.Seat.{Seat}
use Rattle.term_table.specs.SemanticModel.{terms, extension_rows, listing_rows}
use Rattle.term_table.specs.Groups.{parent_of, occurrence_of}
use Rattle.term_table.specs.Contexts.{root_context}
use Rattle.term_table.specs.Places.{first_row, comes_before}
use Rattle.term_table.specs.Rows.{row_in, data_type_in}
use Rattle.term_table.specs.Names.{names, name_of}

bt : ℕ → Term
bt n = record { number = n; part = 0 }

at : Term → Context → Seat
at term context = record { term = term; context = context }

slot : Group → ℕ → Option Slot
slot group index = Some (record { group = group; index = index })

line : ℕ → Context
line k = record { outer = slot groups.InvoiceLine k; inner = None }

attribute : ℕ → ℕ → Context
attribute k j = record { outer = slot groups.InvoiceLine k; inner = slot groups.ItemAttribute j }

row-1 : row_in (bt 1001) (Some groups.InvoiceLine) None ≡ Some 181
unfolding bt terms extension_rows listing_rows parent_of occurrence_of
row-1 = refl

row-99 : row_in (bt 1099) None None ≡ Some 378
unfolding bt terms extension_rows listing_rows parent_of occurrence_of
row-99 = refl

row-note : row_in (bt 1001) (Some groups.InvoiceNote) None ≡ None
unfolding bt terms extension_rows listing_rows parent_of occurrence_of
row-note = refl

row-100 : row_in (bt 1100) None None ≡ None
unfolding bt terms extension_rows listing_rows parent_of occurrence_of
row-100 = refl

data_type-1 : data_type_in (bt 1001) None None ≡ None
unfolding bt terms extension_rows listing_rows parent_of occurrence_of
data_type-1 = refl

-- behind the other entries of the line, before the next line
behind-line : comes_before (at (bt 161) (attribute 1 9)) (at (bt 1001) (line 1)) ≡ true
unfolding bt at line attribute slot terms extension_rows listing_rows parent_of occurrence_of first_row
behind-line = refl

before-next : comes_before (at (bt 1099) (line 1)) (at (bt 126) (line 2)) ≡ true
unfolding bt at line attribute slot terms extension_rows listing_rows parent_of occurrence_of first_row
before-next = refl

-- behind all lines
behind-lines : comes_before (at (bt 1099) (line 7)) (at (bt 1001) root_context) ≡ true
unfolding bt at line attribute slot terms extension_rows listing_rows parent_of occurrence_of first_row
behind-lines = refl

by-number : comes_before (at (bt 1002) root_context) (at (bt 1010) root_context) ≡ true
unfolding bt at line attribute slot terms extension_rows listing_rows parent_of occurrence_of first_row
by-number = refl

-- ---- names

-- each row has a name
every-row : length names ≡ length terms
unfolding terms
every-row = refl

first-name : name_of (bt 1) ≡ Some (codes "Invoice number")
unfolding bt terms
first-name = refl

-- of a term with two rows
name-29 : name_of (bt 29) ≡ Some (codes "Seller identifier")
unfolding bt terms
name-29 = refl

-- of the last row
last-name : name_of (bt 161) ≡ Some (codes "Item attribute value")
unfolding bt terms
last-name = refl

no-name : name_of (bt 1001) ≡ None
unfolding bt terms
no-name = refl
