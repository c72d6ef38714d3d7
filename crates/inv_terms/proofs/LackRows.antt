-- The definitions on cases with known answers.
use Rattle.std.proofs.Common.{◌≡◌, ℕ, List, [], ◌∷◌, ◌++◌, Option, Some, None, codes, refl}
use Rattle.std.specs.Prelude.{map, option_map}
use Rattle.code_lists.specs.CodeFiles.{built_in_lists}
use Rattle.term_table.specs.declared.groups.Group.{Group}
use Rattle.term_table.specs.declared.groups.Group.TheVariants as groups
use Rattle.term_table.specs.declared.terms.Term.{Term}
use Rattle.term_table.specs.SemanticModel.{terms, extension_rows, listing_rows}
use Rattle.term_table.specs.Groups.{parent_of, occurrence_of}
use Rattle.term_table.specs.Contexts.{root_context}
use Rattle.term_table.specs.Places.{first_row}
use Rattle.inv_terms.specs.declared.values.Value.TheVariants as values
use Rattle.inv_terms.specs.declared.entries.Entry.{Entry}
use Rattle.inv_terms.specs.Listing.{in_outer}
use Rattle.inv_terms.specs.declared.violations.Name.TheVariants as names
use Rattle.inv_terms.specs.declared.violations.TermFault.{TermFault}
use Rattle.inv_terms.specs.declared.violations.TermFault.TheVariants as faults
use Rattle.inv_terms.specs.declared.violations.ModelViolation.{ModelViolation}
use Rattle.inv_terms.specs.Validity.{first_violation}

bt : ℕ → Term
bt n = record { number = n; part = 0 }

-- an entry of the invoice itself; the value doesn't count here
entry : ℕ → Entry
entry n = record { context = root_context; term = bt n; value = values.Text [] }

fault : List Entry → Option TermFault
fault es = option_map (λ (violation : ModelViolation). violation.fault) (first_violation es built_in_lists)

-- an invoice without entries, and with the first
nothing : fault [] ≡ Some (faults.Missing (names.Term (bt 1)))
unfolding fault bt terms extension_rows listing_rows parent_of occurrence_of first_row
nothing = refl

number_alone : fault (entry 1 ∷ []) ≡ Some (faults.Missing (names.Term (bt 2)))
unfolding fault entry bt terms extension_rows listing_rows parent_of occurrence_of first_row
number_alone = refl

-- ---- the smallest invoice

within : Group → ℕ → ℕ → Entry
within group index n = record { context = in_outer (record { group = group; index = index }); term = bt n; value = values.Text [] }

category : List ℕ → Entry
category code = record { context = in_outer (record { group = groups.InvoiceLine; index = 1 }); term = bt 151; value = values.Code code }

front : List Entry
front = map entry (1 ∷ 2 ∷ 3 ∷ 5 ∷ 24 ∷ 27 ∷ 40 ∷ 44 ∷ 55 ∷ [])

totals : List Entry
totals = map entry (106 ∷ 109 ∷ 112 ∷ 115 ∷ [])

breakdown : List Entry
breakdown = map (within groups.VatBreakdown 1) (116 ∷ 117 ∷ 118 ∷ [])

line : List ℕ → List Entry
line code = map (within groups.InvoiceLine 1) (126 ∷ 129 ∷ 130 ∷ 131 ∷ 146 ∷ []) ++ (category code ∷ within groups.InvoiceLine 1 153 ∷ [])

whole : List Entry → Option TermFault
whole middle = fault (front ++ (middle ++ (totals ++ (breakdown ++ line (codes "S")))))

smallest : whole [] ≡ None
unfolding whole front totals breakdown line category within fault entry bt terms extension_rows listing_rows parent_of occurrence_of first_row
smallest = refl

-- BT-83, BT-89 and BT-90 alone, and BT-91
remittance_alone : whole (map entry (83 ∷ 89 ∷ 90 ∷ [])) ≡ None
unfolding whole front totals breakdown line category within fault entry bt terms extension_rows listing_rows parent_of occurrence_of first_row
remittance_alone = refl

debited_account : whole (map entry (83 ∷ 89 ∷ 90 ∷ 91 ∷ [])) ≡ Some (faults.Missing (names.Term (bt 81)))
unfolding whole front totals breakdown line category within fault entry bt terms extension_rows listing_rows parent_of occurrence_of first_row
debited_account = refl

-- a term of a group in a group
representative_country : whole (entry 69 ∷ []) ≡ Some (faults.Missing (names.Term (bt 62)))
unfolding whole front totals breakdown line category within fault entry bt terms extension_rows listing_rows parent_of occurrence_of first_row
representative_country = refl

-- no breakdown and no line; a breakdown and no line; no line and BT-115 gone
no_breakdown : fault (front ++ totals) ≡ Some (faults.Missing (names.Group groups.VatBreakdown))
unfolding front totals fault entry bt terms extension_rows listing_rows parent_of occurrence_of first_row
no_breakdown = refl

no_line : fault (front ++ (totals ++ breakdown)) ≡ Some (faults.Missing (names.Group groups.InvoiceLine))
unfolding front totals breakdown within fault entry bt terms extension_rows listing_rows parent_of occurrence_of first_row
no_line = refl

other_category : fault (front ++ (totals ++ (breakdown ++ line (codes "X")))) ≡ Some (faults.CodeNotListed (bt 151))
unfolding front totals breakdown line category within fault entry bt terms extension_rows listing_rows parent_of occurrence_of first_row
other_category = refl

-- a term that a table adds is mandatory nowhere, and its code is in no list
extension_code : List ℕ → Entry
extension_code code = record { context = root_context; term = bt 1001; value = values.Code code }

with_extension : fault (front ++ (totals ++ (breakdown ++ (line (codes "S") ++ (extension_code (codes "X") ∷ []))))) ≡ None
unfolding extension_code front totals breakdown line category within fault entry bt terms extension_rows listing_rows parent_of occurrence_of first_row
with_extension = refl
