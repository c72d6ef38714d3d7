-- How many rows of the three tables are covered, and which terms the others leave out: computed.
use Rattle.std.proofs.Common.{◌≡◌, Bool, true, not, ◌&&◌, ◌||◌, List, [], ◌∷◌, map, refl}
use Rattle.std.specs.Prelude.{codes}
use Rattle.std.specs.List.{list_all}
use Rattle.std.specs.Str.{bytes_eq}
use Rattle.inv_base.specs.Characters.{is_white_space}
use Rattle.term_table.specs.SemanticModel.{same_term, terms, extension_rows, listing_rows}
use Rattle.term_table.specs.declared.terms.Term.{Term}
use Rattle.term_table.specs.Groups.{parent_of, occurrence_of}
use Rattle.ubl_binding.specs.Tables.{invoice_listing, invoice_rows, credit_note_listing, credit_note_rows}
use Rattle.cii_binding.specs.Table.{cii_listing, cii_rows}
use Rattle.bind_rows.specs.declared.rows.Row.{Row}
use Rattle.bind_rows.specs.declared.tables.DocumentType.{DocumentType}
use Rattle.bind_rows.specs.declared.tables.DocumentType.TheVariants as document_type
use Rattle.bind_meaning.specs.Tables.{rows_of}
use Rattle.bind_meaning.specs.Picks.{has_term}
use Rattle.binding_laws.specs.Apart.{Unlike, Together, unknown, stands_apart_without}
use Rattle.binding_laws.specs.Known.{known_of}
use Rattle.binding_laws.specs.Covered.{count_covered, is_settled, left_out_terms}
use Rattle.binding_laws.specs.Faultless.{is_faultless}

pub settled-invoice : is_settled invoice_rows ≡ true
unfolding is_white_space terms extension_rows listing_rows parent_of occurrence_of invoice_listing invoice_rows
settled-invoice = refl

pub covered-invoice : count_covered invoice_rows ≡ 181
unfolding is_white_space terms extension_rows listing_rows parent_of occurrence_of invoice_listing invoice_rows
covered-invoice = refl

pub left-invoice : map (λ (t : Term). t.number) (left_out_terms invoice_rows) ≡ []
unfolding is_white_space terms extension_rows listing_rows parent_of occurrence_of invoice_listing invoice_rows
left-invoice = refl

pub settled-credit_note : is_settled credit_note_rows ≡ true
unfolding is_white_space terms extension_rows listing_rows parent_of occurrence_of credit_note_listing credit_note_rows
settled-credit_note = refl

pub covered-credit_note : count_covered credit_note_rows ≡ 181
unfolding is_white_space terms extension_rows listing_rows parent_of occurrence_of credit_note_listing credit_note_rows
covered-credit_note = refl

pub left-credit_note : map (λ (t : Term). t.number) (left_out_terms credit_note_rows) ≡ []
unfolding is_white_space terms extension_rows listing_rows parent_of occurrence_of credit_note_listing credit_note_rows
left-credit_note = refl

pub settled-cii : is_settled cii_rows ≡ true
unfolding is_white_space terms extension_rows listing_rows parent_of occurrence_of cii_listing cii_rows
settled-cii = refl

pub covered-cii : count_covered cii_rows ≡ 185
unfolding is_white_space terms extension_rows listing_rows parent_of occurrence_of cii_listing cii_rows
covered-cii = refl

pub left-cii : map (λ (t : Term). t.number) (left_out_terms cii_rows) ≡ []
unfolding is_white_space terms extension_rows listing_rows parent_of occurrence_of cii_listing cii_rows
left-cii = refl

pub faultless-invoice : is_faultless invoice_rows ≡ true
unfolding is_white_space terms extension_rows listing_rows parent_of occurrence_of invoice_listing invoice_rows
faultless-invoice = refl

pub faultless-credit_note : is_faultless credit_note_rows ≡ true
unfolding is_white_space terms extension_rows listing_rows parent_of occurrence_of credit_note_listing credit_note_rows
faultless-credit_note = refl

pub faultless-cii : is_faultless cii_rows ≡ true
unfolding is_white_space terms extension_rows listing_rows parent_of occurrence_of cii_listing cii_rows
faultless-cii = refl

-- ---- the VAT total, where the one in accounting currency doesn't stand

abbrev vat_total : Term
vat_total = record { number = 110; part = 0 }

abbrev accounting_total : Term
accounting_total = record { number = 111; part = 0 }

abbrev are_totals_apart : List Row → Bool
are_totals_apart rows = list_all (λ (row : Row). not (has_term vat_total row) || stands_apart_without (accounting_total ∷ []) rows row.path) rows

pub totals-apart : (table : DocumentType) → are_totals_apart (rows_of table) ≡ true
unfolding is_white_space invoice_listing invoice_rows credit_note_listing credit_note_rows cii_listing cii_rows
totals-apart document_type.Invoice = refl
totals-apart document_type.CreditNote = refl
totals-apart document_type.Cii = refl

-- ---- what is asked of invoices, so that values tell rows apart

-- the scheme of BT-29 or BT-60, and the text that marks the creditor's
abbrev is_creditor : Unlike → Bool
is_creditor u = (same_term u.term (record { number = 29; part = 1 }) || same_term u.term (record { number = 60; part = 1 })) && bytes_eq u.text (codes "SEPA")

pub unlike-invoice : list_all is_creditor (known_of invoice_rows).unlike ≡ true
unfolding is_white_space terms extension_rows listing_rows parent_of occurrence_of invoice_listing invoice_rows
unlike-invoice = refl

pub unlike-credit_note : list_all is_creditor (known_of credit_note_rows).unlike ≡ true
unfolding is_white_space terms extension_rows listing_rows parent_of occurrence_of credit_note_listing credit_note_rows
unlike-credit_note = refl

pub together-invoice : map (λ (x : Together). x.term.number) (known_of invoice_rows).together ≡ 29 ∷ []
unfolding is_white_space terms extension_rows listing_rows parent_of occurrence_of invoice_listing invoice_rows
together-invoice = refl

pub together-credit_note : map (λ (x : Together). x.term.number) (known_of credit_note_rows).together ≡ 29 ∷ []
unfolding is_white_space terms extension_rows listing_rows parent_of occurrence_of credit_note_listing credit_note_rows
together-credit_note = refl

pub asked-cii : known_of cii_rows ≡ unknown
unfolding is_white_space terms extension_rows listing_rows parent_of occurrence_of cii_listing cii_rows
asked-cii = refl
