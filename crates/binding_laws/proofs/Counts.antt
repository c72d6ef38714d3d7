-- How many rows of the tables are plain: computed.
use Rattle.std.proofs.Common.{◌≡◌, refl}
use Rattle.inv_base.specs.Characters.{is_white_space}
use Rattle.term_table.specs.SemanticModel.{terms, extension_rows, listing_rows}
use Rattle.term_table.specs.Groups.{parent_of, occurrence_of}
use Rattle.ubl_binding.specs.Tables.{invoice_listing, invoice_rows, credit_note_listing, credit_note_rows}
use Rattle.cii_binding.specs.Table.{cii_listing, cii_rows}
use Rattle.binding_laws.specs.Plain.{count_plain, count_terms, count_attributes}

pub terms-invoice : count_terms invoice_rows ≡ 181
unfolding invoice_listing invoice_rows
terms-invoice = refl

pub plain-invoice : count_plain invoice_rows ≡ 147
unfolding is_white_space terms extension_rows listing_rows parent_of occurrence_of invoice_listing invoice_rows
plain-invoice = refl

pub attributes-invoice : count_attributes invoice_rows ≡ 16
unfolding is_white_space terms extension_rows listing_rows parent_of occurrence_of invoice_listing invoice_rows
attributes-invoice = refl

pub terms-credit_note : count_terms credit_note_rows ≡ 181
unfolding credit_note_listing credit_note_rows
terms-credit_note = refl

pub plain-credit_note : count_plain credit_note_rows ≡ 146
unfolding is_white_space terms extension_rows listing_rows parent_of occurrence_of credit_note_listing credit_note_rows
plain-credit_note = refl

pub attributes-credit_note : count_attributes credit_note_rows ≡ 16
unfolding is_white_space terms extension_rows listing_rows parent_of occurrence_of credit_note_listing credit_note_rows
attributes-credit_note = refl

pub terms-cii : count_terms cii_rows ≡ 185
unfolding cii_listing cii_rows
terms-cii = refl

pub plain-cii : count_plain cii_rows ≡ 160
unfolding is_white_space terms extension_rows listing_rows parent_of occurrence_of cii_listing cii_rows
plain-cii = refl

pub attributes-cii : count_attributes cii_rows ≡ 16
unfolding is_white_space terms extension_rows listing_rows parent_of occurrence_of cii_listing cii_rows
attributes-cii = refl
