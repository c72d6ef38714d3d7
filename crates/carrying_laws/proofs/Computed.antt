-- The three tables are complete, leave no term out and have no added row: computed.
use Rattle.std.proofs.Common.{◌≡◌, true, false, [], refl}
use Rattle.std.specs.List.{list_any}
use Rattle.inv_base.specs.Characters.{is_white_space}
use Rattle.term_table.specs.SemanticModel.{terms, extension_rows, listing_rows}
use Rattle.term_table.specs.Groups.{parent_of, occurrence_of}
use Rattle.ubl_binding.specs.Tables.{invoice_listing, invoice_rows, credit_note_listing, credit_note_rows}
use Rattle.cii_binding.specs.Table.{cii_listing, cii_rows}
use Rattle.bind_rows.specs.Added.{is_added}
use Rattle.binding_laws.specs.Covered.{left_out}
use Rattle.carrying_laws.specs.Complete.{is_complete}

pub complete-invoice : is_complete invoice_rows ≡ true
unfolding is_white_space terms extension_rows listing_rows parent_of occurrence_of invoice_listing invoice_rows
complete-invoice = refl

pub complete-credit_note : is_complete credit_note_rows ≡ true
unfolding is_white_space terms extension_rows listing_rows parent_of occurrence_of credit_note_listing credit_note_rows
complete-credit_note = refl

pub complete-cii : is_complete cii_rows ≡ true
unfolding is_white_space terms extension_rows listing_rows parent_of occurrence_of cii_listing cii_rows
complete-cii = refl

pub left-invoice : left_out invoice_rows ≡ []
unfolding is_white_space terms extension_rows listing_rows parent_of occurrence_of invoice_listing invoice_rows
left-invoice = refl

pub left-credit_note : left_out credit_note_rows ≡ []
unfolding is_white_space terms extension_rows listing_rows parent_of occurrence_of credit_note_listing credit_note_rows
left-credit_note = refl

pub left-cii : left_out cii_rows ≡ []
unfolding is_white_space terms extension_rows listing_rows parent_of occurrence_of cii_listing cii_rows
left-cii = refl

pub unadded-invoice : list_any is_added invoice_rows ≡ false
unfolding invoice_listing invoice_rows
unadded-invoice = refl

pub unadded-credit_note : list_any is_added credit_note_rows ≡ false
unfolding credit_note_listing credit_note_rows
unadded-credit_note = refl

pub unadded-cii : list_any is_added cii_rows ≡ false
unfolding cii_listing cii_rows
unadded-cii = refl
