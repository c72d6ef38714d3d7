-- The three tables are open: computed.
use Rattle.std.proofs.Common.{◌≡◌, ◌+◌, ◌*◌, ◌<◌, true, List, [], ◌∷◌, length, All, refl, arith}
use Rattle.std.specs.Prelude.{nat_lt, nat_le}
use Rattle.std.specs.List.{list_all}
use Rattle.std.proofs.lemmas.Bool.Decides.{nat_tests}
use Rattle.std.proofs.lemmas.List.Elements.{All-nil, All-cons}
use Rattle.inv_base.specs.Characters.{is_white_space}
use Rattle.term_table.specs.SemanticModel.{terms, extension_rows, listing_rows}
use Rattle.term_table.specs.Groups.{parent_of, occurrence_of}
use Rattle.ubl_binding.specs.Tables.{invoice_listing, invoice_rows, credit_note_listing, credit_note_rows}
use Rattle.cii_binding.specs.Table.{cii_listing, cii_rows}
use Rattle.bind_rows.specs.declared.rows.Row.{Row}
use Rattle.bind_rows.specs.declared.tables.DocumentType.{DocumentType}
use Rattle.bind_rows.specs.declared.tables.DocumentType.TheVariants as document_type
use Rattle.bind_table.specs.Lines.{plan_of}
use Rattle.bind_meaning.specs.Tables.{rows_of}
use Rattle.bind_carrying.specs.Tables as carrying
use Rattle.binding_laws.specs.Covered.{unjoined_terms, unpaired_terms}
use Rattle.binding_laws.proofs.ListLemmas.{both-true}
use Rattle.extension_laws.specs.Open.{HasRoom, are_covered}
use Rattle.extension_laws.proofs.ReadableLemmas.{le-from}
use Rattle.written_laws.specs.Readable.{reading_limits, names_of}

long-by-test : (rows : List Row) → list_all (λ (r : Row). nat_lt 0 (length r.path)) rows ≡ true → All (λ (r : Row). 0 < length r.path) rows
long-by-test [] h = All-nil (λ (r : Row). 0 < length r.path)
long-by-test (row ∷ rows) h =
    let w = both-true (nat_lt 0 (length row.path)) (list_all (λ (r : Row). nat_lt 0 (length r.path)) rows) h in
    let k = w.0 in
    All-cons (λ (r : Row). 0 < length r.path) row rows (let z : 0 < length row.path = grind (arith, nat_tests, k) in z) (long-by-test rows w.1)

long-invoice : list_all (λ (r : Row). nat_lt 0 (length r.path)) invoice_rows ≡ true
unfolding invoice_listing invoice_rows
long-invoice = refl

long-credit_note : list_all (λ (r : Row). nat_lt 0 (length r.path)) credit_note_rows ≡ true
unfolding credit_note_listing credit_note_rows
long-credit_note = refl

long-cii : list_all (λ (r : Row). nat_lt 0 (length r.path)) cii_rows ≡ true
unfolding cii_listing cii_rows
long-cii = refl

covered-invoice : are_covered invoice_rows ≡ true
unfolding is_white_space terms extension_rows listing_rows parent_of occurrence_of invoice_listing invoice_rows
covered-invoice = refl

covered-credit_note : are_covered credit_note_rows ≡ true
unfolding is_white_space terms extension_rows listing_rows parent_of occurrence_of credit_note_listing credit_note_rows
covered-credit_note = refl

covered-cii : are_covered cii_rows ≡ true
unfolding is_white_space terms extension_rows listing_rows parent_of occurrence_of cii_listing cii_rows
covered-cii = refl

joined-invoice : unjoined_terms (plan_of invoice_rows) invoice_rows ≡ []
unfolding is_white_space terms extension_rows listing_rows parent_of occurrence_of invoice_listing invoice_rows
joined-invoice = refl

joined-credit_note : unjoined_terms (plan_of credit_note_rows) credit_note_rows ≡ []
unfolding is_white_space terms extension_rows listing_rows parent_of occurrence_of credit_note_listing credit_note_rows
joined-credit_note = refl

joined-cii : unjoined_terms (plan_of cii_rows) cii_rows ≡ []
unfolding is_white_space terms extension_rows listing_rows parent_of occurrence_of cii_listing cii_rows
joined-cii = refl

paired-invoice : unpaired_terms (plan_of invoice_rows) invoice_rows ≡ []
unfolding is_white_space terms extension_rows listing_rows parent_of occurrence_of invoice_listing invoice_rows
paired-invoice = refl

paired-credit_note : unpaired_terms (plan_of credit_note_rows) credit_note_rows ≡ []
unfolding is_white_space terms extension_rows listing_rows parent_of occurrence_of credit_note_listing credit_note_rows
paired-credit_note = refl

paired-cii : unpaired_terms (plan_of cii_rows) cii_rows ≡ []
unfolding is_white_space terms extension_rows listing_rows parent_of occurrence_of cii_listing cii_rows
paired-cii = refl

document_type-invoice : carrying.document_type_of invoice_rows ≡ document_type.Invoice
unfolding invoice_listing invoice_rows
document_type-invoice = refl

document_type-credit_note : carrying.document_type_of credit_note_rows ≡ document_type.CreditNote
unfolding credit_note_listing credit_note_rows
document_type-credit_note = refl

document_type-cii : carrying.document_type_of cii_rows ≡ document_type.Cii
unfolding cii_listing cii_rows
document_type-cii = refl

room-invoice : nat_le (length (names_of (plan_of invoice_rows)) + 46 * 99) reading_limits.names ≡ true
unfolding invoice_listing invoice_rows
room-invoice = refl

room-credit_note : nat_le (length (names_of (plan_of credit_note_rows)) + 46 * 99) reading_limits.names ≡ true
unfolding credit_note_listing credit_note_rows
room-credit_note = refl

room-cii : nat_le (length (names_of (plan_of cii_rows)) + 46 * 99) reading_limits.names ≡ true
unfolding cii_listing cii_rows
room-cii = refl

pub room-each : (table : DocumentType) → HasRoom 99 (rows_of table)
room-each document_type.Invoice = le-from (length (names_of (plan_of invoice_rows)) + 46 * 99) reading_limits.names room-invoice
room-each document_type.CreditNote = le-from (length (names_of (plan_of credit_note_rows)) + 46 * 99) reading_limits.names room-credit_note
room-each document_type.Cii = le-from (length (names_of (plan_of cii_rows)) + 46 * 99) reading_limits.names room-cii

pub long-each : (table : DocumentType) → All (λ (r : Row). 0 < length r.path) (rows_of table)
long-each document_type.Invoice = long-by-test invoice_rows long-invoice
long-each document_type.CreditNote = long-by-test credit_note_rows long-credit_note
long-each document_type.Cii = long-by-test cii_rows long-cii

pub covered-each : (table : DocumentType) → are_covered (rows_of table) ≡ true
covered-each document_type.Invoice = covered-invoice
covered-each document_type.CreditNote = covered-credit_note
covered-each document_type.Cii = covered-cii

pub joined-each : (table : DocumentType) → unjoined_terms (plan_of (rows_of table)) (rows_of table) ≡ []
joined-each document_type.Invoice = joined-invoice
joined-each document_type.CreditNote = joined-credit_note
joined-each document_type.Cii = joined-cii

pub paired-each : (table : DocumentType) → unpaired_terms (plan_of (rows_of table)) (rows_of table) ≡ []
paired-each document_type.Invoice = paired-invoice
paired-each document_type.CreditNote = paired-credit_note
paired-each document_type.Cii = paired-cii

pub document_type-each : (table : DocumentType) → carrying.document_type_of (rows_of table) ≡ table
document_type-each document_type.Invoice = document_type-invoice
document_type-each document_type.CreditNote = document_type-credit_note
document_type-each document_type.Cii = document_type-cii
