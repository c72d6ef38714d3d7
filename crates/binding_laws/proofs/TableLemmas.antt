-- What the laws come to in the three tables.
use Rattle.std.proofs.Common.{◌≡◌, ◌<◌, true, List, [], ◌∷◌, length, Ok, All, refl, arith}
use Rattle.std.specs.Prelude.{nat_lt}
use Rattle.std.specs.List.{list_all}
use Rattle.std.proofs.lemmas.Bool.Decides.{nat_tests}
use Rattle.std.proofs.lemmas.List.Elements.{All-nil, All-cons}
use Rattle.inv_base.specs.Tree.{document_nodes}
use Rattle.code_lists.specs.CodeFiles.{Lists}
use Rattle.inv_terms.specs.declared.entries.Entry.{Entry}
use Rattle.inv_terms.specs.Listing.{IsInvoice}
use Rattle.inv_terms.specs.Whole.{IsValid}
use Rattle.bind_rows.specs.declared.rows.Row.{Row}
use Rattle.bind_table.specs.WellFormed.{first_fault}
use Rattle.ubl_binding.specs.Tables.{invoice_listing, invoice_rows, credit_note_listing, credit_note_rows}
use Rattle.cii_binding.specs.Table.{cii_listing, cii_rows}
use Rattle.bind_rows.specs.declared.tables.DocumentType.{DocumentType}
use Rattle.bind_rows.specs.declared.tables.DocumentType.TheVariants as document_type
use Rattle.bind_meaning.specs.Tables.{rows_of}
use Rattle.bind_meaning.specs.Terms.{Read, terms_of}
use Rattle.bind_meaning.specs.Trees.{document_of}
use Rattle.binding_laws.specs.Covered.{holds_plainly}
use Rattle.binding_laws.proofs.ListLemmas.{both-true}
use Rattle.binding_laws.proofs.FormLemmas.{Laws}
use Rattle.binding_laws.proofs.Leaves.{settled-invoice, settled-credit_note, settled-cii, faultless-invoice, faultless-credit_note, faultless-cii}
use Rattle.binding_laws.proofs.NoFaultLemmas.{read-exactly}

long-by-test : (rows : List Row) → list_all (λ (r : Row). nat_lt 0 (length r.path)) rows ≡ true → All (λ (r : Row). 0 < length r.path) rows
long-by-test [] h = All-nil (λ (r : Row). 0 < length r.path)
long-by-test (row ∷ rows) h =
    let w = both-true (nat_lt 0 (length row.path)) (list_all (λ (r : Row). nat_lt 0 (length r.path)) rows) h in
    let k = w.0 in
    All-cons (λ (r : Row). 0 < length r.path) row rows (let z : 0 < length row.path = grind (arith, nat_tests, k) in z) (long-by-test rows w.1)

long-invoice : list_all (λ (r : Row). nat_lt 0 (length r.path)) invoice_rows ≡ true
unfolding invoice_listing invoice_rows
long-invoice = refl

long-credit_note : list_all (λ (r : Row). nat_lt 0 (length r.path)) credit_note_rows ≡ true
unfolding credit_note_listing credit_note_rows
long-credit_note = refl

long-cii : list_all (λ (r : Row). nat_lt 0 (length r.path)) cii_rows ≡ true
unfolding cii_listing cii_rows
long-cii = refl

pub tables-read : Laws → first_fault invoice_rows ≡ Ok tt → first_fault credit_note_rows ≡ Ok tt → first_fault cii_rows ≡ Ok tt →
    (table : DocumentType) (es : List Entry) (lists : Lists) → IsInvoice es → IsValid es lists
    → holds_plainly (rows_of table) es ≡ true → terms_of (document_nodes (document_of (rows_of table) es)) (rows_of table) lists ≡ Ok
    (record { entries = es; passed_over = 0 })
tables-read law a b c document_type.Invoice es lists invoice is_valid plainly =
    read-exactly law invoice_rows es invoice (long-by-test invoice_rows long-invoice) a settled-invoice plainly lists is_valid faultless-invoice
tables-read law a b c document_type.CreditNote es lists invoice is_valid plainly =
    read-exactly law credit_note_rows es invoice (long-by-test credit_note_rows long-credit_note) b settled-credit_note plainly lists is_valid
    faultless-credit_note
tables-read law a b c document_type.Cii es lists invoice is_valid plainly =
    read-exactly law cii_rows es invoice (long-by-test cii_rows long-cii) c settled-cii plainly lists is_valid faultless-cii

pub tables-convert : Laws → first_fault invoice_rows ≡ Ok tt → first_fault credit_note_rows ≡ Ok tt → first_fault cii_rows ≡ Ok tt →
    (first second : DocumentType) (es : List Entry) (lists : Lists) → IsInvoice es → IsValid es lists
    → holds_plainly (rows_of first) es ≡ true → holds_plainly (rows_of second) es ≡ true
    → (read : Read) × ((terms_of (document_nodes (document_of (rows_of first) es)) (rows_of first) lists ≡ Ok read)
    × ((again : Read) × ((terms_of (document_nodes (document_of (rows_of second) read.entries)) (rows_of second) lists ≡ Ok again)
    × ((again.entries ≡ es) × (document_of (rows_of first) again.entries ≡ document_of (rows_of first) es)))))
tables-convert law a b c first second es lists invoice is_valid plainly other_plainly =
    let read : Read = record { entries = es; passed_over = 0 } in (
      read,
      (
        tables-read law a b c first es lists invoice is_valid plainly,
        (read, (tables-read law a b c second es lists invoice is_valid other_plainly, (refl, refl))),
      ),
    )
