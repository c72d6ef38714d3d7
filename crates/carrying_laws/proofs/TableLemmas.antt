-- What the laws come to in the three tables.
use Rattle.std.proofs.Common.{◌≡◌, Bool, true, false, ◌&&◌, ◌||◌, List, [], ◌∷◌, refl, sym, ap, ◌∙◌}
use Rattle.std.specs.List.{list_any}
use Rattle.std.specs.Prelude.{not, Ok}
use Rattle.code_lists.specs.CodeFiles.{Lists}
use Rattle.std.proofs.lemmas.Bool.{false≢true}
use Rattle.term_table.specs.SemanticModel.{same_term, is_extension}
use Rattle.inv_terms.specs.declared.entries.Entry.{Entry}
use Rattle.inv_terms.specs.Listing.{IsInvoice}
use Rattle.inv_terms.specs.Whole.{IsValid}
use Rattle.bind_rows.specs.declared.tables.DocumentType.{DocumentType}
use Rattle.bind_rows.specs.declared.tables.DocumentType.TheVariants as document_type
use Rattle.bind_meaning.specs.Tables.{rows_of}
use Rattle.bind_rows.specs.declared.rows.Row.{Row}
use Rattle.bind_rows.specs.Added.{is_added}
use Rattle.bind_meaning.specs.Picks.{has_term}
use Rattle.bind_carrying.specs.Carrying.{has_groups, says_type, is_row_of, entries_carried}
use Rattle.binding_laws.proofs.ReachLemmas.{Among}
use Rattle.binding_laws.specs.Apart.{holds_none}
use Rattle.binding_laws.specs.Covered.{left_out, holds_plainly}
use Rattle.carrying_laws.specs.Complete.{is_complete}
use Rattle.carrying_laws.proofs.ModelLemmas.{each-all}
use Rattle.carrying_laws.proofs.ConditionLemmas.{row-kept, added-kept}
use Rattle.carrying_laws.proofs.HeldLemmas.{held}
use Rattle.carrying_laws.proofs.Computed.{complete-invoice, complete-credit_note, complete-cii, left-invoice, left-credit_note, left-cii, unadded-invoice}
use Rattle.carrying_laws.proofs.Computed.{unadded-credit_note, unadded-cii}

pub tables-complete : (table : DocumentType) → is_complete (rows_of table) ≡ true
tables-complete document_type.Invoice = complete-invoice
tables-complete document_type.CreditNote = complete-credit_note
tables-complete document_type.Cii = complete-cii

tables-unadded : (table : DocumentType) → list_any is_added (rows_of table) ≡ false
tables-unadded document_type.Invoice = unadded-invoice
tables-unadded document_type.CreditNote = unadded-credit_note
tables-unadded document_type.Cii = unadded-cii

pub tables-left : (table : DocumentType) → left_out (rows_of table) ≡ []
tables-left document_type.Invoice = left-invoice
tables-left document_type.CreditNote = left-credit_note
tables-left document_type.Cii = left-cii

-- no row of the three tables was added, so each term that they carry is one of the semantic model
none-added : (rows : List Row) → list_any is_added rows ≡ false → (e : Entry) → list_any (is_row_of e) rows ≡ false
none-added [] h e = refl
none-added (row ∷ rows) h e = go (λ l. none-added rows l e) (is_added row) refl h
  where
    go : (list_any is_added rows ≡ false → list_any (is_row_of e) rows ≡ false) → (b : Bool) → is_added row ≡ b → (b || list_any is_added rows) ≡ false
        → (is_row_of e row || list_any (is_row_of e) rows) ≡ false
    go later true k l = absurd (false≢true (sym l))
    go later false k l =
        ap (λ b. (b && (has_term e.term row && (has_groups row e.context && says_type row.form e.value))) || list_any (is_row_of e) rows) k ∙ later l

pub tables-keep : (table : DocumentType) (es : List Entry) → entries_carried (rows_of table) es ≡ Ok tt → (e : Entry) → Among e es → is_extension e.term ≡ false
tables-keep table es carried e a = go (is_extension e.term) refl
  where
    go : (b : Bool) → is_extension e.term ≡ b → b ≡ false
    go false own = refl
    go true own = absurd (false≢true (sym (none-added (rows_of table) (tables-unadded table) e) ∙
        added-kept (rows_of table) e (row-kept (rows_of table) es carried e a) own))

none-left : (table : DocumentType) (es : List Entry) → holds_none (left_out (rows_of table)) es ≡ true
none-left table es = ap (λ left. holds_none left es) (tables-left table) ∙ each-all (λ (e : Entry). not (list_any (same_term e.term) [])) es (λ e a. refl)

pub tables-hold : (table : DocumentType) (es : List Entry) (lists : Lists) → IsInvoice es → IsValid es lists → entries_carried (rows_of table) es ≡ Ok tt →
    holds_plainly (rows_of table) es ≡ true
tables-hold table es lists invoice valid carried = held (rows_of table) (tables-complete table) es lists invoice valid carried (none-left table es)
