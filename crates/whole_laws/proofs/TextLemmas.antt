-- By open tables that are whole nothing is lost of the document of a valid invoice that they carry, nor of its text.
use Rattle.std.proofs.Common.{◌≡◌, ◌<◌, true, List, [], ◌∷◌, length, Ok, All, refl, ap, ◌∙◌, encode_utf8_all}
use Rattle.std.specs.List.{list_all}
use Rattle.inv_base.specs.Tree.{document_nodes}
use Rattle.code_lists.specs.CodeFiles.{Lists}
use Rattle.xml_state.specs.declared.limits.Limits.{Limits}
use Rattle.inv_terms.specs.declared.entries.Entry.{Entry}
use Rattle.inv_terms.specs.Listing.{IsInvoice}
use Rattle.inv_terms.specs.Whole.{IsValid}
use Rattle.bind_rows.specs.declared.rows.Row.{Row}
use Rattle.bind_rows.specs.declared.tables.DocumentType.{DocumentType}
use Rattle.bind_table.specs.Lines.{plan_of}
use Rattle.bind_table.specs.WellFormed.{first_fault}
use Rattle.bind_meaning.specs.Losses.{lost_nodes}
use Rattle.bind_meaning.specs.Trees.{document_of}
use Rattle.bind_write.specs.Documents.{document_text}
use Rattle.bind_carrying.specs.Carrying.{carrying, entries_carried}
use Rattle.bind_run.specs.Reading.{first_of, lost_by_root, first_lost}
use Rattle.bind_run.specs.Roots.{document_type_of}
use Rattle.binding_laws.specs.Apart.{holds_none}
use Rattle.binding_laws.specs.Known.{known_of}
use Rattle.binding_laws.specs.Covered.{is_settled, left_out, holds_plainly}
use Rattle.binding_laws.proofs.FormLemmas.{Laws}
use Rattle.binding_laws.proofs.ListLemmas.{both-true}
use Rattle.binding_laws.proofs.RoundLemmas.{row-back}
use Rattle.carrying_laws.specs.Complete.{is_complete}
use Rattle.written_laws.specs.Readable.{reading_limits, is_readable, shows, invoice_number, holds_any}
use Rattle.written_laws.specs.Reading.{IsSmall, IsReadBack}
use Rattle.written_laws.specs.Roots.{root_table}
use Rattle.extension_laws.specs.Open.{IsOpen}
use Rattle.extension_laws.specs.Texts.{AreOpen}
use Rattle.extension_laws.proofs.TextLemmas.{settled, left-none}
use Rattle.whole_laws.specs.Whole.{lines_meet, is_told, is_whole}
use Rattle.whole_laws.specs.Texts.{AreWhole, IsWholeBy}
use Rattle.whole_laws.proofs.FullLemmas.{rows-full, rows-have-mains, all-known}
use Rattle.whole_laws.proofs.WalkLemmas.{nothing-lost}

pub held-whole : Laws → (rows : List Row) (es : List Entry) → IsInvoice es → All (λ (r : Row). 0 < length r.path) rows → first_fault rows ≡ Ok tt
    → is_settled rows ≡ true → holds_plainly rows es ≡ true → is_whole rows ≡ true
    → lost_nodes (document_nodes (document_of rows es)) rows ≡ []
held-whole law rows es invoice long fine settles plainly whole =
    let told = (both-true (lines_meet (known_of rows) (plan_of rows)) (list_all (is_told rows) rows) whole).1 in
    nothing-lost rows es whole (rows-full law rows told es invoice (row-back law rows es invoice long fine settles plainly))
    (rows-have-mains law rows told es invoice long plainly) (all-known law rows told es invoice long plainly)

holds-none : (es : List Entry) → holds_none [] es ≡ true
holds-none [] = refl
holds-none (e ∷ es) = holds-none es

module _
    (is_held : (rows : List Row) (es : List Entry) → IsInvoice es → All (λ (r : Row). 0 < length r.path) rows → first_fault rows ≡ Ok tt
    → is_settled rows ≡ true → holds_plainly rows es ≡ true → is_whole rows ≡ true
    → lost_nodes (document_nodes (document_of rows es)) rows ≡ [])
    (held : (rows : List Row) (es : List Entry) (lists : Lists) → IsInvoice es → IsValid es lists → is_complete rows ≡ true
    → entries_carried rows es ≡ Ok tt → holds_none (left_out rows) es ≡ true → holds_plainly rows es ≡ true)
    (meets : (rows : List Row) (es : List Entry) → carrying rows es ≡ Ok tt → entries_carried rows es ≡ Ok tt)
  where
    pub open-whole : (table : DocumentType) (rows : List Row) (es : List Entry) (lists : Lists) → IsOpen table rows → is_whole rows ≡ true
        → first_fault rows ≡ Ok tt
        → IsInvoice es → IsValid es lists → carrying rows es ≡ Ok tt
        → lost_nodes (document_nodes (document_of rows es)) rows ≡ []
    open-whole table rows es lists open_rows whole fine invoice valid by =
        is_held rows es invoice open_rows.long fine (settled rows open_rows.covered)
        (held rows es lists invoice valid open_rows.complete (meets rows es by)
        (ap (λ left. holds_none left es) (left-none rows open_rows.covered open_rows.joined open_rows.paired) ∙ holds-none es)) whole

module _
    (whole_read : (table : DocumentType) (rows : List Row) (es : List Entry) (lists : Lists) → IsOpen table rows → is_whole rows ≡ true
    → first_fault rows ≡ Ok tt
    → IsInvoice es → IsValid es lists → carrying rows es ≡ Ok tt
    → lost_nodes (document_nodes (document_of rows es)) rows ≡ [])
    (back : (limits : Limits) (rows : List Row) (es : List Entry) → IsInvoice es → is_readable limits rows ≡ true → holds_any rows es ≡ true →
    IsSmall limits rows es → IsReadBack limits rows es)
    (there : (rows : List Row) (es : List Entry) (lists : Lists) → shows invoice_number (plan_of rows) ≡ true → IsValid es lists → holds_any rows es ≡ true)
    (small : (rows : List Row) (es : List Entry) → carrying rows es ≡ Ok tt → IsSmall reading_limits rows es)
    (root : (limits : Limits) (rows : List Row) (es : List Entry) → is_readable limits rows ≡ true → holds_any rows es ≡ true →
    document_type_of (document_nodes (document_of rows es)) ≡ root_table rows)
    (tables : DocumentType → List Row) (are : AreOpen tables) (whole : AreWhole tables)
  where
    pub text-whole : (table : DocumentType) (es : List Entry) (lists : Lists) → IsInvoice es → IsValid es lists → carrying (tables table) es ≡ Ok tt
        → IsWholeBy tables (encode_utf8_all (document_text (tables table) es))
    text-whole table es lists invoice valid by =
        let open_rows = are.open_each table in
        let any = there (tables table) es lists open_rows.shows valid in
        let read = back reading_limits (tables table) es invoice open_rows.readable any (small (tables table) es by) in
        let told = root reading_limits (tables table) es open_rows.readable any ∙ open_rows.root in
        record {
          found = read.found;
          is = read.is;
          lost =
              ap (first_lost tables) read.nodes
              ∙ (ap (lost_by_root tables (document_nodes (document_of (tables table) es))) told
              ∙ ap first_of (whole_read table (tables table) es lists open_rows (whole table) (are.formed table) invoice valid by));
        }
