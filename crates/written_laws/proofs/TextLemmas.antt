-- The laws of invoices as texts, in each of the three tables and in both syntaxes.
use Rattle.std.proofs.Common.{◌≡◌, ℕ, true, List, option_and_then, Some, Ok, ap, ◌∙◌, encode_utf8_all}
use Rattle.inv_base.specs.Tree.{Forest, document_nodes}
use Rattle.code_lists.specs.CodeFiles.{Lists}
use Rattle.xml_state.specs.declared.limits.Limits.{Limits}
use Rattle.xml_profile.specs.Profile.{IsXml}
use Rattle.xml_write.specs.Canonical.{Declaration, canonical_text}
use Rattle.xml_laws.specs.Writable.{IsWritable}
use Rattle.inv_terms.specs.declared.entries.Entry.{Entry}
use Rattle.inv_terms.specs.Listing.{IsInvoice}
use Rattle.inv_terms.specs.Whole.{IsValid}
use Rattle.bind_rows.specs.declared.rows.Row.{Row}
use Rattle.bind_rows.specs.declared.tables.DocumentType.{DocumentType}
use Rattle.bind_meaning.specs.declared.tables.Syntax.{Syntax}
use Rattle.bind_meaning.specs.Tables.{rows_of}
use Rattle.bind_meaning.specs.Terms.{Read, terms_of}
use Rattle.bind_meaning.specs.Trees.{document_of}
use Rattle.bind_write.specs.Documents.{document_text}
use Rattle.bind_carrying.specs.Tables.{target}
use Rattle.bind_carrying.specs.Carrying.{carrying, entries_carried}
use Rattle.written_laws.specs.Readable.{reading_limits, holds_any}
use Rattle.written_laws.specs.Texts.{tree_in, text_in, IsCarriedBy, exactly, AreReadAs, if_carried, if_invoice, if_document, conversion}
use Rattle.written_laws.proofs.ValueLemmas.{SpelledBack}
use Rattle.written_laws.proofs.ReadLemmas.{Laws, written-xml}
use Rattle.written_laws.proofs.CarryLemmas.{small, carried}
use Rattle.written_laws.proofs.TableLemmas.{valid-holds, valid-read}
use Rattle.written_laws.proofs.Rows.{all-readable}

-- ---- documents

module _ (spelled : SpelledBack)
    (canonical : (limits : Limits) (declarations : List Declaration) (tree : Forest) → IsWritable limits declarations tree →
    IsXml limits (encode_utf8_all (canonical_text declarations tree)) tree)
  where
    pub table-xml : (table : DocumentType) (es : List Entry) → IsInvoice es → holds_any (rows_of table) es ≡ true → carrying (rows_of table) es ≡ Ok tt
        → IsXml reading_limits (encode_utf8_all (document_text (rows_of table) es)) (document_of (rows_of table) es)
    table-xml table es invoice there by =
        written-xml spelled canonical reading_limits (rows_of table) es invoice (all-readable table) there
        (small (rows_of table) es (carried (rows_of table) es by))

    pub valid-xml : (table : DocumentType) (es : List Entry) (lists : Lists) → IsInvoice es → IsValid es lists → carrying (rows_of table) es ≡ Ok tt
        → IsXml reading_limits (encode_utf8_all (document_text (rows_of table) es)) (document_of (rows_of table) es)
    valid-xml table es lists invoice valid by = table-xml table es invoice (valid-holds table es lists valid) by

    pub syntax-xml : (syntax : Syntax) (es : List Entry) (lists : Lists) → IsInvoice es → IsValid es lists → IsCarriedBy syntax es
        → IsXml reading_limits (text_in syntax es) (tree_in syntax es)
    syntax-xml syntax es lists invoice valid by = valid-xml (target es syntax) es lists invoice valid by

-- ---- the round trip

module _ (laws : Laws)
    (meets : (rows : List Row) (es : List Entry) → carrying rows es ≡ Ok tt → entries_carried rows es ≡ Ok tt)
    (read_exactly : (table : DocumentType) (es : List Entry) (lists : Lists) → IsInvoice es → IsValid es lists → entries_carried (rows_of table) es ≡ Ok tt
    → terms_of (document_nodes (document_of (rows_of table) es)) (rows_of table) lists ≡ Ok (exactly es))
  where
    pub table-round : (table : DocumentType) (es : List Entry) (lists : Lists) → IsInvoice es → IsValid es lists → carrying (rows_of table) es ≡ Ok tt
        → AreReadAs (encode_utf8_all (document_text (rows_of table) es)) lists (exactly es)
    table-round table es lists invoice valid by =
        let back = valid-read laws table es lists invoice valid by in
        record { found = back.found; is = back.is; invoice = back.invoice ∙ read_exactly table es lists invoice valid (meets (rows_of table) es by) }

    pub syntax-round : (syntax : Syntax) (es : List Entry) (lists : Lists) → IsInvoice es → IsValid es lists → IsCarriedBy syntax es →
        AreReadAs (text_in syntax es) lists (exactly es)
    syntax-round syntax es lists invoice valid by = table-round (target es syntax) es lists invoice valid by

-- ---- conversions

-- What is read as an invoice is converted to its text, where the syntax carries it.
pub read-converted : (syntax : Syntax) (lists : Lists) (bytes : List ℕ) (read : Read) → AreReadAs bytes lists read → IsCarriedBy syntax read.entries
    → conversion syntax lists bytes ≡ Some (text_in syntax read.entries)
read-converted syntax lists bytes read is by =
    ap (if_document syntax lists) is.is ∙ (ap (if_invoice syntax) is.invoice ∙ ap (if_carried (text_in syntax read.entries)) by)

module _ (round : (syntax : Syntax) (es : List Entry) (lists : Lists) → IsInvoice es → IsValid es lists → IsCarriedBy syntax es →
    AreReadAs (text_in syntax es) lists (exactly es)) where
  pub converted-there : (first second : Syntax) (es : List Entry) (lists : Lists) → IsInvoice es → IsValid es lists → IsCarriedBy first es →
      IsCarriedBy second es
      → conversion second lists (text_in first es) ≡ Some (text_in second es)
  converted-there first second es lists invoice valid by too =
      read-converted second lists (text_in first es) (exactly es) (round first es lists invoice valid by) too

  pub converted-back : (first second : Syntax) (es : List Entry) (lists : Lists) → IsInvoice es → IsValid es lists → IsCarriedBy first es →
      IsCarriedBy second es
      → option_and_then (conversion first lists) (conversion second lists (text_in first es)) ≡ Some (text_in first es)
  converted-back first second es lists invoice valid by too =
      ap (option_and_then (conversion first lists)) (converted-there first second es lists invoice valid by too) ∙
      converted-there second first es lists invoice valid too by
