-- By open tables what a valid invoice is written as is read as exactly that invoice, and converted back.
use Rattle.std.proofs.Common.{◌≡◌, ℕ, ◌<◌, Bool, true, false, not, ◌&&◌, ◌||◌, List, [], ◌∷◌, ◌++◌, length, filter, flat_map, option_and_then, Some, Ok, All}
use Rattle.std.proofs.Common.{inl, inr, refl, sym, ap, ◌∙◌, encode_utf8_all}
use Rattle.std.specs.Prelude.{if◌then◌else◌}
use Rattle.std.proofs.lemmas.Bool.{false≢true}
use Rattle.inv_base.specs.Tree.{document_nodes}
use Rattle.code_lists.specs.CodeFiles.{Lists}
use Rattle.xml_state.specs.declared.limits.Limits.{Limits}
use Rattle.inv_terms.specs.declared.entries.Entry.{Entry}
use Rattle.inv_terms.specs.Listing.{IsInvoice}
use Rattle.inv_terms.specs.Whole.{IsValid}
use Rattle.bind_rows.specs.declared.rows.Row.{Row}
use Rattle.bind_rows.specs.declared.tables.DocumentType.{DocumentType}
use Rattle.bind_table.specs.Lines.{plan_of}
use Rattle.bind_table.specs.WellFormed.{first_fault}
use Rattle.bind_meaning.specs.declared.tables.Syntax.{Syntax}
use Rattle.bind_meaning.specs.Picks.{has_any_term}
use Rattle.bind_meaning.specs.Terms.{Read, terms_of}
use Rattle.bind_meaning.specs.Trees.{document_of}
use Rattle.bind_write.specs.Documents.{document_text}
use Rattle.bind_carrying.specs.Tables.{target}
use Rattle.bind_carrying.specs.Carrying.{carrying, entries_carried}
use Rattle.bind_run.specs.Reading.{by_root, invoice_by}
use Rattle.bind_run.specs.Roots.{document_type_of}
use Rattle.binding_laws.specs.Apart.{holds_none}
use Rattle.binding_laws.specs.Covered.{is_covered, is_shadowed, is_other, is_settled, rows_there, terms_in, unjoined_terms, unpaired_terms, left_out}
use Rattle.binding_laws.specs.Covered.{holds_plainly}
use Rattle.binding_laws.specs.Faultless.{is_faultless}
use Rattle.binding_laws.proofs.ReachLemmas.{Among}
use Rattle.carrying_laws.specs.Complete.{is_complete}
use Rattle.carrying_laws.proofs.ModelLemmas.{all-each, each-all}
use Rattle.written_laws.specs.Readable.{reading_limits, is_readable, shows, invoice_number, holds_any}
use Rattle.written_laws.specs.Reading.{IsSmall, IsReadBack}
use Rattle.written_laws.specs.Roots.{root_table}
use Rattle.written_laws.specs.Texts.{exactly}
use Rattle.extension_laws.specs.Open.{IsOpen, are_covered}
use Rattle.extension_laws.specs.Texts.{AreOpen, AreReadBy, text_by, IsCarriedIn, if_carried, if_invoice, if_document, conversion_by}

-- ---- open tables are settled, and leave no term out

covered-none : (any covered shadowed : Bool) → (not any || covered) ≡ true → (any && (not covered && not shadowed)) ≡ false
covered-none true true shadowed h = refl
covered-none true false shadowed h = absurd (false≢true h)
covered-none false covered shadowed h = refl

none-other : (rows : List Row) → are_covered rows ≡ true → (row : Row) → Among row rows → is_other (plan_of rows) rows row ≡ false
none-other rows covered row a =
    covered-none (has_any_term row) (is_covered rows row) (is_shadowed (plan_of rows) rows row)
    (all-each (λ (r : Row). not (has_any_term r) || is_covered rows r) rows covered row a)

pub settled : (rows : List Row) → are_covered rows ≡ true → is_settled rows ≡ true
settled rows covered =
    each-all _ rows (λ row a. passes (is_other (plan_of rows) rows row) _ (none-other rows covered row a))
  where
    passes : (a b : Bool) → a ≡ false → (not a || b) ≡ true
    passes true b e = absurd (false≢true (sym e))
    passes false b e = refl

none-kept : {X : Type 0} (p : X → Bool) (xs : List X) → ((x : X) → Among x xs → p x ≡ false) → filter p xs ≡ []
none-kept p [] h = refl
none-kept {X = X} p (x ∷ xs) h = by (p x) (h x (inl refl)) ∙ none-kept p xs (λ y a. h y (inr a))
  where
    by : (b : Bool) → b ≡ false → (if b then x ∷ filter p xs else filter p xs) ≡ filter p xs
    by true e = absurd (false≢true (sym e))
    by false e = refl

pub left-none : (rows : List Row) → are_covered rows ≡ true → unjoined_terms (plan_of rows) rows ≡ [] → unpaired_terms (plan_of rows) rows ≡ []
    → left_out rows ≡ []
left-none rows covered joined paired =
    λ i. flat_map (λ (row : Row). flat_map terms_in (rows_there (plan_of rows) row)) (none-kept (is_other (plan_of rows) rows) rows (none-other rows covered) i)
    ++ (joined i ++ paired i)

holds-none : (es : List Entry) → holds_none [] es ≡ true
holds-none [] = refl
holds-none (e ∷ es) = holds-none es

-- ---- the round trip

module _
    (exactly_read : (rows : List Row) (es : List Entry) (lists : Lists) → IsInvoice es → IsValid es lists → All (λ (r : Row). 0 < length r.path) rows →
    first_fault rows ≡ Ok tt
    → is_settled rows ≡ true → is_faultless rows ≡ true → holds_plainly rows es ≡ true
    → terms_of (document_nodes (document_of rows es)) rows lists ≡ Ok (record { entries = es; passed_over = 0 }))
    (held : (rows : List Row) (es : List Entry) (lists : Lists) → IsInvoice es → IsValid es lists → is_complete rows ≡ true
    → entries_carried rows es ≡ Ok tt → holds_none (left_out rows) es ≡ true → holds_plainly rows es ≡ true)
    (meets : (rows : List Row) (es : List Entry) → carrying rows es ≡ Ok tt → entries_carried rows es ≡ Ok tt)
  where
    pub open-read : (table : DocumentType) (rows : List Row) (es : List Entry) (lists : Lists) → IsOpen table rows → first_fault rows ≡ Ok tt → IsInvoice es
        → IsValid es lists → carrying rows es ≡ Ok tt
        → terms_of (document_nodes (document_of rows es)) rows lists ≡ Ok (exactly es)
    open-read table rows es lists open_rows fine invoice valid by =
        exactly_read rows es lists invoice valid open_rows.long fine (settled rows open_rows.covered) open_rows.faultless
        (held rows es lists invoice valid open_rows.complete (meets rows es by)
        (ap (λ left. holds_none left es) (left-none rows open_rows.covered open_rows.joined open_rows.paired) ∙ holds-none es))

    module _
        (back : (limits : Limits) (rows : List Row) (es : List Entry) → IsInvoice es → is_readable limits rows ≡ true → holds_any rows es ≡ true →
        IsSmall limits rows es → IsReadBack limits rows es)
        (there : (rows : List Row) (es : List Entry) (lists : Lists) → shows invoice_number (plan_of rows) ≡ true → IsValid es lists → holds_any rows es ≡ true)
        (small : (rows : List Row) (es : List Entry) → carrying rows es ≡ Ok tt → IsSmall reading_limits rows es)
        (root : (limits : Limits) (rows : List Row) (es : List Entry) → is_readable limits rows ≡ true → holds_any rows es ≡ true →
        document_type_of (document_nodes (document_of rows es)) ≡ root_table rows)
        (tables : DocumentType → List Row) (are : AreOpen tables)
      where
        pub round : (table : DocumentType) (es : List Entry) (lists : Lists) → IsInvoice es → IsValid es lists → carrying (tables table) es ≡ Ok tt
            → AreReadBy tables (encode_utf8_all (document_text (tables table) es)) lists (exactly es)
        round table es lists invoice valid by =
            let open_rows = are.open_each table in
            let any = there (tables table) es lists open_rows.shows valid in
            let read = back reading_limits (tables table) es invoice open_rows.readable any (small (tables table) es by) in
            let told = root reading_limits (tables table) es open_rows.readable any ∙ open_rows.root in
            record {
              found = read.found;
              is = read.is;
              invoice =
                  ap (λ nodes. invoice_by tables nodes lists) read.nodes
                  ∙ (ap (by_root tables (document_nodes (document_of (tables table) es)) lists) told
                  ∙ open-read table (tables table) es lists open_rows (are.formed table) invoice valid by);
            }

-- ---- conversions

module _ (tables : DocumentType → List Row)
    (round_trip : (table : DocumentType) (es : List Entry) (lists : Lists) → IsInvoice es → IsValid es lists → carrying (tables table) es ≡ Ok tt
    → AreReadBy tables (encode_utf8_all (document_text (tables table) es)) lists (exactly es))
  where
    read-converted : (syntax : Syntax) (lists : Lists) (bytes : List ℕ) (read : Read) → AreReadBy tables bytes lists read
        → IsCarriedIn tables syntax read.entries
        → conversion_by tables syntax lists bytes ≡ Some (text_by tables syntax read.entries)
    read-converted syntax lists bytes read is by =
        ap (if_document tables syntax lists) is.is ∙ (ap (if_invoice tables syntax) is.invoice ∙ ap (if_carried (text_by tables syntax read.entries)) by)

    pub converted-there : (first second : Syntax) (es : List Entry) (lists : Lists) → IsInvoice es → IsValid es lists → IsCarriedIn tables first es
        → IsCarriedIn tables second es
        → conversion_by tables second lists (text_by tables first es) ≡ Some (text_by tables second es)
    converted-there first second es lists invoice valid by too =
        read-converted second lists (text_by tables first es) (exactly es) (round_trip (target es first) es lists invoice valid by) too

    pub converted-back : (first second : Syntax) (es : List Entry) (lists : Lists) → IsInvoice es → IsValid es lists → IsCarriedIn tables first es
        → IsCarriedIn tables second es
        → option_and_then (conversion_by tables first lists) (conversion_by tables second lists (text_by tables first es)) ≡ Some (text_by tables first es)
    converted-back first second es lists invoice valid by too =
        ap (option_and_then (conversion_by tables first lists)) (converted-there first second es lists invoice valid by too) ∙
        converted-there second first es lists invoice valid too by
