-- Where one of the three tables with a user's terms is well formed, the row of each term joins the rows before it.
use Rattle.std.proofs.Common.{◌≡◌, ℕ, ◌+◌, ◌<◌, ◌≤◌, Bool, true, false, not, ◌&&◌, List, [], ◌∷◌, ◌++◌, length, All, Some, None, Ok, refl, sym, ap, ◌∙◌, subst}
use Rattle.std.proofs.Common.{arith, append_assoc}
use Rattle.std.specs.Prelude.{◌==◌, nat_lt}
use Rattle.std.specs.List.{list_all}
use Rattle.std.proofs.lemmas.Bool.{ltb-true, eqb-true, false≢true}
use Rattle.std.proofs.lemmas.List.{length-map}
use Rattle.std.proofs.lemmas.List.Elements.{All-nil, All-cons, All-head, All-tail}
use Rattle.term_table.specs.SemanticModel.{same_term}
use Rattle.bind_rows.specs.declared.names.ElementName.{ElementName}
use Rattle.bind_rows.specs.declared.names.Namespace.TheVariants as spaces
use Rattle.bind_rows.specs.declared.rows.Content.{Content}
use Rattle.bind_rows.specs.declared.rows.Content.TheVariants as contents
use Rattle.bind_rows.specs.declared.rows.Row.{Row}
use Rattle.bind_rows.specs.declared.rows.Step.{Step}
use Rattle.bind_rows.specs.declared.tables.DocumentType.{DocumentType}
use Rattle.bind_rows.specs.declared.tables.DocumentType.TheVariants as document_type
use Rattle.bind_rows.specs.Added.{is_added, built}
use Rattle.extension_files.specs.declared.terms.ExtTerm.{ExtTerm}
use Rattle.extension_files.specs.Extensions.{is_extension}
use Rattle.bind_table.specs.declared.extending.AddedTerm.{AddedTerm}
use Rattle.bind_table.specs.Crossings.{part_by_name}
use Rattle.bind_table.specs.Extending.{names_for, greatest, added_term, added_row, extended}
use Rattle.bind_table.specs.Lines.{plan_of}
use Rattle.bind_table.specs.WellFormed.{first_fault, is_rooted}
use Rattle.ubl_binding.specs.Tables.{invoice_listing, invoice_rows, credit_note_listing, credit_note_rows}
use Rattle.cii_binding.specs.Table.{cii_listing, cii_rows}
use Rattle.bind_meaning.specs.Picks.{has_term, term_in}
use Rattle.bind_meaning.specs.Tables.{rows_of}
use Rattle.bind_write.specs.Documents.{root_namespace}
use Rattle.carrying_laws.proofs.ModelLemmas.{all-each, each-all}
use Rattle.written_laws.specs.Readable.{is_one_root}
use Rattle.bind_run.specs.Extensions.{terms_for, rows_for}
use Rattle.extension_laws.specs.Joins.{Joins, JoinEach}
use Rattle.extension_laws.proofs.AddLemmas.{both}
use Rattle.extension_laws.proofs.GoodLemmas.{extended-front, good-parts, good-through, good-rooted}
use Rattle.extension_laws.proofs.ListLemmas.{all-more}
use Rattle.extension_laws.proofs.NameLemmas.{root_for, are-named, are-written}
use Rattle.extension_laws.proofs.NewLemmas.{path-names, path-new, lines-below}
use Rattle.extension_laws.proofs.OpenTables.{long-each}
use Rattle.bind_run.proofs.RoomLemmas.{IsOfFile, Rising, rising, added-is, built-more, AreShort, few-names, short-each, own-each}
use Rattle.extension_laws.proofs.ShowLemmas.{rooted-more, one-root-more, namespace-more}

-- ---- what holds of the rows at each front

record Ready (table : DocumentType) (before : ℕ) (rows : List Row) : Type 0 where
  own : built rows ≡ rows_of table
  long : All (λ (r : Row). 0 < length r.path) rows
  one : is_one_root (plan_of rows) ≡ true
  root : root_namespace rows ≡ Some (root_for table)
  first : Row
  others : List Row
  is : rows ≡ first ∷ others
  -- no row has the term of a greater number
  unused : (n : ℕ) → before < n → list_all (λ (other : Row). not (has_term (added_term n) other)) rows ≡ true

-- ---- the row of the next term joins them

module _ (table : DocumentType) (before : ℕ) (rows back : List Row) (a : AddedTerm) (ready : Ready table before rows) (low : before < a.number)
    (file : IsOfFile table a)
    (fine : first_fault (rows ++ added_row table rows a ∷ back) ≡ Ok tt) where
  abbrev row : Row
  row = added_row table rows a

  abbrev names : List ElementName
  names = names_for (built rows) a

  counted : length row.path ≡ length names
  counted =
      let e = ap length (path-names rows (greatest rows) [] names) in
      let m = length-map row.path (λ (s : Step). s.name) in
      omega (arith, e, m)

  added : is_added row ≡ true
  added = added-is table rows a file

  parts : list_all (λ (other : Row). part_by_name row.path other.path) rows ≡ true
  parts = good-parts rows back row fine added

  few : (1 ≤ length names) × (length names ≤ 23)
  few = few-names table (built rows) a (subst AreShort (sym ready.own) (short-each table)) file

  rooted : is_rooted rows row ≡ true
  rooted =
      subst (λ l. is_rooted l row ≡ true) (sym ready.is)
      (good-rooted ready.first ready.others back row (subst (λ l. first_fault (l ++ row ∷ back) ≡ Ok tt) ready.is fine))

  joins-row : Joins rows row
  joins-row =
      let some = few.0 in
      let most = few.1 in
      let count = counted in
      record {
        added = added;
        long = omega (arith, some, count);
        rooted = rooted;
        parts = parts;
        through = good-through rows back row fine added;
        term = added_term a.number;
        content = refl;
        alone = ready.unused a.number low;
        short = omega (arith, most, count);
        named = are-named table rows a file ready.own ready.root;
        writable = are-written table rows a file ready.own ready.root;
        top = greatest rows;
        below = lines-below rows;
        fresh = path-new rows ready.long names (λ r there. all-each (λ (other : Row). part_by_name row.path other.path) rows parts r there);
      }

-- ---- and what holds of the rows before it holds with it

long-more : (rows : List Row) (row : Row) → All (λ (r : Row). 0 < length r.path) rows → 0 < length row.path
    → All (λ (r : Row). 0 < length r.path) (rows ++ row ∷ [])
long-more [] row a h = All-cons (λ (r : Row). 0 < length r.path) row [] h (All-nil (λ (r : Row). 0 < length r.path))
long-more (x ∷ rows) row a h =
    All-cons (λ (r : Row). 0 < length r.path) x (rows ++ row ∷ []) (All-head (λ (r : Row). 0 < length r.path) x rows a)
    (long-more rows row (All-tail (λ (r : Row). 0 < length r.path) x rows a) h)

-- terms of different numbers
other-number : (m n : ℕ) → m < n → not (same_term (added_term m) (added_term n)) ≡ true
other-number m n l = by ((1000 + m) == (1000 + n)) refl
  where
    by : (b : Bool) → ((1000 + m) == (1000 + n)) ≡ b → not (b && true) ≡ true
    by false e = refl
    by true e = let z = eqb-true (1000 + m) (1000 + n) e in let w : ⊥ = omega (arith, z, l) in absurd w

ready-more : (table : DocumentType) (before : ℕ) (rows : List Row) (a : AddedTerm) → Ready table before rows → before < a.number → IsOfFile table a
    → Joins rows (added_row table rows a)
    → Ready table a.number (rows ++ added_row table rows a ∷ [])
ready-more table before rows a ready low file joins =
    let row = added_row table rows a in
    let r = rooted-more rows row joins ready.long ready.one in
    record {
      own = built-more table rows a file ∙ ready.own;
      long = long-more rows row ready.long joins.long;
      one = one-root-more rows row r;
      root = namespace-more rows row r ∙ ready.root;
      first = ready.first;
      others = ready.others ++ row ∷ [];
      is = ap (λ l. l ++ row ∷ []) ready.is;
      unused = λ n above. all-more (λ (other : Row). not (has_term (added_term n) other)) rows row
          (all-each (λ (other : Row). not (has_term (added_term n) other)) rows (ready.unused n (omega (arith, low, above)))) (other-number a.number n above);
    }

join-each : (table : DocumentType) (terms : List AddedTerm) (before : ℕ) (rows : List Row) → Rising table before terms → Ready table before rows
    → first_fault (extended table rows terms) ≡ Ok tt
    → JoinEach table rows terms
join-each table [] before rows rise ready fine = tt
join-each table (a ∷ terms) before rows rise ready fine =
    let row = added_row table rows a in
    let f = extended-front table terms (rows ++ row ∷ []) in
    let whole : first_fault (rows ++ row ∷ f.back) ≡ Ok tt = subst (λ l. first_fault l ≡ Ok tt) (f.is ∙ append_assoc rows (row ∷ []) f.back) fine in
    let joins = joins-row table before rows f.back a ready rise.0 rise.1.0 whole in
    (joins, join-each table terms a.number (rows ++ row ∷ []) rise.1.1 (ready-more table before rows a ready rise.0 rise.1.0 joins) fine)

-- ---- the three tables are ready, computed

one-invoice : is_one_root (plan_of invoice_rows) ≡ true
unfolding invoice_listing invoice_rows
one-invoice = refl

one-credit_note : is_one_root (plan_of credit_note_rows) ≡ true
unfolding credit_note_listing credit_note_rows
one-credit_note = refl

one-cii : is_one_root (plan_of cii_rows) ≡ true
unfolding cii_listing cii_rows
one-cii = refl

one-each : (table : DocumentType) → is_one_root (plan_of (rows_of table)) ≡ true
one-each document_type.Invoice = one-invoice
one-each document_type.CreditNote = one-credit_note
one-each document_type.Cii = one-cii

root-invoice : root_namespace invoice_rows ≡ Some spaces.UblInvoice
unfolding invoice_listing invoice_rows
root-invoice = refl

root-credit_note : root_namespace credit_note_rows ≡ Some spaces.UblCreditNote
unfolding credit_note_listing credit_note_rows
root-credit_note = refl

root-cii : root_namespace cii_rows ≡ Some spaces.CiiInvoice
unfolding cii_listing cii_rows
root-cii = refl

root-each : (table : DocumentType) → root_namespace (rows_of table) ≡ Some (root_for table)
root-each document_type.Invoice = root-invoice
root-each document_type.CreditNote = root-credit_note
root-each document_type.Cii = root-cii

-- their terms have low numbers
abbrev has_low_term : Content → Bool
has_low_term (contents.Term term) = nat_lt term.number 1000
has_low_term (contents.Constant text) = true

abbrev are_low : List Row → Bool
are_low rows = nat_lt 0 (length rows) && list_all (λ (row : Row). has_low_term row.content) rows

low-invoice : are_low invoice_rows ≡ true
unfolding invoice_listing invoice_rows
low-invoice = refl

low-credit_note : are_low credit_note_rows ≡ true
unfolding credit_note_listing credit_note_rows
low-credit_note = refl

low-cii : are_low cii_rows ≡ true
unfolding cii_listing cii_rows
low-cii = refl

low-each : (table : DocumentType) → are_low (rows_of table) ≡ true
low-each document_type.Invoice = low-invoice
low-each document_type.CreditNote = low-credit_note
low-each document_type.Cii = low-cii

record NotEmpty (rows : List Row) : Type 0 where
  first : Row
  others : List Row
  is : rows ≡ first ∷ others

not-empty : (rows : List Row) → nat_lt 0 (length rows) ≡ true → NotEmpty rows
not-empty [] h = absurd (false≢true h)
not-empty (row ∷ rows) h = record { first = row; others = rows; is = refl }

abbrev holds : Content → ℕ → Bool
holds content n = elim (term_in content) [ None ↦ false | Some t ↦ same_term t (added_term n) ]

low-other : (content : Content) (n : ℕ) → has_low_term content ≡ true → not (holds content n) ≡ true
low-other (contents.Constant text) n h = refl
low-other (contents.Term term) n h = by (term.number == (1000 + n)) refl
  where
    by : (b : Bool) → (term.number == (1000 + n)) ≡ b → not (b && (term.part == 0)) ≡ true
    by false e = refl
    by true e =
        let l = ltb-true term.number 1000 h in
        let z = eqb-true term.number (1000 + n) e in
        let w : ⊥ = omega (arith, z, l) in
        absurd w

ready-first : (table : DocumentType) → Ready table 0 (rows_of table)
ready-first table =
    let w = both (nat_lt 0 (length (rows_of table))) (list_all (λ (row : Row). has_low_term row.content) (rows_of table)) (low-each table) in
    let x = not-empty (rows_of table) w.0 in
    record {
      own = own-each table;
      long = long-each table;
      one = one-each table;
      root = root-each table;
      first = x.first;
      others = x.others;
      is = x.is;
      unused = λ n above. each-all (λ (other : Row). not (has_term (added_term n) other)) (rows_of table)
          (λ r there. low-other r.content n (all-each (λ (row : Row). has_low_term row.content) (rows_of table) w.1 r there));
    }

pub extension-joins : (table : DocumentType) (e : List ExtTerm) → is_extension e ≡ true → first_fault (rows_for e table) ≡ Ok tt
    → JoinEach table (rows_of table) (terms_for table e)
extension-joins table e h fine = join-each table (terms_for table e) 0 (rows_of table) (rising table e h) (ready-first table) fine
