-- The built-in part of an extended table is judged as it is judged alone, so a fault is that of a term's row.
use Rattle.std.proofs.Common.{◌≡◌, ℕ, zero, suc, ◌+◌, ◌-◌, ◌≤◌, Bool, true, false, not, ◌&&◌, ◌||◌, ◌⊎◌, inl, inr, List, [], ◌∷◌, ◌++◌, length, Option, Some}
use Rattle.std.proofs.Common.{None, Result, Ok, Err, refl, sym, ap, ◌∙◌, subst, arith, append_assoc}
use Rattle.std.specs.Prelude.{◌==◌, if◌then◌else◌, slice_get}
use Rattle.std.specs.List.{list_all}
use Rattle.std.proofs.lemmas.Bool.{false≢true}
use Rattle.std.proofs.lemmas.Option.{same_Some}
use Rattle.term_table.specs.declared.terms.Term.{Term}
use Rattle.term_table.specs.SemanticModel.{is_extension as is_extension_term}
use Rattle.bind_rows.specs.declared.rows.Content.{Content}
use Rattle.bind_rows.specs.declared.rows.Content.TheVariants as contents
use Rattle.bind_rows.specs.declared.rows.Row.{Row}
use Rattle.bind_rows.specs.declared.tables.DocumentType.{DocumentType}
use Rattle.bind_rows.specs.declared.tables.DocumentType.TheVariants as document_type
use Rattle.bind_rows.specs.Added.{adds_term, is_added, is_built, built}
use Rattle.bind_rows.specs.Same.{choose}
use Rattle.extension_files.specs.declared.terms.ExtTerm.{ExtTerm}
use Rattle.extension_files.specs.Extensions.{is_extension}
use Rattle.bind_table.specs.declared.extending.AddedTerm.{AddedTerm}
use Rattle.bind_table.specs.declared.judging.TableFault.{TableFault}
use Rattle.bind_table.specs.declared.judging.TableKind.{TableKind}
use Rattle.bind_table.specs.declared.judging.TableKind.TheVariants as kinds
use Rattle.bind_table.specs.Extending.{added_row, extended}
use Rattle.bind_table.specs.Parting.{clash}
use Rattle.bind_table.specs.WellFormed.{clashes_from, is_unknown, is_outside, added_fault, own_fault, fault_of, told, first_fault_from, first_fault}
use Rattle.bind_table.proofs.SoundLemmas.{told-ok}
use Rattle.ubl_binding.specs.Tables.{invoice_listing, invoice_rows, credit_note_listing, credit_note_rows}
use Rattle.cii_binding.specs.Table.{cii_listing, cii_rows}
use Rattle.bind_meaning.specs.Tables.{rows_of}
use Rattle.binding_laws.proofs.ReachLemmas.{Among}
use Rattle.carrying_laws.proofs.ModelLemmas.{all-each}
use Rattle.bind_run.specs.Extensions.{terms_for, rows_for}
use Rattle.extension_laws.specs.Faulty.{IsOfTerm}
use Rattle.bind_run.proofs.RoomLemmas.{Rising, rising, added-is}

-- ---- the rows behind a table's own are added ones

record Behind (rows whole : List Row) : Type 0 where
  back : List Row
  is : whole ≡ rows ++ back
  all : (r : Row) → Among r back → is_added r ≡ true

all-added : (row : Row) (back : List Row) → is_added row ≡ true → ((r : Row) → Among r back → is_added r ≡ true) → (r : Row) → Among r (row ∷ back)
    → is_added r ≡ true
all-added row back h f r (inl e) = ap is_added (sym e) ∙ h
all-added row back h f r (inr a) = f r a

nothing-behind : (xs : List Row) → xs ++ [] ≡ xs
nothing-behind [] = refl
nothing-behind (x ∷ xs) = ap (λ l. x ∷ l) (nothing-behind xs)

behind : (table : DocumentType) (terms : List AddedTerm) (before : ℕ) (rows : List Row) → Rising table before terms → Behind rows (extended table rows terms)
behind table [] before rows rise = record { back = []; is = sym (nothing-behind rows); all = λ r a. absurd a }
behind table (a ∷ terms) before rows rise =
    let row = added_row table rows a in
    let x = behind table terms a.number (rows ++ row ∷ []) rise.1.1 in
    record { back = row ∷ x.back; is = x.is ∙ append_assoc rows (row ∷ []) x.back; all = all-added row x.back (added-is table rows a rise.1.0) x.all }

-- ---- a row's place

get-among : (ys : List Row) (j : ℕ) (r : Row) → slice_get ys j ≡ Some r → Among r ys
get-among [] j r h = cc
get-among (y ∷ ys) zero r h = inl (same_Some y r h)
get-among (y ∷ ys) (suc j) r h = inr (get-among ys j r h)

abbrev Stands : List Row → List Row → ℕ → Row → Type 0
Stands xs ys j r = (slice_get xs j ≡ Some r) ⊎ ((length xs ≤ j) × Among r ys)

further : (x : Row) (xs ys : List Row) (j : ℕ) (r : Row) → Stands xs ys j r → Stands (x ∷ xs) ys (suc j) r
further x xs ys j r (inl h) = inl h
further x xs ys j r (inr w) = let l = w.0 in let z : suc (length xs) ≤ suc j = omega (arith, l) in inr (z, w.1)

stands : (xs ys : List Row) (j : ℕ) (r : Row) → slice_get (xs ++ ys) j ≡ Some r → Stands xs ys j r
stands [] ys j r h = let z : 0 ≤ j = omega arith in inr (z, get-among ys j r h)
stands (x ∷ xs) ys zero r h = inl h
stands (x ∷ xs) ys (suc j) r h = further x xs ys j r (stands xs ys j r h)

-- ---- added rows change nothing for the built-in ones

dead : (a : Bool) → ((a && false) || false) ≡ false
dead true = refl
dead false = refl

no-clash : (back : List Row) (n k : ℕ) (row : Row) → ((r : Row) → Among r back → is_added r ≡ true) → clashes_from n back k row ≡ false
no-clash [] n k row f = refl
no-clash (b ∷ back) n k row f =
    (λ i. (not (n == k) && (not (f b (inl refl) i) && clash row b)) || no-clash back (n + 1) k row (λ r a. f r (inr a)) i) ∙ dead (not (n == k))

same-clashes : (others back : List Row) (n k : ℕ) (row : Row) → ((r : Row) → Among r back → is_added r ≡ true)
    → clashes_from n (others ++ back) k row ≡ clashes_from n others k row
same-clashes [] back n k row f = no-clash back n k row f
same-clashes (o ∷ others) back n k row f = ap (λ b. (not (n == k) && (not (is_added o) && clash row o)) || b) (same-clashes others back (n + 1) k row f)

none-built : (back : List Row) → ((r : Row) → Among r back → is_added r ≡ true) → built back ≡ []
none-built [] f = refl
none-built (b ∷ back) f = ap (λ x. if not x then b ∷ built back else built back) (f b (inl refl)) ∙ none-built back (λ r a. f r (inr a))

same-built : (rows back : List Row) → ((r : Row) → Among r back → is_added r ≡ true) → built (rows ++ back) ≡ built rows
same-built [] back f = none-built back f
same-built (r ∷ rows) back f = ap (λ l. if is_built r then r ∷ l else l) (same-built rows back f)

same-fault : (rows back : List Row) (k : ℕ) (row : Row) → ((r : Row) → Among r back → is_added r ≡ true)
    → own_fault (rows ++ back) (built (rows ++ back)) k row ≡ own_fault rows (built rows) k row
same-fault rows back k row f =
    λ i. choose (same-clashes rows back 0 k row f i) (λ _. Some kinds.Ambiguous)
    (λ _. choose (is_unknown row row.content) (λ _. Some kinds.UnknownTerm)
    (λ _. choose (is_outside (same-built rows back f i) row) (λ _. Some kinds.OutsideContext) (λ _. None)))

-- ---- a row without a fault, and the row of the first fault

none-at : (rows own : List Row) (k : ℕ) (left : List Row) (j : ℕ) (row : Row) → first_fault_from rows own k left ≡ Ok tt → slice_get left j ≡ Some row
    → fault_of rows own (k + j) row ≡ None
none-at rows own k [] j row fine at = cc
none-at rows own k (r ∷ left) zero row fine at =
    let P : Row → Type 0 = λ r. fault_of rows own k r ≡ None in
    let e : k ≡ k + 0 = omega arith in
    subst (λ n. fault_of rows own n row ≡ None) e
    (subst P (same_Some _ _ at) (told-ok k (fault_of rows own k r) (first_fault_from rows own (k + 1) left) fine).0)
none-at rows own k (r ∷ left) (suc j) row fine at =
    let e : k + 1 + j ≡ k + suc j = omega arith in
    subst (λ n. fault_of rows own n row ≡ None) e
    (none-at rows own (k + 1) left j row (told-ok k (fault_of rows own k r) (first_fault_from rows own (k + 1) left) fine).1 at)

record Found (rows own : List Row) (k : ℕ) (left : List Row) (fault : TableFault) : Type 0 where
  place : ℕ
  row : Row
  kind : TableKind
  at : slice_get left place ≡ Some row
  number : fault.row ≡ k + place + 1
  bad : fault_of rows own (k + place) row ≡ Some kind

abbrev row_of : Result (Unit {0}) TableFault → ℕ
row_of (Ok fine) = 0
row_of (Err fault) = fault.row

found-by : (rows own : List Row) (k : ℕ) (r : Row) (left : List Row) (fault : TableFault) (o : Option TableKind) → fault_of rows own k r ≡ o
    → told k o (first_fault_from rows own (k + 1) left) ≡ Err fault → (first_fault_from rows own (k + 1) left ≡ Err fault → Found rows own (k + 1) left fault)
    → Found rows own k (r ∷ left) fault
found-by rows own k r left fault None e h f =
    let x = f h in
    let n = x.number in
    let same : k + 1 + x.place ≡ k + suc x.place = omega arith in
    record {
      place = suc x.place;
      row = x.row;
      kind = x.kind;
      at = x.at;
      number = omega (arith, n);
      bad = subst (λ n. fault_of rows own n x.row ≡ Some x.kind) same x.bad;
    }
found-by rows own k r left fault (Some kind) e h f =
    let n : k + 1 ≡ fault.row = ap row_of h in
    let same : k ≡ k + 0 = omega arith in
    record {
      place = 0;
      row = r;
      kind = kind;
      at = refl;
      number = omega (arith, n);
      bad = subst (λ n. fault_of rows own n r ≡ Some kind) same e;
    }

found : (rows own : List Row) (k : ℕ) (left : List Row) (fault : TableFault) → first_fault_from rows own k left ≡ Err fault → Found rows own k left fault
found rows own k [] fault h = cc
found rows own k (r ∷ left) fault h = found-by rows own k r left fault (fault_of rows own k r) refl h (found rows own (k + 1) left fault)

-- ---- an added row has a term

record HasAdded (row : Row) : Type 0 where
  term : Term
  content : row.content ≡ contents.Term term
  extension : is_extension_term term ≡ true

adds : (a b : Bool) → choose a (λ _. b) (λ _. false) ≡ true → a ≡ true
adds true b h = refl
adds false b h = absurd (false≢true h)

content-of : (row : Row) (content : Content) → row.content ≡ content → adds_term content ≡ true → HasAdded row
content-of row (contents.Term term) e h = record { term = term; content = e; extension = h }
content-of row (contents.Constant text) e h = absurd (false≢true h)

-- ---- so the fault is that of a term's row

abbrev by_sort : List Row → List Row → ℕ → Row → Bool → Option TableKind
by_sort rows own k row b = choose b (λ _. added_fault rows own k row) (λ _. own_fault rows own k row)

module _ (rows back : List Row) (f : (r : Row) → Among r back → is_added r ≡ true) (fine : first_fault rows ≡ Ok tt) (all : list_all is_built rows ≡ true)
    (fault : TableFault)
    (x : Found (rows ++ back) (built (rows ++ back)) 0 (rows ++ back) fault) where
  not-own : is_added x.row ≡ false → slice_get rows x.place ≡ Some x.row → ⊥
  not-own sort at =
      let none : own_fault rows (built rows) (0 + x.place) x.row ≡ None =
      ap (by_sort rows (built rows) (0 + x.place) x.row) (sym sort) ∙ none-at rows (built rows) 0 rows x.place x.row fine at in
      let some : own_fault rows (built rows) (0 + x.place) x.row ≡ Some x.kind =
      sym (same-fault rows back (0 + x.place) x.row f) ∙ (ap (by_sort (rows ++ back) (built (rows ++ back)) (0 + x.place) x.row) (sym sort) ∙ x.bad) in
      let no : ◌≡◌ {A = Option TableKind} None (Some x.kind) = sym none ∙ some in
      cc

  not-added : slice_get rows x.place ≡ Some x.row → is_added x.row ≡ false
  not-added at = by (is_added x.row) (all-each is_built rows all x.row (get-among rows x.place x.row at))
    where
      by : (b : Bool) → not b ≡ true → b ≡ false
      by true h = absurd (false≢true h)
      by false h = refl

  there : Stands rows back x.place x.row → (length rows ≤ x.place) × (is_added x.row ≡ true)
  there (inl at) = absurd (not-own (not-added at) at)
  there (inr w) = (w.0, f x.row w.1)

  is-of-term : IsOfTerm (length rows) (rows ++ back) fault
  is-of-term =
      let w = there (stands rows back x.place x.row x.at) in
      let low = w.0 in
      let n = x.number in
      let t = content-of x.row x.row.content refl (adds (adds_term x.row.content) _ w.1) in
      let same : x.place ≡ fault.row - 1 = omega (arith, n) in
      record {
        behind = omega (arith, low, n);
        row = x.row;
        at = subst (λ k. slice_get (rows ++ back) k ≡ Some x.row) same x.at;
        term = t.term;
        content = t.content;
        extension = t.extension;
      }

-- ---- the three tables have no added row, computed

own-invoice : list_all is_built invoice_rows ≡ true
unfolding invoice_listing invoice_rows
own-invoice = refl

own-credit_note : list_all is_built credit_note_rows ≡ true
unfolding credit_note_listing credit_note_rows
own-credit_note = refl

own-cii : list_all is_built cii_rows ≡ true
unfolding cii_listing cii_rows
own-cii = refl

own-rows : (table : DocumentType) → list_all is_built (rows_of table) ≡ true
own-rows document_type.Invoice = own-invoice
own-rows document_type.CreditNote = own-credit_note
own-rows document_type.Cii = own-cii

pub extension-fault : ((table : DocumentType) → first_fault (rows_of table) ≡ Ok tt) → (table : DocumentType) (e : List ExtTerm) (fault : TableFault)
    → is_extension e ≡ true
    → first_fault (rows_for e table) ≡ Err fault → IsOfTerm (length (rows_of table)) (rows_for e table) fault
extension-fault formed table e fault h bad =
    let b = behind table (terms_for table e) 0 (rows_of table) (rising table e h) in
    let here : first_fault (rows_of table ++ b.back) ≡ Err fault = subst (λ l. first_fault l ≡ Err fault) b.is bad in
    subst (λ l. IsOfTerm (length (rows_of table)) l fault) (sym b.is)
    (is-of-term (rows_of table) b.back b.all (formed table) (own-rows table) fault
    (found (rows_of table ++ b.back) (built (rows_of table ++ b.back)) 0 (rows_of table ++ b.back) fault here))
