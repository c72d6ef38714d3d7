-- A user's terms have room behind the rows of each of the three tables: there are 99 at most, each with 20 names at most
-- below an element that 3 names lead to.
use Rattle.std.proofs.Common.{◌≡◌, ℕ, ◌+◌, ◌*◌, ◌<◌, ◌≤◌, ◌^◌, Bool, true, false, not, ◌&&◌, List, [], ◌∷◌, ◌++◌, length, map, All, Option, Some, None, refl}
use Rattle.std.proofs.Common.{sym, ap, ◌∙◌, subst, arith, le-leb}
use Rattle.std.specs.Prelude.{◌==◌, if◌then◌else◌, fold, max, nat_lt, nat_le}
use Rattle.std.specs.List.{list_all, cons_option}
use Rattle.std.specs.Option.{option_map}
use Rattle.std.proofs.lemmas.Bool.{ltb-true, leb-true}
use Rattle.std.proofs.lemmas.List.{length-map}
use Rattle.std.proofs.lemmas.List.Elements.{All-nil, All-cons}
use Rattle.std.proofs.lemmas.Option.{same_Some}
use Rattle.term_table.specs.declared.groups.Group.TheVariants as groups
use Rattle.term_table.specs.declared.terms.DataType.{DataType}
use Rattle.term_table.specs.declared.terms.DataType.TheVariants as data_types
use Rattle.term_table.specs.Rows.{is_base64}
use Rattle.term_table.specs.SemanticModel.{is_extension as is_extension_term}
use Rattle.bind_rows.specs.declared.names.ElementName.{ElementName}
use Rattle.bind_rows.specs.declared.names.Namespace.{Namespace}
use Rattle.bind_rows.specs.declared.rows.Row.{Row}
use Rattle.bind_rows.specs.declared.rows.Step.{Step}
use Rattle.bind_rows.specs.declared.tables.DocumentType.{DocumentType}
use Rattle.bind_rows.specs.declared.tables.DocumentType.TheVariants as document_type
use Rattle.bind_rows.specs.Added.{data_type_of_form, is_added_type, is_root_or_line, is_unguarded, is_unmarked, is_added, is_built, built}
use Rattle.bind_rows.specs.Same.{same_name, choose}
use Rattle.extension_files.specs.declared.terms.ExtPlace.{ExtPlace}
use Rattle.extension_files.specs.declared.terms.ExtPlace.TheVariants as places
use Rattle.extension_files.specs.declared.terms.ExtTerm.{ExtTerm}
use Rattle.extension_files.specs.declared.terms.Paths.{Paths}
use Rattle.extension_files.specs.Extensions.{is_name, is_path_or_none, are_paths, are_terms, is_extension}
use Rattle.extension_files.specs.TermTables.{ubl_spaces, cii_spaces, has_path}
use Rattle.bind_table.specs.declared.extending.AddedTerm.{AddedTerm}
use Rattle.bind_table.specs.Extending.{at_names, first_of, first_at, greatest_on, greatest, step_for, top_behind, path_of, context_path, names_for}
use Rattle.bind_table.specs.Extending.{form_of_type, added_term, added_row}
use Rattle.bind_table.specs.Limits.{HasSteps, HasSmallNumbers, HasRooms}
use Rattle.bind_table.proofs.SoundLemmas.{both}
use Rattle.ubl_binding.specs.Tables.{invoice_listing, invoice_rows, credit_note_listing, credit_note_rows}
use Rattle.cii_binding.specs.Table.{cii_listing, cii_rows}
use Rattle.bind_meaning.specs.Tables.{rows_of}
use Rattle.bind_run.specs.Extensions.{outer_of, path_for, terms_for}

and-so : (a b : Bool) → a ≡ true → b ≡ true → (a && b) ≡ true
and-so a b h k = ap (λ x. x && b) h ∙ k

-- ---- a term of a file, as a table's syntax writes it

-- the namespaces of a table's paths
abbrev pub spaces_for : DocumentType → List Namespace
spaces_for document_type.Invoice = ubl_spaces
spaces_for document_type.CreditNote = ubl_spaces
spaces_for document_type.Cii = cii_spaces

pub record IsOfFile (table : DocumentType) (a : AddedTerm) : Type 0 where
  pub least : 1 ≤ a.number
  pub most : a.number ≤ 99
  pub place : ExtPlace
  pub outer : a.outer ≡ outer_of place
  pub inner : a.inner ≡ None
  pub data_type : not (is_base64 a.data_type) ≡ true
  pub some : 1 ≤ length a.names
  pub few : length a.names ≤ 20
  pub names : list_all (is_name (spaces_for table)) a.names ≡ true

-- Their numbers rise from above one.
abbrev pub Rising : DocumentType → ℕ → List AddedTerm → Type 0
Rising table before [] = Unit {0}
Rising table before (a ∷ terms) = (before < a.number) × (IsOfFile table a × Rising table a.number terms)

rising-lower : (table : DocumentType) (low high : ℕ) (terms : List AddedTerm) → low ≤ high → Rising table high terms → Rising table low terms
rising-lower table low high [] l r = tt
rising-lower table low high (a ∷ terms) l r = (omega (arith, l, r.0), r.1)

path-there : (table : DocumentType) (paths : Paths) → are_paths paths ≡ true → is_path_or_none (spaces_for table) (path_for table paths) ≡ true
path-there table paths h =
    let u = both (is_path_or_none ubl_spaces paths.ubl) _ h in
    let n = both (is_path_or_none ubl_spaces paths.credit_note) _ u.1 in
    by table u.0 n.0 (both (is_path_or_none cii_spaces paths.cii) (has_path paths) n.1).0
  where
    by : (table : DocumentType) → is_path_or_none ubl_spaces paths.ubl ≡ true → is_path_or_none ubl_spaces paths.credit_note ≡ true →
        is_path_or_none cii_spaces paths.cii ≡ true
        → is_path_or_none (spaces_for table) (path_for table paths) ≡ true
    by document_type.Invoice u n c = u
    by document_type.CreditNote u n c = n
    by document_type.Cii u n c = c

abbrev made : ExtTerm → List ElementName → AddedTerm
made term names = record { number = term.number; outer = outer_of term.place; inner = None; data_type = term.data_type; names = names }

rising-more : (table : DocumentType) (before : ℕ) (term : ExtTerm) (o : Option (List ElementName)) (terms : List AddedTerm) → before < term.number
    → term.number ≤ 99
    → not (is_base64 term.data_type) ≡ true → is_path_or_none (spaces_for table) o ≡ true → Rising table term.number terms →
    Rising table before (cons_option (option_map (made term) o) terms)
rising-more table before term None terms low high data_type path r = rising-lower table before term.number terms (omega (arith, low)) r
rising-more table before term (Some names) terms low high data_type path r =
    let s = both (nat_le 1 (length names)) _ path in
    let f = both (nat_le (length names) 20) (list_all (is_name (spaces_for table)) names) s.1 in
    let fine : IsOfFile table (made term names) = record {
      least = omega (arith, low);
      most = high;
      place = term.place;
      outer = refl;
      inner = refl;
      data_type = data_type;
      some = leb-true 1 (length names) s.0;
      few = leb-true (length names) 20 f.0;
      names = f.1;
    } in
    (low, (fine, r))

terms-rise : (table : DocumentType) (before : ℕ) (e : List ExtTerm) → are_terms before e ≡ true → Rising table before (terms_for table e)
terms-rise table before [] h = tt
terms-rise table before (term ∷ e) h =
    let low = both (nat_lt before term.number) _ h in
    let high = both (nat_le term.number 99) _ low.1 in
    let data_type = both (not (is_base64 term.data_type)) _ high.1 in
    let paths = both (are_paths term.paths) (are_terms term.number e) data_type.1 in
    rising-more table before term (path_for table term.paths) (terms_for table e) (ltb-true before term.number low.0) (leb-true term.number 99 high.0)
    data_type.0
    (path-there table term.paths paths.0) (terms-rise table term.number e paths.1)

pub rising : (table : DocumentType) (e : List ExtTerm) → is_extension e ≡ true → Rising table 0 (terms_for table e)
rising table e h = terms-rise table 0 e h

few-terms : (table : DocumentType) (before : ℕ) (terms : List AddedTerm) → before ≤ 99 → Rising table before terms → before + length terms ≤ 99
few-terms table before [] l r = omega (arith, l)
few-terms table before (a ∷ terms) l r =
    let low = r.0 in
    let most = r.1.0.most in
    let rest = few-terms table a.number terms most r.1.1 in
    omega (arith, low, rest)

pub at-most-99 : (table : DocumentType) (terms : List AddedTerm) → Rising table 0 terms → length terms ≤ 99
at-most-99 table terms r = let z = few-terms table 0 terms (omega arith) r in omega (arith, z)

-- ---- its row is an added one

data_type-kept : (table : DocumentType) (data_type : DataType) → data_type_of_form (form_of_type table data_type) ≡ Some data_type
data_type-kept document_type.Invoice data_type = refl
data_type-kept document_type.CreditNote data_type = refl
data_type-kept document_type.Cii data_types.D = refl
data_type-kept document_type.Cii data_types.A = refl
data_type-kept document_type.Cii data_types.B = refl
data_type-kept document_type.Cii data_types.C = refl
data_type-kept document_type.Cii data_types.I = refl
data_type-kept document_type.Cii data_types.P = refl
data_type-kept document_type.Cii data_types.Q = refl
data_type-kept document_type.Cii data_types.T = refl

free-step : (there : Option Step) (n : ElementName) (top : ℕ) → is_unguarded (step_for there n top) ≡ true
free-step (Some s) n top = refl
free-step None n top = refl

free-path : (rows : List Row) (top : ℕ) (before names : List ElementName) → list_all is_unguarded (path_of rows top before names) ≡ true
free-path rows top before [] = refl
free-path rows top before (n ∷ names) =
    let there = first_at (before ++ n ∷ []) rows in
    and-so (is_unguarded (step_for there n top)) _ (free-step there n top) (free-path rows (top_behind there top) (before ++ n ∷ []) names)

pub extension-term : (n : ℕ) → 1 ≤ n → n ≤ 99 → is_extension_term (added_term n) ≡ true
extension-term n low high =
    and-so (nat_le 1001 (1000 + n)) (nat_le (1000 + n) 1099) (le-leb 1001 (1000 + n) (omega (arith, low))) (le-leb (1000 + n) 1099 (omega (arith, high)))

placed : (place : ExtPlace) → is_root_or_line (outer_of place) None ≡ true
placed places.Root = refl
placed places.Line = refl

pub stands-there : (table : DocumentType) (a : AddedTerm) → IsOfFile table a → is_root_or_line a.outer a.inner ≡ true
stands-there table a file = (λ i. is_root_or_line (file.outer i) (file.inner i)) ∙ placed file.place

pub added-is : (table : DocumentType) (rows : List Row) (a : AddedTerm) → IsOfFile table a → is_added (added_row table rows a) ≡ true
added-is table rows a file =
    ap (λ b. choose b (λ _. is_root_or_line a.outer a.inner && is_unmarked (added_row table rows a)) (λ _. false))
    (extension-term a.number file.least file.most)
    ∙ and-so (is_root_or_line a.outer a.inner) (is_unmarked (added_row table rows a)) (stands-there table a file)
    (and-so (list_all is_unguarded (path_of rows (greatest rows) [] (names_for (built rows) a))) (is_added_type (data_type_of_form (form_of_type table
    a.data_type)))
    (free-path rows (greatest rows) [] (names_for (built rows) a)) (ap is_added_type (data_type-kept table a.data_type) ∙ file.data_type))

-- so the built-in part stays
built-by : (rows : List Row) (row : Row) → is_added row ≡ true → built (rows ++ row ∷ []) ≡ built rows
built-by [] row h = ap (λ b. if not b then row ∷ [] else []) h
built-by (r ∷ rows) row h = ap (λ l. if is_built r then r ∷ l else l) (built-by rows row h)

pub built-more : (table : DocumentType) (rows : List Row) (a : AddedTerm) → IsOfFile table a → built (rows ++ added_row table rows a ∷ []) ≡ built rows
built-more table rows a file = built-by rows (added_row table rows a) (added-is table rows a file)

-- ---- its names

-- A place's context has a short path.
abbrev pub AreShort : List Row → Type 0
AreShort own = (place : ExtPlace) → length (context_path own (outer_of place) None) ≤ 3

length-both : {X : Type 0} (xs ys : List X) → length (xs ++ ys) ≡ length xs + length ys
length-both [] ys = omega arith
length-both (x ∷ xs) ys = let e = length-both xs ys in omega (arith, e)

pub few-names : (table : DocumentType) (own : List Row) (a : AddedTerm) → AreShort own → IsOfFile table a → (1 ≤ length (names_for own a)) ×
    (length (names_for own a) ≤ 23)
few-names table own a short file =
    let path = context_path own a.outer a.inner in
    let low : length (context_path own a.outer a.inner) ≤ 3 = subst (λ n. n ≤ 3) (sym (λ i. length (context_path own (file.outer i) (file.inner i))))
    (short file.place) in
    let is = length-both (map (λ (s : Step). s.name) path) a.names in
    let same = length-map path (λ (s : Step). s.name) in
    let some = file.some in
    let few = file.few in
    (omega (arith, is, some), omega (arith, is, same, low, few))

-- ---- its numbers

grows : (m : ℕ) (path : List Step) → m ≤ fold max m (map (λ (s : Step). s.number) path)
grows m [] = omega arith
grows m (s ∷ path) = let h = grows (max m s.number) path in omega (arith, h)

grows-rows : (m : ℕ) (rows : List Row) → m ≤ fold greatest_on m rows
grows-rows m [] = omega arith
grows-rows m (row ∷ rows) =
    let g = grows m row.path in
    let h = grows-rows (greatest_on m row) rows in
    omega (arith, g, h)

at-small : (names : List ElementName) (path : List Step) (s : Step) (m : ℕ) → at_names names path ≡ Some s →
    s.number ≤ fold max m (map (λ (t : Step). t.number) path)
at-small [] path s m e = cc
at-small (n ∷ names) [] s m e = cc
at-small (n ∷ names) (t ∷ path) s m e = by (same_name n t.name) (length names == 0) e (at-small names path s (max m t.number))
  where
    by : (a b : Bool) → choose a (λ _. choose b (λ _. Some t) (λ _. at_names names path)) (λ _. None) ≡ Some s
        → (at_names names path ≡ Some s → s.number ≤ fold max (max m t.number) (map (λ (t : Step). t.number) path)) →
        s.number ≤ fold max (max m t.number) (map (λ (t : Step). t.number) path)
    by true true e f =
        let h = grows (max m t.number) path in
        let n = ap (λ (r : Step). r.number) (same_Some _ _ e) in
        omega (arith, h, n)
    by true false e f = f e
    by false b e f = cc

first-small : (names : List ElementName) (rows : List Row) (s : Step) (m : ℕ) → first_at names rows ≡ Some s → s.number ≤ fold greatest_on m rows
first-small names [] s m e = cc
first-small names (row ∷ rows) s m e = by (at_names names row.path) refl e (first-small names rows s (greatest_on m row))
  where
    by : (o : Option Step) → at_names names row.path ≡ o → first_of o (first_at names rows) ≡ Some s
        → (first_at names rows ≡ Some s → s.number ≤ fold greatest_on (greatest_on m row) rows) → s.number ≤ fold greatest_on (greatest_on m row) rows
    by None k e f = f e
    by (Some t) k e f =
        let h = at-small names row.path t m k in
        let g = grows-rows (greatest_on m row) rows in
        let n = ap (λ (r : Step). r.number) (same_Some _ _ e) in
        omega (arith, h, g, n)

pub found-small : (names : List ElementName) (rows : List Row) (s : Step) → first_at names rows ≡ Some s → s.number ≤ greatest rows
found-small names rows s e = first-small names rows s 0 e

step-low : (rows : List Row) (o : Option Step) (n : ElementName) (top : ℕ) → greatest rows ≤ top → ((s : Step) → o ≡ Some s → s.number ≤ greatest rows) →
    (step_for o n top).number ≤ top + 1
step-low rows None n top l f = omega arith
step-low rows (Some s) n top l f = let h = f s refl in omega (arith, h, l)

behind-low : (o : Option Step) (top : ℕ) → (top ≤ top_behind o top) × (top_behind o top ≤ top + 1)
behind-low None top = (omega arith, omega arith)
behind-low (Some s) top = (omega arith, omega arith)

path-low : (rows : List Row) (m top : ℕ) (before names : List ElementName) → greatest rows ≤ top →
    fold max m (map (λ (s : Step). s.number) (path_of rows top before names)) ≤ max m (top + length names)
path-low rows m top before [] l = omega arith
path-low rows m top before (n ∷ names) l =
    let o = first_at (before ++ n ∷ []) rows in
    let s = step-low rows o n top l (λ s e. found-small (before ++ n ∷ []) rows s e) in
    let b = behind-low o top in
    let b0 = b.0 in
    let b1 = b.1 in
    let h = path-low rows (max m (step_for o n top).number) (top_behind o top) (before ++ n ∷ []) names (omega (arith, l, b0)) in
    omega (arith, h, s, b1)

greatest-more : (m : ℕ) (rows : List Row) (row : Row) → fold greatest_on m (rows ++ row ∷ []) ≡ greatest_on (fold greatest_on m rows) row
greatest-more m [] row = refl
greatest-more m (r ∷ rows) row = greatest-more (greatest_on m r) rows row

pub greatest-behind : (table : DocumentType) (rows : List Row) (a : AddedTerm) →
    greatest (rows ++ added_row table rows a ∷ []) ≤ greatest rows + length (names_for (built rows) a)
greatest-behind table rows a =
    let e = greatest-more 0 rows (added_row table rows a) in
    let h = path-low rows (greatest rows) (greatest rows) [] (names_for (built rows) a) (omega arith) in
    omega (arith, e, h)

-- ---- room for all of them

one-more : (rows : List Row) (row : Row) → length (rows ++ row ∷ []) ≡ length rows + 1
one-more rows row = length-both rows (row ∷ [])

pub rooms : (table : DocumentType) (own : List Row) → AreShort own → (terms : List AddedTerm) (before : ℕ) → Rising table before terms → (rows : List Row) →
    built rows ≡ own
    → length rows + length terms < 2 ^ 31 → greatest rows + 23 * length terms < 2 ^ 31 → HasRooms table rows terms
rooms table own short [] before r rows e few low = tt
rooms table own short (a ∷ terms) before r rows e few low =
    let file = r.1.0 in
    let names = few-names table (built rows) a (subst AreShort (sym e) short) file in
    let n0 = names.0 in
    let n1 = names.1 in
    let count = one-more rows (added_row table rows a) in
    let most = greatest-behind table rows a in (
      omega (arith, few),
      (
        (omega (arith, n0), omega (arith, n1, low)),
        rooms table own short terms a.number r.1.1 (rows ++ added_row table rows a ∷ []) (built-more table rows a file ∙ e) (omega (arith, few, count))
            (omega (arith, low, most, n1)),
      ),
    )

-- ---- the three tables, computed

-- no row of a table is an added one
built-invoice : built invoice_rows ≡ invoice_rows
unfolding invoice_listing invoice_rows
built-invoice = refl

built-credit_note : built credit_note_rows ≡ credit_note_rows
unfolding credit_note_listing credit_note_rows
built-credit_note = refl

built-cii : built cii_rows ≡ cii_rows
unfolding cii_listing cii_rows
built-cii = refl

pub own-each : (table : DocumentType) → built (rows_of table) ≡ rows_of table
own-each document_type.Invoice = built-invoice
own-each document_type.CreditNote = built-credit_note
own-each document_type.Cii = built-cii

-- few rows, whose paths have elements with small numbers
abbrev are_small : List Row → Bool
are_small rows =
    nat_le (length rows) 1000
    && (nat_le (greatest rows) 1000 && list_all (λ (row : Row). nat_lt 0 (length row.path) && list_all (λ (s : Step). nat_lt s.number 1000) row.path) rows)

small-invoice : are_small invoice_rows ≡ true
unfolding invoice_listing invoice_rows
small-invoice = refl

small-credit_note : are_small credit_note_rows ≡ true
unfolding credit_note_listing credit_note_rows
small-credit_note = refl

small-cii : are_small cii_rows ≡ true
unfolding cii_listing cii_rows
small-cii = refl

small-each : (table : DocumentType) → are_small (rows_of table) ≡ true
small-each document_type.Invoice = small-invoice
small-each document_type.CreditNote = small-credit_note
small-each document_type.Cii = small-cii

abbrev are_short : List Row → Bool
are_short own = nat_le (length (context_path own None None)) 3 && nat_le (length (context_path own (Some groups.InvoiceLine) None)) 3

short-invoice : are_short invoice_rows ≡ true
unfolding invoice_listing invoice_rows
short-invoice = refl

short-credit_note : are_short credit_note_rows ≡ true
unfolding credit_note_listing credit_note_rows
short-credit_note = refl

short-cii : are_short cii_rows ≡ true
unfolding cii_listing cii_rows
short-cii = refl

by-short : (own : List Row) → are_short own ≡ true → AreShort own
by-short own h places.Root = leb-true (length (context_path own None None)) 3 (both (nat_le (length (context_path own None None)) 3) _ h).0
by-short own h places.Line =
    leb-true (length (context_path own (Some groups.InvoiceLine) None)) 3
    (both (nat_le (length (context_path own None None)) 3) (nat_le (length (context_path own (Some groups.InvoiceLine) None)) 3) h).1

pub short-each : (table : DocumentType) → AreShort (rows_of table)
short-each document_type.Invoice = by-short invoice_rows short-invoice
short-each document_type.CreditNote = by-short credit_note_rows short-credit_note
short-each document_type.Cii = by-short cii_rows short-cii

all-by : {X : Type 0} (P : X → Type 0) (p : X → Bool) → ((x : X) → p x ≡ true → P x) → (xs : List X) → list_all p xs ≡ true → All P xs
all-by P p f [] h = All-nil P
all-by P p f (x ∷ xs) h = let w = both (p x) (list_all p xs) h in All-cons P x xs (f x w.0) (all-by P p f xs w.1)

abbrev is_small_row : Row → Bool
is_small_row row = nat_lt 0 (length row.path) && list_all (λ (s : Step). nat_lt s.number 1000) row.path

rows-small : (table : DocumentType) → list_all is_small_row (rows_of table) ≡ true
rows-small table = (both (nat_le (greatest (rows_of table)) 1000) _ (both (nat_le (length (rows_of table)) 1000) _ (small-each table)).1).1

pub steps-each : (table : DocumentType) → All HasSteps (rows_of table)
steps-each table = all-by HasSteps is_small_row (λ row h. ltb-true 0 (length row.path) (both (nat_lt 0 (length row.path)) _ h).0) (rows_of table)
    (rows-small table)

pub numbers-each : (table : DocumentType) → All HasSmallNumbers (rows_of table)
numbers-each table = all-by HasSmallNumbers is_small_row (λ row h. numbers row (both (nat_lt 0 (length row.path)) _ h).1) (rows_of table) (rows-small table)
  where
    small : (s : Step) → nat_lt s.number 1000 ≡ true → s.number < 2 ^ 31
    small s h = let l = ltb-true s.number 1000 h in omega (arith, l)

    numbers : (row : Row) → list_all (λ (s : Step). nat_lt s.number 1000) row.path ≡ true → HasSmallNumbers row
    numbers row h = all-by (λ (s : Step). s.number < 2 ^ 31) (λ (s : Step). nat_lt s.number 1000) small row.path h

pub rooms-each : (table : DocumentType) (e : List ExtTerm) → is_extension e ≡ true → HasRooms table (rows_of table) (terms_for table e)
rooms-each table e h =
    let r = rising table e h in
    let few = at-most-99 table (terms_for table e) r in
    let s = both (nat_le (length (rows_of table)) 1000) _ (small-each table) in
    let rows = leb-true (length (rows_of table)) 1000 s.0 in
    let most = leb-true (greatest (rows_of table)) 1000 (both (nat_le (greatest (rows_of table)) 1000) _ s.1).0 in
    rooms table (rows_of table) (short-each table) (terms_for table e) 0 r (rows_of table) (own-each table) (omega (arith, few, rows))
    (omega (arith, few, most))
