-- The document of an invoice is the tree of its leaves.
use Rattle.std.proofs.Common.{◌≡◌, ℕ, suc, zero, ◌+◌, ◌≤◌, true, false, Option, None, List, [], ◌∷◌, ◌++◌, length, flat_map, max, inl, inr, refl, sym, ap, ◌∙◌}
use Rattle.std.proofs.Common.{subst, arith}
use Rattle.std.specs.Prelude.{is_some}
use Rattle.std.specs.List.{list_all}
use Rattle.std.proofs.lemmas.Bool.{false≢true}
use Rattle.term_table.specs.declared.contexts.Context.{Context}
use Rattle.term_table.specs.Contexts.{root_context}
use Rattle.inv_terms.specs.declared.entries.Entry.{Entry}
use Rattle.inv_terms.specs.Listing.{is_placed}
use Rattle.bind_rows.specs.declared.rows.Step.{Step}
use Rattle.bind_rows.specs.declared.rows.Row.{Row}
use Rattle.bind_rows.specs.declared.rows.Content.{Content}
use Rattle.bind_rows.specs.declared.rows.Content.TheVariants as contents
use Rattle.bind_table.specs.Lines.{Plan, nothing, a_line, plan_of}
use Rattle.bind_table.specs.Laid.{is_writable, is_writable_plan, are_distinct, element_numbers}
use Rattle.bind_meaning.specs.Picks.{has_any_term, term_in}
use Rattle.bind_meaning.specs.Trees.{document_of, written_lines}
use Rattle.binding_laws.proofs.TreeLemmas.{Each}
use Rattle.binding_laws.proofs.ListLemmas.{append-nil, both-true, flat_map-each}
use Rattle.address_laws.specs.AddressTrees.{Place, Leaf, where_so, tree_of, depth}
use Rattle.address_laws.specs.Addresses.{turns, ways, entry_leaves, row_leaves, constant_leaf, marks, paths_of_terms, told_leaves, leaves_of}
use Rattle.address_laws.specs.Addressed.{row_fits, constants_fit, is_addressed}
use Rattle.address_laws.proofs.Orders.{In}
use Rattle.address_laws.proofs.Items.{Item, items_from, plan_from, grown-is}
use Rattle.address_laws.proofs.Walks.{told, told_along, told_along-some, own_along, own, all_marked, all_leaves, marked}
use Rattle.address_laws.proofs.Constants.{own-told, none-of}
use Rattle.address_laws.proofs.Emitted.{constant-below}
use Rattle.address_laws.proofs.Levels.{Level}
use Rattle.address_laws.proofs.Elements.{Within, Shallow, tree-written}
use Rattle.address_laws.proofs.Ways.{term_paths, marked-is, constant-leaves}
use Rattle.address_laws.proofs.Rows.{row-told}

-- ---- rows and items

-- what is known of an item that is a row of a table
pub record IsRow (item : Item) : Type 0 where
  pub path : item.path ≡ item.cell.row.path
  pub fits : row_fits item.cell.row ≡ true

items-rows : (n : ℕ) (rows : List Row) → list_all row_fits rows ≡ true → Each IsRow (items_from n rows)
items-rows n [] h = tt
items-rows n (row ∷ rows) h =
    let k = both-true (row_fits row) (list_all row_fits rows) h in
    (record { path = refl; fits = k.0 }, items-rows (n + 1) rows k.1)

each-with_in : {A : Type 0} (P Q : A → Type 0) (xs : List A) → Each P xs → ((x : A) → In x xs → P x → Q x) → Each Q xs
each-with_in P Q [] h f = tt
each-with_in P Q (x ∷ xs) h f = (f x (inl refl) h.0, each-with_in P Q xs h.1 (λ y k. f y (inr k)))

of-rows : {A : Type 0} (f : Row → List A) (n : ℕ) (rows : List Row) → flat_map (λ (i : Item). f i.cell.row) (items_from n rows) ≡ flat_map f rows
of-rows f n [] = refl
of-rows f n (row ∷ rows) = ap (λ l. f row ++ l) (of-rows f (n + 1) rows)

paths-rows : (n : ℕ) (rows : List Row) → term_paths (items_from n rows) ≡ paths_of_terms rows
paths-rows n [] = refl
paths-rows n (row ∷ rows) = ap (λ l. where_so (has_any_term row) row.path ++ l) (paths-rows (n + 1) rows)

module _ (es : List Entry) (placed : list_all is_placed es ≡ true) where
  abbrev told-with : Row → Content → List Leaf
  told-with row (contents.Term term) = entry_leaves es row
  told-with row (contents.Constant text) = []

  constant-untold : (row : Row) (text : List ℕ) → row.content ≡ contents.Constant text → (last : Option Step) (c : Context) (path : List Step)
      → told_along es last c path row ≡ []
  constant-untold row text e last c path = none-of (told_along es last c path row)
      (told_along-some es last c path row ∙ constant-below es path row c (ap (λ x. is_some (term_in x)) e))

  one-told : (i : Item) → IsRow i → told_along es None root_context i.path i.cell.row ≡ told-with i.cell.row i.cell.row.content
  one-told i r = go i.cell.row.content refl
    where
      go : (content : Content) → i.cell.row.content ≡ content → told_along es None root_context i.path i.cell.row ≡ told-with i.cell.row i.cell.row.content
      go (contents.Term term) e =
          ap (λ p. told_along es None root_context p i.cell.row) r.path ∙ (row-told es placed i.cell.row term e r.fits ∙ sym (ap (told-with i.cell.row) e))
      go (contents.Constant text) e = constant-untold i.cell.row text e None root_context i.path ∙ sym (ap (told-with i.cell.row) e)

  told-rows : (n : ℕ) (rows : List Row) → list_all row_fits rows ≡ true → told es None root_context (items_from n rows) ≡ told_leaves rows es
  told-rows n rows h =
      flat_map-each (λ (i : Item). told_along es None root_context i.path i.cell.row) (λ (i : Item). told-with i.cell.row i.cell.row.content)
      (items_from n rows)
      (each-with_in IsRow (λ i. told_along es None root_context i.path i.cell.row ≡ told-with i.cell.row i.cell.row.content) (items_from n rows)
      (items-rows n rows h) (λ i k r. one-told i r))
      ∙ of-rows (λ row. told-with row row.content) n rows

  module _ (rows : List Row) (fit : list_all row_fits rows ≡ true) (distinct : are_distinct (element_numbers (plan_from (items_from 0 rows))) ≡ true) where
    abbrev items : List Item
    items = items_from 0 rows

    abbrev row-with : Row → Content → List Leaf
    row-with row (contents.Term term) = entry_leaves es row
    row-with row (contents.Constant text) = flat_map (constant_leaf (paths_of_terms rows) (told_leaves rows es) row text)
        (ways (turns es) None root_context row.path)

    one-row : (i : Item) → In i items → IsRow i → own_along es items false false None root_context i.path i.cell.row ≡ row-with i.cell.row i.cell.row.content
    one-row i k r = go i.cell.row.content refl
      where
        go : (content : Content) → i.cell.row.content ≡ content →
            own_along es items false false None root_context i.path i.cell.row ≡ row-with i.cell.row i.cell.row.content
        go (contents.Term term) e =
            own-told es items false false None root_context i.path i.cell.row (ap (λ x. is_some (term_in x)) e)
            ∙ (ap (λ p. told_along es None root_context p i.cell.row) r.path ∙ (row-told es placed i.cell.row term e r.fits ∙ sym (ap (row-with i.cell.row) e)))
        go (contents.Constant text) e =
            constant-leaves es i.cell.row text e items None root_context i.path i.cell distinct k
            ∙ (ap (λ p. flat_map (constant_leaf (term_paths items) (told es None root_context items) i.cell.row text) (ways (turns es) None root_context p))
            r.path
            ∙ (ap (λ x. flat_map (constant_leaf x (told es None root_context items) i.cell.row text) (ways (turns es) None root_context i.cell.row.path))
            (paths-rows 0 rows)
            ∙ (ap (λ x. flat_map (constant_leaf (paths_of_terms rows) x i.cell.row text) (ways (turns es) None root_context i.cell.row.path))
            (told-rows 0 rows fit) ∙ sym (ap (row-with i.cell.row) e))))

    own-rows : own es items false false None root_context ≡ flat_map (row_leaves es (paths_of_terms rows) (told_leaves rows es)) rows
    own-rows =
        flat_map-each (λ (i : Item). own_along es items false false None root_context i.path i.cell.row)
        (λ (i : Item). row-with i.cell.row i.cell.row.content) items
        (each-with_in IsRow (λ i. own_along es items false false None root_context i.path i.cell.row ≡ row-with i.cell.row i.cell.row.content) items
        (items-rows 0 rows fit) one-row)
        ∙ of-rows (λ row. row-with row row.content) 0 rows

    marks-rows : all_marked es items None root_context ≡ flat_map (λ (row : Row). marks es root_context row.path) rows
    marks-rows =
        flat_map-each (λ (i : Item). marked es None root_context i.path) (λ (i : Item). marks es root_context i.cell.row.path) items
        (each-with_in IsRow (λ i. marked es None root_context i.path ≡ marks es root_context i.cell.row.path) items (items-rows 0 rows fit)
        (λ i k r. marked-is es None root_context i.path ∙ ap (marks es root_context) r.path))
        ∙ of-rows (λ row. marks es root_context row.path) 0 rows

    pub all-rows : all_leaves es items false false None root_context ≡ leaves_of rows es
    all-rows =
        ap (λ l. l ++ all_marked es items None root_context) own-rows
        ∙ ap (λ l. flat_map (row_leaves es (paths_of_terms rows) (told_leaves rows es)) rows ++ l) marks-rows

-- ---- as deep as the leaves

within-length : (m : ℕ) (address : List Place) → length address ≤ m → Within m address
within-length m [] h = tt
within-length zero (p ∷ ps) h = too-long (length ps) h
  where
    too-long : (n : ℕ) → suc n ≤ 0 → ⊥
    too-long n k = omega (arith, k)
within-length (suc m) (p ∷ ps) h = within-length m ps (shorter (length ps) m h)
  where
    shorter : (n m : ℕ) → suc n ≤ suc m → n ≤ m
    shorter n m k = omega (arith, k)

max-first : (a b m : ℕ) → max a b ≤ m → a ≤ m
max-first a b m h = omega (arith, h)

max-second : (a b m : ℕ) → max a b ≤ m → b ≤ m
max-second a b m h = omega (arith, h)

shallow-depth : (m : ℕ) (ls : List Leaf) → depth ls ≤ m → Shallow m ls
shallow-depth m [] h = tt
shallow-depth m (leaf ∷ ls) h =
    (within-length m leaf.address (max-first (length leaf.address) (depth ls) m h), shallow-depth m ls (max-second (length leaf.address) (depth ls) m h))

at-most-itself : (n : ℕ) → n ≤ n
at-most-itself n = omega arith

-- ---- documents

laid-distinct : (plan : Plan) → is_writable_plan plan ≡ true → are_distinct (element_numbers plan) ≡ true
laid-distinct nothing h = absurd (false≢true h)
laid-distinct (a_line s cells inside (a_line t others within rest)) h = absurd (false≢true h)
laid-distinct (a_line s cells inside nothing) h =
    ap (λ l. are_distinct (s.number ∷ l)) (append-nil (element_numbers inside)) ∙ (both-true (are_distinct (s.number ∷ element_numbers inside)) _ h).0

top-level : (es : List Entry) (plan : Plan) → constants_fit true false plan ≡ true → Level es true false false plan root_context
top-level es plan h = record {
  fits = h;
  outside = λ e. refl;
  above = λ e k. absurd (false≢true (sym e));
  alone = λ e k q. absurd (false≢true q);
}

pub document-tree : (rows : List Row) (es : List Entry) → list_all is_placed es ≡ true → is_writable rows ≡ true → is_addressed rows ≡ true →
    document_of rows es ≡ tree_of (leaves_of rows es)
unfolding document_of
document-tree rows es placed laid addressed =
    let tests = both-true (list_all row_fits rows) (constants_fit true false (plan_of rows)) addressed in
    let plan-is : plan_of rows ≡ plan_from (items_from 0 rows) = grown-is nothing 0 rows in
    let distinct : are_distinct (element_numbers (plan_from (items_from 0 rows))) ≡ true =
    subst (λ (p : Plan). are_distinct (element_numbers p) ≡ true) plan-is (laid-distinct (plan_of rows) laid) in
    let fits : constants_fit true false (plan_from (items_from 0 rows)) ≡ true = subst (λ (p : Plan). constants_fit true false p ≡ true) plan-is tests.1 in
    let whole : List Leaf = all_leaves es (items_from 0 rows) false false None root_context in
    ap (λ (p : Plan). written_lines es p false root_context) plan-is
    ∙ (sym (tree-written (depth whole) es (items_from 0 rows) true false false false None root_context distinct
    (top-level es (plan_from (items_from 0 rows)) fits)
    (shallow-depth (depth whole) whole (at-most-itself (depth whole))))
    ∙ ap tree_of (all-rows es placed rows tests.0 distinct))
