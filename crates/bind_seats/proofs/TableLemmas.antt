-- What the rows of a table pick: each pick has the number of its row.
use Rattle.std.proofs.Common.{◌≡◌, ℕ, ◌+◌, ◌<◌, zero, suc, Bool, true, false, List, [], ◌∷◌, ◌++◌, length, Option, Some, None, refl, sym, ap, subst, ◌∙◌, cond}
use Rattle.std.proofs.Common.{inl, inr, arith}
use Rattle.std.specs.Prelude.{◌==◌, filter, option_map, is_some, slice_get}
use Rattle.std.specs.List.{All}
use Rattle.std.proofs.lemmas.Bool.{false≢true, cases_Bool, eq-eqb, ne_eqb}
use Rattle.std.proofs.lemmas.List.{append-nil}
use Rattle.std.proofs.lemmas.List.Elements.{All-nil, All-append, All-head, All-tail, All-weaker, filter-append}
use Rattle.inv_base.specs.Tree.{Node}
use Rattle.term_table.specs.declared.terms.Term.{Term}
use Rattle.term_table.specs.SemanticModel.{same_term}
use Rattle.inv_terms.specs.Values.{trimmed}
use Rattle.bind_rows.specs.declared.rows.Row.{Row}
use Rattle.bind_meaning.specs.declared.picked.Picked.{Picked}
use Rattle.bind_meaning.specs.Elements.{string_at}
use Rattle.bind_meaning.specs.Picks.{Pick, Numbered as NumberedRow, numbered, rows_where, has_term, has_any_term, term_in, all_picked, nodes_picked}
use Rattle.bind_meaning.specs.Kept.{kept, all_kept}
use Rattle.bind_meaning.specs.Currencies.{currencies, currency_of, first_string, invoice_currency, accounting_currency}
use Rattle.bind_meaning.specs.Terms.{in_order}
use Rattle.bind_seats.specs.Currency.{node_of_row, first_node, named_currency, named_currencies}
use Rattle.bind_seats.proofs.ListLemmas.{first, find-first, first-map, filter-map, filter-all, filter-none}
use Rattle.bind_seats.specs.Nodes.{Sound}
use Rattle.bind_seats.proofs.WayLemmas.{IsPlaced, picks-placed, picks-of_row}
use Rattle.bind_seats.proofs.RisingLemmas.{picks-rise}
use Rattle.bind_seats.proofs.OrderLemmas.{in_order-filter, first-in_order}

-- what those of the rows with a term pick, the first of which has the number
abbrev pub picked_from : List Node → ℕ → List Row → List Pick
picked_from nodes k rows = all_picked nodes (filter (λ (r : NumberedRow). has_any_term r.row) (numbered k rows))

abbrev own : List Node → ℕ → Row → List Pick
own nodes k row = cond (has_any_term row) (nodes_picked nodes k row) []

picked-cons : (nodes : List Node) (k : ℕ) (row : Row) (rows : List Row) → picked_from nodes k (row ∷ rows) ≡ own nodes k row ++ picked_from nodes (k + 1) rows
picked-cons nodes k row rows = elim (cases_Bool (has_any_term row)) [
  | inl e ↦ rw e refl
  | inr e ↦ rw e refl
]

-- ---- each pick is one of a row's

-- The pick is of a row of the table, which has a term.
pub record IsOfRow (k : ℕ) (rows : List Row) (p : Pick) : Type 0 where
  pub at : ℕ
  pub place : p.place ≡ k + at
  pub row : slice_get rows at ≡ Some p.row
  pub term : has_any_term p.row ≡ true

later : (k : ℕ) (row : Row) (rows : List Row) (p : Pick) → IsOfRow (k + 1) rows p → IsOfRow k (row ∷ rows) p
later k row rows p h = record { at = suc h.at; place = (let e = h.place in omega arith); row = h.row; term = h.term }

here : (k : ℕ) (row : Row) (rows : List Row) (p : Pick) → has_any_term row ≡ true → (p.place ≡ k) × (p.row ≡ row) → IsOfRow k (row ∷ rows) p
here k row rows p t h = record { at = 0; place = (let e = h.0 in omega arith); row = ap Some (sym h.1); term = ap has_any_term h.1 ∙ t }

own-of_row : (nodes : List Node) (k : ℕ) (row : Row) (rows : List Row) → All (IsOfRow k (row ∷ rows)) (own nodes k row)
own-of_row nodes k row rows = elim (cases_Bool (has_any_term row)) [
  | inl e ↦ rw e (All-weaker (λ (p : Pick). (p.place ≡ k) × (p.row ≡ row)) (IsOfRow k (row ∷ rows)) (λ p h. here k row rows p e h) (nodes_picked nodes k row)
      (picks-of_row nodes k row))
  | inr e ↦ rw e (All-nil (IsOfRow k (row ∷ rows)))
]

pub picked-of_rows : (nodes : List Node) (k : ℕ) (rows : List Row) → All (IsOfRow k rows) (picked_from nodes k rows)
picked-of_rows nodes k [] = All-nil (IsOfRow k [])
picked-of_rows nodes k (row ∷ rows) =
    rw (picked-cons nodes k row rows) (All-append (IsOfRow k (row ∷ rows)) (own nodes k row) (picked_from nodes (k + 1) rows) (own-of_row nodes k row rows)
    (All-weaker (IsOfRow (k + 1) rows) (IsOfRow k (row ∷ rows)) (λ p h. later k row rows p h) (picked_from nodes (k + 1) rows)
    (picked-of_rows nodes (k + 1) rows)))

own-placed : (nodes : List Node) → Sound nodes → (k : ℕ) (row : Row) → All (IsPlaced nodes) (own nodes k row)
own-placed nodes s k row = elim (cases_Bool (has_any_term row)) [
  | inl e ↦ rw e (picks-placed nodes s k row)
  | inr e ↦ rw e (All-nil (IsPlaced nodes))
]

pub picked-placed : (nodes : List Node) → Sound nodes → (k : ℕ) (rows : List Row) → All (IsPlaced nodes) (picked_from nodes k rows)
picked-placed nodes s k [] = All-nil (IsPlaced nodes)
picked-placed nodes s k (row ∷ rows) =
    rw (picked-cons nodes k row rows) (All-append (IsPlaced nodes) (own nodes k row) (picked_from nodes (k + 1) rows) (own-placed nodes s k row)
    (picked-placed nodes s (k + 1) rows))

-- ---- the picks of one row

abbrev is_of : ℕ → Pick → Bool
is_of k p = p.place == k

own-all : (nodes : List Node) (k : ℕ) (row : Row) → filter (is_of k) (own nodes k row) ≡ own nodes k row
own-all nodes k row = elim (cases_Bool (has_any_term row)) [
  | inl e ↦ rw e (filter-all (is_of k) (nodes_picked nodes k row)
      (All-weaker (λ (p : Pick). (p.place ≡ k) × (p.row ≡ row)) (λ p. is_of k p ≡ true) (λ p h. eq-eqb p.place k h.0) (nodes_picked nodes k row)
      (picks-of_row nodes k row)))
  | inr e ↦ rw e refl
]

own-none : (nodes : List Node) (k j : ℕ) (row : Row) → (k ≡ j → ⊥) → filter (is_of j) (own nodes k row) ≡ []
own-none nodes k j row other = elim (cases_Bool (has_any_term row)) [
  | inl e ↦ rw e (filter-none (is_of j) (nodes_picked nodes k row)
      (All-weaker (λ (p : Pick). (p.place ≡ k) × (p.row ≡ row)) (λ p. is_of j p ≡ false) (λ p h. ne_eqb p.place j (λ e. other (sym h.0 ∙ e)))
      (nodes_picked nodes k row) (picks-of_row nodes k row)))
  | inr e ↦ rw e refl
]

later-none : (nodes : List Node) (k j : ℕ) (rows : List Row) → j < k → filter (is_of j) (picked_from nodes k rows) ≡ []
later-none nodes k j rows l = filter-none (is_of j) (picked_from nodes k rows)
    (All-weaker (IsOfRow k rows) (λ p. is_of j p ≡ false) (λ p h. ne_eqb p.place j (λ e. let place = h.place in omega arith)) (picked_from nodes k rows)
    (picked-of_rows nodes k rows))

pub picked-at : (nodes : List Node) (k i : ℕ) (rows : List Row) (row : Row) → slice_get rows i ≡ Some row
    → filter (is_of (k + i)) (picked_from nodes k rows) ≡ own nodes (k + i) row
picked-at nodes k i [] row h = absurd (let bad : None ≡ Some row = h in cc)
picked-at nodes k zero (first_row ∷ rows) row h =
    let same : first_row ≡ row = cc in
    let z : k ≡ k + 0 = omega arith in
    rw (picked-cons nodes k first_row rows) (
    filter-append (is_of (k + 0)) (own nodes k first_row) (picked_from nodes (k + 1) rows)
    ∙ (ap (λ xs. filter (is_of (k + 0)) (own nodes k first_row) ++ xs) (later-none nodes (k + 1) (k + 0) rows (omega arith))
    ∙ (append-nil (filter (is_of (k + 0)) (own nodes k first_row))
    ∙ (ap (λ j. filter (is_of (k + 0)) (own nodes j first_row)) z ∙ (own-all nodes (k + 0) first_row ∙ ap (own nodes (k + 0)) same)))))
picked-at nodes k (suc i) (first_row ∷ rows) row h =
    let z : (k + 1) + i ≡ k + suc i = omega arith in
    rw (picked-cons nodes k first_row rows) (
    filter-append (is_of (k + suc i)) (own nodes k first_row) (picked_from nodes (k + 1) rows)
    ∙ (ap (λ xs. xs ++ filter (is_of (k + suc i)) (picked_from nodes (k + 1) rows)) (own-none nodes k (k + suc i) first_row (λ e. omega (arith, e)))
    ∙ subst (λ j. filter (is_of j) (picked_from nodes (k + 1) rows) ≡ own nodes j row) z (picked-at nodes (k + 1) i rows row h)))

-- ---- currencies

abbrev node_in : Option Pick → Option ℕ
node_in o = option_map (λ (p : Pick). p.node) o

node-of_row : (nodes : List Node) → Sound nodes → (rows : List Row) (i : ℕ) (row : Row) → slice_get rows i ≡ Some row → has_any_term row ≡ true
    → node_of_row (1 + i) (all_kept (in_order nodes (picked_from nodes 1 rows))) ≡ node_in (first (nodes_picked nodes (1 + i) row))
node-of_row nodes s rows i row h t =
    let k : ℕ = 1 + i in
    let ps : List Pick = in_order nodes (picked_from nodes 1 rows) in
    let mine : filter (is_of k) ps ≡ in_order nodes (nodes_picked nodes k row) =
    sym (in_order-filter nodes (is_of k) (picked_from nodes 1 rows))
    ∙ ap (in_order nodes) (picked-at nodes 1 i rows row h ∙ ap (λ b. cond b (nodes_picked nodes k row) []) t) in
    let within : All (λ (p : Pick). p.node < length nodes) (nodes_picked nodes k row) =
    All-weaker (IsPlaced nodes) (λ (p : Pick). p.node < length nodes) (λ p w. w.node) (nodes_picked nodes k row) (picks-placed nodes s k row) in
    ap (option_map (λ (q : Picked). q.node))
    (find-first (λ (q : Picked). q.row == k) (all_kept ps)
    ∙ (ap first (filter-map kept (λ (q : Picked). q.row == k) ps) ∙ first-map kept (filter (is_of k) ps)))
    ∙ (kept-node (first (filter (is_of k) ps))
    ∙ ap node_in (ap first mine ∙ first-in_order nodes (nodes_picked nodes k row) s.numbered within (picks-rise nodes s k row)))
  where
    kept-node : (o : Option Pick) → option_map (λ (q : Picked). q.node) (option_map kept o) ≡ node_in o
    kept-node None = refl
    kept-node (Some p) = refl

any-term : (term : Term) (row : Row) → has_term term row ≡ true → has_any_term row ≡ true
any-term term row h = go (term_in row.content) refl h
  where
    go : (o : Option Term) → term_in row.content ≡ o → has_term term row ≡ true → has_any_term row ≡ true
    go None e t = absurd (false≢true (sym (ap (λ x. elim x [ None ↦ false | Some y ↦ same_term y term ]) e) ∙ t))
    go (Some y) e t = ap is_some e

abbrev text_of : List Node → Option ℕ → Option (List ℕ)
text_of nodes o = option_map (λ n. trimmed (string_at nodes n)) o

first_string-append : (nodes : List Node) (ps qs : List Pick) (o : Option ℕ) → node_in (first ps) ≡ o
    → first_string nodes (ps ++ qs) ≡ elim o [ None ↦ first_string nodes qs | Some n ↦ Some (trimmed (string_at nodes n)) ]
first_string-append nodes [] qs None h = refl
first_string-append nodes [] qs (Some n) h = absurd (let bad : None ≡ Some n = h in cc)
first_string-append nodes (p ∷ ps) qs None h = absurd (let bad : Some p.node ≡ None = h in cc)
first_string-append nodes (p ∷ ps) qs (Some n) h = let same : p.node ≡ n = cc in ap (λ m. Some (trimmed (string_at nodes m))) same

abbrev first_by : Option ℕ → Option ℕ → Bool → Option ℕ
first_by found rest b = elim b [ true ↦ elim found [ None ↦ rest | Some m ↦ Some m ] | false ↦ rest ]

currency-from : (nodes : List Node) (term : Term) (qs : List Picked) (k : ℕ) (rows : List Row)
    → ((i : ℕ) (row : Row) → slice_get rows i ≡ Some row → has_any_term row ≡ true → node_of_row (k + i) qs ≡ node_in (first (nodes_picked nodes (k + i) row)))
    → text_of nodes (first_node term k rows qs) ≡ first_string nodes (all_picked nodes (filter (λ (r : NumberedRow). has_term term r.row) (numbered k rows)))
currency-from nodes term qs k [] h = refl
currency-from nodes term qs k (row ∷ rows) h =
    let rest = currency-from nodes term qs (k + 1) rows (λ i r e t. let z : k + suc i ≡ (k + 1) + i = omega arith in
    subst (λ j. node_of_row j qs ≡ node_in (first (nodes_picked nodes j r))) z (h (suc i) r e t)) in
    elim (cases_Bool (has_term term row)) [
      | inl e ↦ (
          let z : k + 0 ≡ k = omega arith in
          let mine : node_of_row k qs ≡ node_in (first (nodes_picked nodes k row)) =
          subst (λ j. node_of_row j qs ≡ node_in (first (nodes_picked nodes j row))) z (h 0 row refl (any-term term row e)) in
          ap (λ b. text_of nodes (first_by (node_of_row k qs) (first_node term (k + 1) rows qs) b)) e ∙ (go (node_of_row k qs) mine rest ∙ behind e))
      | inr e ↦ ap (λ b. text_of nodes (first_by (node_of_row k qs) (first_node term (k + 1) rows qs) b)) e ∙ (rest ∙ behind e)
    ]
  where
    behind : {b : Bool} → has_term term row ≡ b
        → first_string nodes (all_picked nodes (cond b
        (record { place = k; row = row } ∷ filter (λ (r : NumberedRow). has_term term r.row) (numbered (k + 1) rows))
        (filter (λ (r : NumberedRow). has_term term r.row) (numbered (k + 1) rows))))
        ≡ first_string nodes (all_picked nodes (filter (λ (r : NumberedRow). has_term term r.row) (numbered k (row ∷ rows))))
    behind e = ap (λ b. first_string nodes (all_picked nodes
        (cond b (record { place = k; row = row } ∷ filter (λ (r : NumberedRow). has_term term r.row) (numbered (k + 1) rows))
        (filter (λ (r : NumberedRow). has_term term r.row) (numbered (k + 1) rows))))) (sym e)

    go : (o : Option ℕ) → o ≡ node_in (first (nodes_picked nodes k row))
        → text_of nodes (first_node term (k + 1) rows qs)
        ≡ first_string nodes (all_picked nodes (filter (λ (r : NumberedRow). has_term term r.row) (numbered (k + 1) rows)))
        → text_of nodes (elim o [ None ↦ first_node term (k + 1) rows qs | Some n ↦ Some n ])
        ≡ first_string nodes (nodes_picked nodes k row ++ all_picked nodes (filter (λ (r : NumberedRow). has_term term r.row) (numbered (k + 1) rows)))
    go None e rest = rest ∙ sym (first_string-append nodes (nodes_picked nodes k row) _ None (sym e))
    go (Some n) e rest = sym (first_string-append nodes (nodes_picked nodes k row) _ (Some n) (sym e))

named-is : (nodes : List Node) → Sound nodes → (rows : List Row) (term : Term)
    → named_currency nodes rows (all_kept (in_order nodes (picked_from nodes 1 rows))) term ≡ currency_of nodes rows term
named-is nodes s rows term = currency-from nodes term (all_kept (in_order nodes (picked_from nodes 1 rows))) 1 rows
    (λ i row h t. node-of_row nodes s rows i row h t)

-- The currencies by the picks are those of the document.
pub currencies-are : (nodes : List Node) → Sound nodes → (rows : List Row)
    → named_currencies nodes rows (all_kept (in_order nodes (all_picked nodes (rows_where has_any_term rows)))) ≡ currencies nodes rows
currencies-are nodes s rows =
    λ i. record { invoice = named-is nodes s rows invoice_currency i; accounting = named-is nodes s rows accounting_currency i }

-- ---- nodes of picks are in the document

node-within : (bound k : ℕ) (qs : List Picked) (n : ℕ) → All (λ (q : Picked). q.node < bound) qs → node_of_row k qs ≡ Some n → n < bound
node-within bound k [] n h e = absurd (let bad : None ≡ Some n = e in cc)
node-within bound k (q ∷ qs) n h e = elim (cases_Bool (q.row == k)) [
  | inl f ↦ (let found : Some q.node ≡ Some n = rw f at e in let same : q.node ≡ n = cc in
      subst (λ m. m < bound) same (All-head (λ (x : Picked). x.node < bound) q qs h))
  | inr f ↦ node-within bound k qs n (All-tail (λ (x : Picked). x.node < bound) q qs h) (rw f at e)
]

pub first_node-within : (bound : ℕ) (term : Term) (k : ℕ) (rows : List Row) (qs : List Picked) (n : ℕ) → All (λ (q : Picked). q.node < bound) qs
    → first_node term k rows qs ≡ Some n → n < bound
first_node-within bound term k [] qs n h e = absurd (let bad : None ≡ Some n = e in cc)
first_node-within bound term k (row ∷ rows) qs n h e = elim (cases_Bool (has_term term row)) [
  | inl f ↦ go (node_of_row k qs) refl (first_node-within bound term (k + 1) rows qs n h)
      (sym (ap (first_by (node_of_row k qs) (first_node term (k + 1) rows qs)) f) ∙ e)
  | inr f ↦ first_node-within bound term (k + 1) rows qs n h (sym (ap (first_by (node_of_row k qs) (first_node term (k + 1) rows qs)) f) ∙ e)
]
  where
    go : (o : Option ℕ) → node_of_row k qs ≡ o → (first_node term (k + 1) rows qs ≡ Some n → n < bound)
        → (elim o [ None ↦ first_node term (k + 1) rows qs | Some m ↦ Some m ]) ≡ Some n → n < bound
    go None is rest f = rest f
    go (Some m) is rest f = node-within bound k qs n h (is ∙ f)
