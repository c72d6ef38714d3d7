-- What is marked for picks is what is picked, with the attributes that are judged with it.
use Rattle.std.proofs.Common.{◌≡◌, ℕ, suc, ◌+◌, ◌-◌, ◌<◌, Bool, true, false, ◌&&◌, ◌||◌, ◌==◌, List, [], ◌∷◌, ◌++◌, length, map, Option, Some, None}
use Rattle.std.proofs.Common.{refl, ap, sym, ◌∙◌, subst, arith}
use Rattle.std.specs.Prelude.{All, filter, codes, slice_get, nat_lt}
use Rattle.std.specs.List.{flat_map, list_any, sum_by}
use Rattle.std.specs.Str.{bytes_eq}
use Rattle.std.proofs.lemmas.Bool.Decides.{nat_tests}
use Rattle.std.proofs.lemmas.List.{length-map}
use Rattle.std.proofs.lemmas.List.Elements.{All-nil, All-cons}
use Rattle.std.proofs.lemmas.List.Sums.{sum_by-cons}
use Rattle.inv_base.specs.Tree.{Node, is_among}
use Rattle.inv_terms.specs.Values.{trimmed}
use Rattle.node_arena.specs.Document.{Document}
use Rattle.node_arena.specs.Moves.{node_of, tree_nodes}
use Rattle.bind_rows.specs.declared.rows.Row.{Row}
use Rattle.bind_meaning.specs.declared.picked.Picked.{Picked}
use Rattle.bind_meaning.specs.Currencies.{currency_id}
use Rattle.bind_meaning.specs.Elements.{attributes_named, is_blank_at, string_at}
use Rattle.bind_meaning.specs.Kept.{kept, all_kept}
use Rattle.bind_meaning.specs.Picks.{Pick, Numbered, numbered, rows_where, all_picked, nodes_picked, picks_of_way, leaves_of, last_of, ways}
use Rattle.bind_meaning.specs.Said.{is_picked, is_of_amount, is_of_added_date, is_currency, is_format}
use Rattle.bind_meaning.specs.Terms.{in_order}
use Rattle.bind_walk.proofs.LinkLemmas.{IsRead}
use Rattle.bind_walk.proofs.OrderLemmas.{IsNested, From, all-inside, in_order-counts}
use Rattle.bind_walk.proofs.SortLemmas.{Every, every-weaker, every-filter, every-map, every-flat_map}
use Rattle.bind_said.specs.Judged.{IsWithin, currency_at, format_at, judged_at, judged_in, judged_names, said_by_pick}
use Rattle.bind_said.specs.Saying.{local_number, says, named_attributes, saying_attributes}
use Rattle.bind_said.proofs.ListLemmas.{or-false, any-map, any-every, any-or, any-and, among-append, among-flat, among-filter}
use Rattle.bind_said.proofs.SayLemmas.{named-are, saying-attributes-are}

-- ---- the row of a pick

every-any : {X : Type 0} (P : X → Type 0) → ((x : X) → P x) → (xs : List X) → Every P xs
every-any P h [] = tt
every-any P h (x ∷ xs) = (h x, every-any P h xs)

module _ (all : List Row) where
  abbrev HasRow : ℕ → Row → Type 0
  HasRow place row = slice_get all (place - 1) ≡ Some row

  numbered-at : (j : ℕ) (rows : List Row) → ((i : ℕ) → slice_get all (j + i) ≡ slice_get rows i)
      → Every (λ (r : Numbered). HasRow r.place r.row) (numbered (j + 1) rows)
  numbered-at j [] h = tt
  numbered-at j (row ∷ rows) h = (
    ap (slice_get all) (let e : j + 1 - 1 ≡ j + 0 = omega arith in e) ∙ h 0,
    numbered-at (j + 1) rows (λ i. ap (slice_get all) (let e : j + 1 + i ≡ j + suc i = omega arith in e) ∙ h (suc i)),
  )

  row-picks : (nodes : List Node) (k : ℕ) (row : Row) → HasRow k row → Every (λ (p : Pick). HasRow p.place p.row) (nodes_picked nodes k row)
  row-picks nodes k row h =
      let P : Pick → Type 0 = λ p. HasRow p.place p.row in
      every-flat_map P (picks_of_way nodes k row) (ways nodes row.path 0)
      (every-any (λ way. Every P (picks_of_way nodes k row way))
      (λ way. every-map P (λ n. record { place = k; row = row; elements = way; node = n }) (leaves_of nodes row.leaf (last_of way))
      (every-any (λ n. HasRow k row) (λ n. h) (leaves_of nodes row.leaf (last_of way))))
      (ways nodes row.path 0))

  picks-rows : (nodes : List Node) (test : Row → Bool) → Every (λ (p : Pick). HasRow p.place p.row) (all_picked nodes (rows_where test all))
  picks-rows nodes test =
      let P : Pick → Type 0 = λ p. HasRow p.place p.row in
      let own : Numbered → Bool = λ r. test r.row in
      every-flat_map P (λ (r : Numbered). nodes_picked nodes r.place r.row) (rows_where test all)
      (every-weaker (λ (r : Numbered). HasRow r.place r.row × (own r ≡ true)) (λ (r : Numbered). Every P (nodes_picked nodes r.place r.row))
      (λ r h. row-picks nodes r.place r.row h.0) (rows_where test all)
      (every-filter (λ (r : Numbered). HasRow r.place r.row) own (numbered 1 all) (numbered-at 0 all (λ i. ap (slice_get all) (let e : 0 + i ≡ i = omega arith in e)))))

-- ---- in document order

abbrev one_if : Bool → ℕ
one_if true = 1
one_if false = 0

some-more : (b : Bool) (s : ℕ) → (b || nat_lt 0 s) ≡ nat_lt 0 (one_if b + s)
some-more true s = grind (arith, nat_tests)
some-more false s = ap (nat_lt 0) (let e : s ≡ 0 + s = omega arith in e)

any-sum : (u : Pick → Bool) (ps : List Pick) → list_any u ps ≡ nat_lt 0 (sum_by (λ p. one_if (u p)) ps)
any-sum u [] = refl
any-sum u (p ∷ ps) =
    ap (λ b. u p || b) (any-sum u ps)
    ∙ (some-more (u p) (sum_by (λ p. one_if (u p)) ps) ∙ ap (nat_lt 0) (sym (sum_by-cons (λ p. one_if (u p)) p ps)))

any-in_order : (u : Pick → Bool) (nodes : List Node) (ps : List Pick) → From 0 nodes → Every (λ (p : Pick). p.node < length nodes) ps
    → list_any u (in_order nodes ps) ≡ list_any u ps
any-in_order u nodes ps from inside =
    any-sum u (in_order nodes ps) ∙ (ap (nat_lt 0) (in_order-counts (λ p. one_if (u p)) nodes ps from inside) ∙ sym (any-sum u ps))

-- ---- nodes of picks

every-all : {X : Type 0} (P : X → Type 0) (xs : List X) → Every P xs → All P xs
every-all P [] h = All-nil P
every-all P (x ∷ xs) h = All-cons P x xs h.0 (every-all P xs h.1)

in_order-every : (P : Pick → Type 0) (nodes : List Node) (ps : List Pick) → Every P ps → Every P (in_order nodes ps)
in_order-every P nodes ps h = every-flat_map P (λ (node : Node). filter (λ (p : Pick). p.node == node.number) ps) nodes
    (every-any (λ (node : Node). Every P (filter (λ (p : Pick). p.node == node.number) ps))
    (λ node. every-weaker (λ p. P p × ((p.node == node.number) ≡ true)) P (λ p k. k.0) (filter (λ (p : Pick). p.node == node.number) ps)
    (every-filter P (λ (p : Pick). p.node == node.number) ps h)) nodes)

module _ (d : Document) (nested : IsNested d) (some : 0 < length d.nodes) (from : From 0 (tree_nodes d)) where
  abbrev picks_of : (Row → Bool) → List Row → List Pick
  picks_of test rows = all_picked (tree_nodes d) (rows_where test rows)

  inside : (test : Row → Bool) (rows : List Row) → Every (λ (p : Pick). p.node < length d.nodes) (picks_of test rows)
  inside test rows = all-inside d nested some (rows_where test rows)

  pub picks-within : (test : Row → Bool) (rows : List Row) → All (IsWithin d) (all_kept (in_order (tree_nodes d) (picks_of test rows)))
  picks-within test rows =
      every-all (IsWithin d) (all_kept (in_order (tree_nodes d) (picks_of test rows)))
      (every-map (IsWithin d) kept (in_order (tree_nodes d) (picks_of test rows))
      (in_order-every (λ (p : Pick). p.node < length d.nodes) (tree_nodes d) (picks_of test rows) (inside test rows)))

  -- ---- the attributes that are judged

  module _ (n : ℕ) where
    abbrev is_102 : Bool
    is_102 = bytes_eq (trimmed (string_at (tree_nodes d) n)) (codes "102")

    abbrev has_currency : Pick → Bool
    has_currency p = is_of_amount p.row && is_among n (attributes_named (tree_nodes d) currency_id p.node)

    abbrev has_format : Pick → Bool
    has_format p = is_of_added_date p.row && is_among n (attributes_named (tree_nodes d) (codes "format") p.node)

    among-if : (b : Bool) (ns : List ℕ) → is_among n (elim b as (λ _. List ℕ) [ true ↦ ns | false ↦ [] ]) ≡ (b && is_among n ns)
    among-if true ns = refl
    among-if false ns = refl

    turn-and : (a b c : Bool) → (a && (b && c)) ≡ (b && (a && c))
    turn-and true b c = refl
    turn-and false true c = refl
    turn-and false false c = refl

    says-102 : says d (codes "102") n ≡ is_102
    says-102 = or-false is_102

    judged-is : (p : Pick) → is_among n (judged_at d (judged_names d) p.row p.node) ≡ (has_currency p || (is_102 && has_format p))
    judged-is p =
        let currency = named_attributes d (local_number d currency_id) p.node in
        let format = saying_attributes d (codes "102") (local_number d (codes "format")) p.node in
        let own = attributes_named (tree_nodes d) (codes "format") p.node in
        among-append n (currency_at d (local_number d currency_id) p.row p.node) (format_at d (local_number d (codes "format")) p.row p.node)
        ∙ (ap (λ b. b || is_among n (format_at d (local_number d (codes "format")) p.row p.node))
        (among-if (is_of_amount p.row) currency ∙ ap (λ ns. is_of_amount p.row && is_among n ns) (named-are d nested.read currency_id p.node))
        ∙ ap (λ b. has_currency p || b)
        (among-if (is_of_added_date p.row) format
        ∙ (ap (λ ns. is_of_added_date p.row && is_among n ns) (saying-attributes-are d nested.read (codes "102") (codes "format") p.node)
        ∙ (ap (λ b. is_of_added_date p.row && b) (among-filter (says d (codes "102")) n own ∙ ap (λ b. b && is_among n own) says-102)
        ∙ turn-and (is_of_added_date p.row) is_102 (is_among n own)))))

    turn : (a b : ℕ) → (a == b) ≡ (b == a)
    turn a b = grind (arith, nat_tests)

    -- a pick by itself
    pick-says : (rows : List Row) (p : Pick) → HasRow rows p.place p.row
        → is_among n (said_by_pick d rows (kept p)) ≡ ((p.node == n) || (has_currency p || (is_102 && has_format p)))
    pick-says rows p h =
        ap (λ o. (n == p.node) || is_among n (judged_in d (judged_names d) o p.node)) h
        ∙ (ap (λ b. b || is_among n (judged_at d (judged_names d) p.row p.node)) (turn n p.node) ∙ ap (λ b. (p.node == n) || b) (judged-is p))

    pub picks-say : (test : Row → Bool) (rows : List Row)
        → is_among n (flat_map (said_by_pick d rows) (all_kept (in_order (tree_nodes d) (picks_of test rows))))
        ≡ (is_picked (picks_of test rows) n || (is_currency (tree_nodes d) (picks_of test rows) n || is_format (tree_nodes d) (picks_of test rows) n))
    picks-say test rows =
        let ps = picks_of test rows in
        let u : Picked → Bool = λ q. is_among n (said_by_pick d rows q) in
        let node : Pick → Bool = λ p. p.node == n in
        let long : Every (λ (p : Pick). p.node < length (tree_nodes d)) ps =
        subst (λ n. Every (λ (p : Pick). p.node < n) ps) (sym (length-map d.nodes (node_of d.names))) (inside test rows) in
        among-flat n (said_by_pick d rows) (map kept (in_order (tree_nodes d) ps))
        ∙ (any-map u kept (in_order (tree_nodes d) ps)
        ∙ (any-in_order (λ p. u (kept p)) (tree_nodes d) ps from long
        ∙ (any-every (λ p. u (kept p)) (λ p. node p || (has_currency p || (is_102 && has_format p))) ps
        (every-weaker (λ (p : Pick). HasRow rows p.place p.row)
        (λ p. u (kept p) ≡ (node p || (has_currency p || (is_102 && has_format p)))) (λ p h. pick-says rows p h) ps (picks-rows rows (tree_nodes d) test))
        ∙ (any-or node (λ p. has_currency p || (is_102 && has_format p)) ps
        ∙ ap (λ b. list_any node ps || b)
        (any-or has_currency (λ p. is_102 && has_format p) ps ∙ ap (λ b. list_any has_currency ps || b) (any-and is_102 has_format ps))))))
