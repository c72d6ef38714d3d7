-- Picks in document order: what stands there, how often, and in which order.
use Rattle.std.proofs.Common.{◌≡◌, ℕ, ◌+◌, ◌<◌, ◌≤◌, Bool, true, false, cond, ◌==◌, List, [], ◌∷◌, ◌++◌, length, map, Option, Some, None, refl, ap, sym, ◌∙◌}
use Rattle.std.proofs.Common.{subst, arith, append_assoc, inl, inr, Ordering}
use Rattle.std.specs.Prelude.{filter, reverse, not}
use Rattle.std.specs.List.{sum_by}
use Rattle.std.specs.Cmp.{IsTotalOrder}
use Rattle.std.specs.Option.{option_cmp}
use Rattle.std.specs.Cmp.Lexicographic.{options_total}
use Rattle.std.specs.Ordering.{is_lt, nat_cmp, on, then_cmp, ordering_then}
use Rattle.std.specs.declared.cmp.Ordering.TheVariants.{Less, Equal, Greater}
use Rattle.std.proofs.lemmas.Bool.{eqb-true, eq-eqb, ne_eqb, cases_eq, and_parts}
use Rattle.std.proofs.lemmas.Cmp.{nat_cmp_total, on_total, then_total, tied_itself, ranked, by_ranked}
use Rattle.std.proofs.lemmas.List.{append_cancel_right, reverse-reverse, reverse-append}
use Rattle.std.proofs.lemmas.List.Sums.{sum_by-cons, sum_by-append}
use Rattle.inv_base.specs.Tree.{Node}
use Rattle.node_arena.specs.Document.{Document}
use Rattle.node_arena.specs.Moves.{tree_nodes, tree_node, nearest, is_nearest, is_child, is_attribute_of, is_attribute, parent}
use Rattle.bind_rows.specs.declared.names.Leaf.{Leaf}
use Rattle.bind_rows.specs.declared.names.Leaf.TheVariants as leaves
use Rattle.bind_rows.specs.declared.rows.Step.{Step}
use Rattle.bind_rows.specs.declared.rows.Row.{Row}
use Rattle.bind_meaning.specs.declared.picked.Picked.{Picked}
use Rattle.bind_meaning.specs.Names.{has_element_name, has_plain_name}
use Rattle.bind_meaning.specs.Elements.{number, both, children_named, attributes_named, is_blank_at, are_met, met}
use Rattle.bind_meaning.specs.Picks.{Pick, ways, last_of, filled, leaves_of, picks_of_way, nodes_picked, Numbered, numbered, all_picked}
use Rattle.bind_meaning.specs.Kept.{kept}
use Rattle.bind_meaning.specs.Terms.{in_order, turned}
use Rattle.bind_walk.specs.Sorting.{order}
use Rattle.bind_walk.proofs.SortLemmas.{Every, Up, every-weaker, every-append, every-filter, every-map, every-flat_map, up-any, up-append, up-filter}
use Rattle.bind_walk.proofs.SortLemmas.{up-flat_map, up-weaker}
use Rattle.bind_walk.proofs.LinkLemmas.{IsRead, IsMember, members}

-- ---- the order of picks

same-nat : (a b : ℕ) → nat_cmp a b ≡ Equal → a ≡ b
same-nat a b e = by_ranked (a < b) (a ≡ b) (b < a) (nat_cmp a b) (ranked a b (nat_cmp a b) refl) (λ f h. cc) (λ f h. h) (λ f h. cc)

same-option : (a b : Option ℕ) → option_cmp nat_cmp a b ≡ Equal → a ≡ b
same-option None None e = refl
same-option None (Some b) e = cc
same-option (Some a) None e = cc
same-option (Some a) (Some b) e = ap Some (same-nat a b e)

both-equal : (a b : Ordering) → ordering_then a b ≡ Equal → (a ≡ Equal) × (b ≡ Equal)
both-equal Less b e = cc
both-equal Equal b e = (refl, e)
both-equal Greater b e = cc

pub order-exact : (x y : Picked) → order x y ≡ Equal → x ≡ y
order-exact x y e =
    let one = both-equal (nat_cmp x.node y.node) _ e in
    let two = both-equal (nat_cmp x.row y.row) _ one.1 in
    let three = both-equal (option_cmp nat_cmp x.outer y.outer) (option_cmp nat_cmp x.inner y.inner) two.1 in
    let make : ℕ → ℕ → Option ℕ → Option ℕ → Picked = λ n r o i. record { node = n; row = r; outer = o; inner = i } in
    ap (λ n. make n x.row x.outer x.inner) (same-nat x.node y.node one.0)
    ∙ (ap (λ r. make y.node r x.outer x.inner) (same-nat x.row y.row two.0)
    ∙ (ap (λ o. make y.node y.row o x.inner) (same-option x.outer y.outer three.0) ∙ ap (make y.node y.row y.outer) (same-option x.inner y.inner three.1)))

pub order-total : IsTotalOrder order
order-total = then_total (on_total (λ (p : Picked). p.node) nat_cmp_total) (then_total (on_total (λ (p : Picked). p.row) nat_cmp_total)
    (then_total (on_total (λ (p : Picked). p.outer) (options_total nat_cmp_total)) (on_total (λ (p : Picked). p.inner) (options_total nat_cmp_total))))

-- a pick isn't above another
abbrev pub NotAbove : Picked → Picked → Type 0
NotAbove a b = is_lt (order b a) ≡ false

greater : (a b : ℕ) → a < b → nat_cmp b a ≡ Greater
greater a b h = by_ranked (b < a) (b ≡ a) (a < b) (nat_cmp b a) (ranked b a (nat_cmp b a) refl) (λ f k. absurd (omega (arith, k, h)))
    (λ f k. absurd (omega (arith, k, h))) (λ f k. f)

equal : (a b : ℕ) → a ≡ b → nat_cmp b a ≡ Equal
equal a b h = ap (nat_cmp b) h ∙ tied_itself nat_cmp_total b

before-node : (a b : Picked) → a.node < b.node → NotAbove a b
before-node a b h = ap (λ o. is_lt (ordering_then o
    (then_cmp (on (λ (p : Picked). p.row) nat_cmp)
    (then_cmp (on (λ (p : Picked). p.outer) (option_cmp nat_cmp)) (on (λ (p : Picked). p.inner) (option_cmp nat_cmp))) b a))) (greater a.node b.node h)

before-row : (a b : Picked) → a.node ≡ b.node → a.row < b.row → NotAbove a b
before-row a b h k =
    ap (λ o. is_lt (ordering_then o (then_cmp (on (λ (p : Picked). p.row) nat_cmp)
    (then_cmp (on (λ (p : Picked). p.outer) (option_cmp nat_cmp)) (on (λ (p : Picked). p.inner) (option_cmp nat_cmp))) b a))) (equal a.node b.node h)
    ∙ ap (λ o. is_lt (ordering_then o (then_cmp (on (λ (p : Picked). p.outer) (option_cmp nat_cmp)) (on (λ (p : Picked). p.inner) (option_cmp nat_cmp)) b a)))
    (greater a.row b.row k)

-- ---- ways and the ancestors of their ends

turned-is : (done ns : List ℕ) → turned done ns ≡ reverse ns ++ done
turned-is done [] = refl
turned-is done (n ∷ ns) = turned-is (n ∷ done) ns ∙ (sym (append_assoc (reverse ns) (n ∷ []) done) ∙ ap (λ r. r ++ done) (sym (reverse-append (n ∷ []) ns)))

pub turned-same : (done ns ms : List ℕ) → turned done ns ≡ turned done ms → ns ≡ ms
turned-same done ns ms e =
    let r : reverse ns ≡ reverse ms = append_cancel_right (reverse ns) (reverse ms) done (sym (turned-is done ns) ∙ (e ∙ turned-is done ms)) in
    sym (reverse-reverse ns) ∙ (ap reverse r ∙ reverse-reverse ms)

nearest-is : (n : ℕ) (above : List ℕ) → is_nearest n above ≡ true → nearest above ≡ Some n
nearest-is n [] h = cc
nearest-is n (m ∷ above) h = ap Some (eqb-true m n h)

both-true : (a b : Node → Bool) (node : Node) → both a b node ≡ true → (a node ≡ true) × (b node ≡ true)
both-true a b node e = at (a node) refl e
  where
    at : (c : Bool) → a node ≡ c → (elim c as (λ _. Bool) [ true ↦ b node | false ↦ false ]) ≡ true → (a node ≡ true) × (b node ≡ true)
    at true f e = (f, e)
    at false f e = cc

-- What holds of a document beside: around each node stands its parent and what is around that.
pub record IsNested (d : Document) : Type 0 where
  pub read : IsRead d
  pub around : (n p : ℕ) → n < length d.nodes → parent (tree_nodes d) n ≡ Some p → (tree_node (tree_nodes d) n).above ≡ p ∷ (tree_node (tree_nodes d) p).above

module _ (d : Document) (nested : IsNested d) where
  abbrev pub path_of : ℕ → List ℕ
  path_of n = n ∷ (tree_node (tree_nodes d) n).above

  -- a node right inside another
  pub record IsIn (n m : ℕ) : Type 0 where
    pub within : m < length d.nodes
    pub above : (tree_node (tree_nodes d) m).above ≡ path_of n

  near : (n : ℕ) (node : Node) → IsMember d node → is_nearest n node.above ≡ true → IsIn n node.number
  near n node m h = record {
    within = m.within;
    above = nested.around node.number n m.within (ap (λ (x : Node). nearest x.above) m.itself ∙ nearest-is n node.above h);
  }

  -- nodes of a sort that stand right inside one
  inside : (n : ℕ) (sort has : Node → Bool) → ((node : Node) → sort node ≡ true → is_nearest n node.above ≡ true)
      → Every (IsIn n) (map number (filter (both sort has) (tree_nodes d)))
  inside n sort has f = every-map (IsIn n) number (filter (both sort has) (tree_nodes d))
      (every-weaker (λ node. IsMember d node × (both sort has node ≡ true)) (λ (node : Node). IsIn n node.number)
      (λ node h. near n node h.0 (f node (both-true sort has node h.1).0)) (filter (both sort has) (tree_nodes d))
      (every-filter (IsMember d) (both sort has) (tree_nodes d) (members d nested.read)))

  kids : (name : _) (n : ℕ) → Every (IsIn n) (children_named (tree_nodes d) name n)
  kids name n = inside n (is_child n) (has_element_name name) (λ node h. (and_parts (is_nearest n node.above) (not (is_attribute node)) h).0)

  attributes : (local : List ℕ) (n : ℕ) → Every (IsIn n) (attributes_named (tree_nodes d) local n)
  attributes local n = inside n (is_attribute_of n) (has_plain_name local) (λ node h. (and_parts (is_nearest n node.above) (is_attribute node) h).0)

  met-in : (s : Step) (n : ℕ) → Every (IsIn n) (met (tree_nodes d) s n)
  met-in s n = every-weaker (λ m. IsIn n m × (are_met (tree_nodes d) s.guards m ≡ true)) (IsIn n) (λ m h. h.0) (met (tree_nodes d) s n)
      (every-filter (IsIn n) (are_met (tree_nodes d) s.guards) (children_named (tree_nodes d) s.name n) (kids s.name n))

  -- a way ends at a node whose ancestors it is
  pub record IsTrail (x : ℕ) (way : List ℕ) : Type 0 where
    pub within : last_of (x ∷ way) < length d.nodes
    pub trail : path_of (last_of (x ∷ way)) ≡ turned (path_of x) way

  trails : (path : List Step) (x : ℕ) → x < length d.nodes → Every (IsTrail x) (ways (tree_nodes d) path x)
  trails [] x within = (record { within = within; trail = refl }, tt)
  trails (s ∷ path) x within = every-flat_map (IsTrail x) (λ m. map (λ way. m ∷ way) (ways (tree_nodes d) path m)) (met (tree_nodes d) s x)
      (every-weaker (IsIn x) (λ m. Every (IsTrail x) (map (λ way. m ∷ way) (ways (tree_nodes d) path m))) (λ m h. one m h (trails path m h.within))
      (met (tree_nodes d) s x) (met-in s x))
    where
      one : (m : ℕ) → IsIn x m → Every (IsTrail m) (ways (tree_nodes d) path m) → Every (IsTrail x) (map (λ way. m ∷ way) (ways (tree_nodes d) path m))
      one m h ts = every-map (IsTrail x) (λ way. m ∷ way) (ways (tree_nodes d) path m)
          (every-weaker (IsTrail m) (λ way. IsTrail x (m ∷ way)) (λ way t. record { within = t.within; trail = t.trail ∙ ap (λ a. turned (m ∷ a) way) h.above })
          (ways (tree_nodes d) path m) ts)

  -- ---- picks of a row

  abbrev trail_of : Leaf → ℕ → List ℕ
  trail_of leaves.Element n = path_of n
  trail_of (leaves.Attribute local) n = (tree_node (tree_nodes d) n).above

  pub record IsPick (k : ℕ) (row : Row) (p : Pick) : Type 0 where
    pub place : p.place ≡ k
    pub row_is : p.row ≡ row
    pub within : p.node < length d.nodes
    pub trail : trail_of row.leaf p.node ≡ turned (path_of 0) p.elements

  last-zero : (way : List ℕ) → last_of (0 ∷ way) ≡ last_of way
  last-zero [] = refl
  last-zero (n ∷ way) = refl

  -- a node that a leaf has at an element
  record IsLeaf (leaf : Leaf) (n m : ℕ) : Type 0 where
    within : m < length d.nodes
    trail : trail_of leaf m ≡ path_of n

  filled-every : (P : ℕ → Type 0) (ns : List ℕ) → Every P ns → Every P (filled (tree_nodes d) ns)
  filled-every P ns h = every-weaker (λ m. P m × (not (is_blank_at (tree_nodes d) m) ≡ true)) P (λ m k. k.0) (filled (tree_nodes d) ns)
      (every-filter P (λ m. not (is_blank_at (tree_nodes d) m)) ns h)

  leaf-every : (leaf : Leaf) (n : ℕ) → n < length d.nodes → Every (IsLeaf leaf n) (leaves_of (tree_nodes d) leaf n)
  leaf-every leaves.Element n within = filled-every (IsLeaf leaves.Element n) (n ∷ []) (record { within = within; trail = refl }, tt)
  leaf-every (leaves.Attribute local) n within =
      every-flat_map (IsLeaf (leaves.Attribute local) n) (λ m. filled (tree_nodes d) (attributes_named (tree_nodes d) local m)) (filled (tree_nodes d) (n ∷ []))
      (every-weaker (λ m. m ≡ n) (λ m. Every (IsLeaf (leaves.Attribute local) n) (filled (tree_nodes d) (attributes_named (tree_nodes d) local m)))
      (λ m e. one m e)
      (filled (tree_nodes d) (n ∷ [])) (filled-every (λ m. m ≡ n) (n ∷ []) (refl, tt)))
    where
      one : (m : ℕ) → m ≡ n → Every (IsLeaf (leaves.Attribute local) n) (filled (tree_nodes d) (attributes_named (tree_nodes d) local m))
      one m e = filled-every (IsLeaf (leaves.Attribute local) n) (attributes_named (tree_nodes d) local m)
          (every-weaker (IsIn m) (IsLeaf (leaves.Attribute local) n) (λ a h. record { within = h.within; trail = h.above ∙ ap path_of e })
          (attributes_named (tree_nodes d) local m) (attributes local m))

  way-picks : (k : ℕ) (row : Row) (way : List ℕ) → IsTrail 0 way → Every (IsPick k row) (picks_of_way (tree_nodes d) k row way)
  way-picks k row way t =
      let last : last_of way ≡ last_of (0 ∷ way) = sym (last-zero way) in
      every-map (IsPick k row) (λ n. record { place = k; row = row; elements = way; node = n }) (leaves_of (tree_nodes d) row.leaf (last_of way))
      (every-weaker (IsLeaf row.leaf (last_of way)) (λ n. IsPick k row (record { place = k; row = row; elements = way; node = n }))
      (λ n l. record { place = refl; row_is = refl; within = l.within; trail = l.trail ∙ (ap path_of last ∙ t.trail) })
      (leaves_of (tree_nodes d) row.leaf (last_of way)) (leaf-every row.leaf (last_of way) (omega (arith, t.within, last))))

  pub row-picks-are : (k : ℕ) (row : Row) → 0 < length d.nodes → Every (IsPick k row) (nodes_picked (tree_nodes d) k row)
  row-picks-are k row some = every-flat_map (IsPick k row) (picks_of_way (tree_nodes d) k row) (ways (tree_nodes d) row.path 0)
      (every-weaker (IsTrail 0) (λ way. Every (IsPick k row) (picks_of_way (tree_nodes d) k row way)) (λ way t. way-picks k row way t)
      (ways (tree_nodes d) row.path 0) (trails row.path 0 some))

  -- two picks of a row at one node are kept alike
  abbrev keep : ℕ → Row → List ℕ → ℕ → Picked
  keep k row way n = kept (record { place = k; row = row; elements = way; node = n })

  pub same-picks : (k : ℕ) (row : Row) (p q : Pick) → IsPick k row p → IsPick k row q → p.node ≡ q.node → kept p ≡ kept q
  same-picks k row p q a b e =
      let way : p.elements ≡ q.elements = turned-same (path_of 0) p.elements q.elements (sym a.trail ∙ (ap (trail_of row.leaf) e ∙ b.trail)) in
      ap (λ n. keep p.place p.row p.elements n) e
      ∙ (ap (λ w. keep p.place p.row w q.node) way
      ∙ (ap (λ r. keep p.place r q.elements q.node) (a.row_is ∙ sym b.row_is) ∙ ap (λ j. keep j q.row q.elements q.node) (a.place ∙ sym b.place)))

  -- ---- picks of all rows

  -- At one node the first isn't above the second.
  abbrev Before : Pick → Pick → Type 0
  Before p q = p.node ≡ q.node → NotAbove (kept p) (kept q)

  itself : (a b : Picked) → a ≡ b → NotAbove a b
  itself a b e = subst (NotAbove a) e (ap is_lt (tied_itself order-total a))

  pub all-before : 0 < length d.nodes → (rows : List Numbered) → Up (λ (r s : Numbered). r.place < s.place) rows → Up Before (all_picked (tree_nodes d) rows)
  all-before some rows up = up-flat_map Before (λ (r s : Numbered). r.place < s.place) (λ (r : Numbered). nodes_picked (tree_nodes d) r.place r.row)
      (λ r. up-any (IsPick r.place r.row) Before (λ p q a b e. itself (kept p) (kept q) (same-picks r.place r.row p q a b e))
      (nodes_picked (tree_nodes d) r.place r.row) (row-picks-are r.place r.row some))
      (λ r s less. every-weaker (IsPick r.place r.row) (λ p. Every (Before p) (nodes_picked (tree_nodes d) s.place s.row))
      (λ p a. every-weaker (IsPick s.place s.row) (Before p) (λ q b e. before-row (kept p) (kept q) e (omega (arith, a.place, b.place, less)))
      (nodes_picked (tree_nodes d) s.place s.row) (row-picks-are s.place s.row some))
      (nodes_picked (tree_nodes d) r.place r.row) (row-picks-are r.place r.row some))
      rows up

  pub all-inside : 0 < length d.nodes → (rows : List Numbered) → Every (λ (p : Pick). p.node < length d.nodes) (all_picked (tree_nodes d) rows)
  all-inside some [] = tt
  all-inside some (r ∷ rows) = every-append (λ (p : Pick). p.node < length d.nodes) (nodes_picked (tree_nodes d) r.place r.row) (all_picked (tree_nodes d) rows)
      (every-weaker (IsPick r.place r.row) (λ (p : Pick). p.node < length d.nodes) (λ p a. a.within) (nodes_picked (tree_nodes d) r.place r.row)
      (row-picks-are r.place r.row some)) (all-inside some rows)

-- ---- rows by their numbers

later : (n k : ℕ) (rows : List Row) → n < k → Every (λ (s : Numbered). n < s.place) (numbered k rows)
later n k [] h = tt
later n k (row ∷ rows) h = (h, later n (k + 1) rows (omega (arith, h)))

numbered-up : (k : ℕ) (rows : List Row) → Up (λ (r s : Numbered). r.place < s.place) (numbered k rows)
numbered-up k [] = tt
numbered-up k (row ∷ rows) = (later k (k + 1) rows (omega arith), numbered-up (k + 1) rows)

pub rows-up : (test : Numbered → Bool) (k : ℕ) (rows : List Row) → Up (λ (r s : Numbered). r.place < s.place) (filter test (numbered k rows))
rows-up test k rows = up-filter (λ (r s : Numbered). r.place < s.place) test (numbered k rows) (numbered-up k rows)

-- ---- in document order

-- The nodes have the numbers of their places, the first this one.
abbrev pub From : ℕ → List Node → Type 0
From n [] = Unit {0}
From n (node ∷ nodes) = (node.number ≡ n) × From (n + 1) nodes

abbrev at_node : Node → Pick → Bool
at_node node pick = pick.node == node.number

module _ (L : Picked → Picked → Type 0) where
  here-every : (node : Node) (picks : List Pick) → Every (λ (p : Pick). p.node ≡ node.number) (filter (at_node node) picks)
  here-every node [] = tt
  here-every node (p ∷ picks) = at (p.node == node.number) refl (here-every node picks)
    where
      at : (b : Bool) → (p.node == node.number) ≡ b → Every (λ (q : Pick). q.node ≡ node.number) (filter (at_node node) picks)
          → Every (λ (q : Pick). q.node ≡ node.number) (cond b (p ∷ filter (at_node node) picks) (filter (at_node node) picks))
      at true e h = (eqb-true p.node node.number e, h)
      at false e h = h

behind-every : (n : ℕ) (nodes : List Node) (picks : List Pick) → From n nodes → Every (λ (p : Pick). n ≤ p.node) (in_order nodes picks)
behind-every n [] picks f = tt
behind-every n (node ∷ nodes) picks f = every-append (λ (p : Pick). n ≤ p.node) (filter (at_node node) picks) (in_order nodes picks)
    (every-weaker (λ (p : Pick). p.node ≡ node.number) (λ (p : Pick). n ≤ p.node) (λ p e. omega (arith, e, f.0)) (filter (at_node node) picks)
    (here-every NotAbove node picks))
    (every-weaker (λ (p : Pick). n + 1 ≤ p.node) (λ (p : Pick). n ≤ p.node) (λ p h. omega (arith, h)) (in_order nodes picks)
    (behind-every (n + 1) nodes picks f.1))

pub in_order-up : (n : ℕ) (nodes : List Node) (picks : List Pick) → From n nodes → Up (λ (p q : Pick). p.node ≡ q.node → NotAbove (kept p) (kept q)) picks
    → Up (λ (p q : Pick). NotAbove (kept p) (kept q)) (in_order nodes picks)
in_order-up n [] picks f up = tt
in_order-up n (node ∷ nodes) picks f up =
    up-append (λ (p q : Pick). NotAbove (kept p) (kept q)) (filter (at_node node) picks) (in_order nodes picks)
    (up-weaker (λ (p : Pick). p.node ≡ node.number) (λ (p q : Pick). p.node ≡ q.node → NotAbove (kept p) (kept q)) (λ (p q : Pick). NotAbove (kept p) (kept q))
    (λ p q a b h. h (a ∙ sym b))
    (filter (at_node node) picks) (here-every NotAbove node picks)
    (up-filter (λ (p q : Pick). p.node ≡ q.node → NotAbove (kept p) (kept q)) (at_node node) picks up))
    (in_order-up (n + 1) nodes picks f.1 up)
    (every-weaker (λ (p : Pick). p.node ≡ node.number) (λ p. Every (λ q. NotAbove (kept p) (kept q)) (in_order nodes picks))
    (λ p e. every-weaker (λ (q : Pick). n + 1 ≤ q.node) (λ q. NotAbove (kept p) (kept q)) (λ q h. before-node (kept p) (kept q) (omega (arith, e, f.0, h)))
    (in_order nodes picks) (behind-every (n + 1) nodes picks f.1))
    (filter (at_node node) picks) (here-every NotAbove node picks))

-- each pick stands there once
none-there : (f : Pick → ℕ) (nodes : List Node) → sum_by f (in_order nodes []) ≡ 0
none-there f [] = refl
none-there f (node ∷ nodes) = none-there f nodes

module _ (f : Pick → ℕ) (p : Pick) (picks : List Pick) where
  passed : (n : ℕ) (nodes : List Node) → From n nodes → p.node < n → sum_by f (in_order nodes (p ∷ picks)) ≡ sum_by f (in_order nodes picks)
  passed n [] from h = refl
  passed n (node ∷ nodes) from h =
      sum_by-append f (filter (at_node node) (p ∷ picks)) (in_order nodes (p ∷ picks))
      ∙ (ap (λ b. sum_by f (cond b (p ∷ filter (at_node node) picks) (filter (at_node node) picks)) + sum_by f (in_order nodes (p ∷ picks)))
      (ne_eqb p.node node.number (λ e. omega (arith, e, from.0, h)))
      ∙ (ap (λ k. sum_by f (filter (at_node node) picks) + k) (passed (n + 1) nodes from.1 (omega (arith, h)))
      ∙ sym (sum_by-append f (filter (at_node node) picks) (in_order nodes picks))))

  stands : (n : ℕ) (nodes : List Node) → From n nodes → n ≤ p.node → p.node < n + length nodes
      → sum_by f (in_order nodes (p ∷ picks)) ≡ f p + sum_by f (in_order nodes picks)
  stands n [] from low high = absurd (omega (arith, low, high))
  stands n (node ∷ nodes) from low high = elim (cases_eq p.node n) [
    | inl e ↦
        let hit : (p.node == node.number) ≡ true = eq-eqb p.node node.number (e ∙ sym from.0) in
        let own = filter (at_node node) picks in
        let a : sum_by f (p ∷ own) ≡ f p + sum_by f own = sum_by-cons f p own in
        let b : sum_by f (in_order nodes (p ∷ picks)) ≡ sum_by f (in_order nodes picks) = passed (n + 1) nodes from.1 (omega (arith, e)) in
        let c : sum_by f (own ++ in_order nodes picks) ≡ sum_by f own + sum_by f (in_order nodes picks) = sum_by-append f own (in_order nodes picks) in
        sum_by-append f (filter (at_node node) (p ∷ picks)) (in_order nodes (p ∷ picks))
        ∙ (ap (λ t. sum_by f (cond t (p ∷ own) own) + sum_by f (in_order nodes (p ∷ picks))) hit
        ∙ (let r : sum_by f (p ∷ own) + sum_by f (in_order nodes (p ∷ picks)) ≡ f p + sum_by f (own ++ in_order nodes picks) = omega (arith, a, b, c) in r))
    | inr ne ↦
        let miss : (p.node == node.number) ≡ false = ne_eqb p.node node.number (λ e. ne (e ∙ from.0)) in
        let own = filter (at_node node) picks in
        let b : sum_by f (in_order nodes (p ∷ picks)) ≡ f p + sum_by f (in_order nodes picks) =
        stands (n + 1) nodes from.1 (omega (arith, low, ne)) (omega (arith, high)) in
        let c : sum_by f (own ++ in_order nodes picks) ≡ sum_by f own + sum_by f (in_order nodes picks) = sum_by-append f own (in_order nodes picks) in
        sum_by-append f (filter (at_node node) (p ∷ picks)) (in_order nodes (p ∷ picks))
        ∙ (ap (λ t. sum_by f (cond t (p ∷ own) own) + sum_by f (in_order nodes (p ∷ picks))) miss
        ∙ (let r : sum_by f own + sum_by f (in_order nodes (p ∷ picks)) ≡ f p + sum_by f (own ++ in_order nodes picks) = omega (arith, b, c) in r))
  ]

pub in_order-counts : (f : Pick → ℕ) (nodes : List Node) (picks : List Pick) → From 0 nodes → Every (λ (p : Pick). p.node < length nodes) picks
    → sum_by f (in_order nodes picks) ≡ sum_by f picks
in_order-counts f nodes [] from h = none-there f nodes
in_order-counts f nodes (p ∷ picks) from h =
    stands f p picks 0 nodes from (omega arith) (omega (arith, h.0))
    ∙ (ap (λ k. f p + k) (in_order-counts f nodes picks from h.1) ∙ sym (sum_by-cons f p picks))
