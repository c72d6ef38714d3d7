-- What is inside items is what is right inside the nodes inside them and right inside them: `//` and a step on the child
-- axis are one step on the descendant axis.
use Rattle.std.proofs.Common.{◌≡◌, ℕ, suc, zero, ◌+◌, ◌<◌, ◌≤◌, Bool, true, false, not, ◌⊎◌, ⊎_elim, List, [], ◌∷◌, length, map, reverse, Option, Some, None}
use Rattle.std.proofs.Common.{Ok, Err, refl, ap, sym, subst, ◌∙◌, arith}
use Rattle.std.specs.Prelude.{filter, ◌==◌, ◌||◌, ◌&&◌, nat_lt, nat_le}
use Rattle.std.specs.List.{list_any, list_all, flat_map}
use Rattle.std.proofs.lemmas.Bool.{false≢true, eqb-true, eq-eqb, leb-true, or_cases, and_parts, and_right, false_from_ne_true}
use Rattle.inv_base.specs.Tree.{Node, is_among}
use Rattle.node_arena.specs.Moves.{tree_node, nearest, parent, is_attribute, is_nearest, is_inside, last_inside}
use Rattle.xpath_grammar.specs.declared.step.Axis.{Axis}
use Rattle.xpath_grammar.specs.declared.step.Axis.TheVariants as a
use Rattle.xpath_grammar.specs.declared.step.KindTest.TheVariants as q
use Rattle.xpath_items.specs.declared.item.Item.{Item}
use Rattle.xpath_items.specs.declared.item.Item.TheVariants as i
use Rattle.xpath_items.specs.declared.outcome.DynError.TheVariants as e
use Rattle.xpath_meaning.specs.Expressions.{NodeTest, of_kind}
use Rattle.xpath_meaning.specs.Axes.{is_on, is_reverse, on_axis, passes}
use Rattle.xpath_meaning.specs.Steps.{is_node, is_node_of, has_node, node_item, nodes_where, in_document_order, turns, of_turns}
use Rattle.xpath_meaning.specs.Values.{Value, then_}
use Rattle.xpath_operators.specs.Nodes.{AreWithin}
use Rattle.xpath_steps.specs.Numbers.{at_number}
use Rattle.xpath_steps.specs.Steps.{stepped_seen, stepped_path_seen, inside_seen, numbers_over}
use Rattle.xpath_walks.specs.Order.{node_items}
use Rattle.xpath_walks.specs.Walks.{IsWalkable, axis_numbers}
use Rattle.xpath_steps.proofs.WithinLemmas.{numbers_below, where_within}
use Rattle.xpath_steps.proofs.NodeLemmas.{items_of_numbers, eq_turned, alike, where_alike}
use Rattle.xpath_steps.proofs.PathLemmas.{has_append, has_where, items_over, all_of_map, path_of_stepped}

-- ---- numbers among items

abbrev number_passes : (ℕ → Bool) → Item → Bool
number_passes f (i.Node n) = f n
number_passes f _ = false

-- The number of some node among the items passes.
abbrev some_number : (ℕ → Bool) → List Item → Bool
some_number f items = list_any (number_passes f) items

none_passes : (item : Item) → number_passes (λ n. false) item ≡ false
none_passes (i.Node n) = refl
none_passes (i.Boolean b) = refl
none_passes (i.Number z) = refl
none_passes (i.String s) = refl
none_passes (i.Untyped s) = refl
none_passes (i.Date day) = refl

no_number : (items : List Item) → some_number (λ n. false) items ≡ false
no_number [] = refl
no_number (item ∷ items) = ap (λ b. b || some_number (λ n. false) items) (none_passes item) ∙ no_number items

that_number : (p : ℕ) (item : Item) → number_passes (λ n. p == n) item ≡ is_node_of p item
that_number p (i.Node n) = eq_turned p n
that_number p (i.Boolean b) = refl
that_number p (i.Number z) = refl
that_number p (i.String s) = refl
that_number p (i.Untyped s) = refl
that_number p (i.Date day) = refl

-- ---- the number among what turns lead to

both_or : (x y c : Bool) → ((x && c) || (y && c)) ≡ ((x || y) && c)
both_or false y c = refl
both_or true y true = refl
both_or true true false = refl
both_or true false false = refl

and_group : (x y z : Bool) → ((x && y) && z) ≡ (x && (y && z))
and_group true y z = refl
and_group false y z = refl

and_all : (x : Bool) → (x && true) ≡ x
and_all true = refl
and_all false = refl

-- A number is among what each node leads to where the node passes and something holds that is the same for all.
has_over : (count : ℕ) (g : ℕ → List Item) (f : ℕ → Bool) (c : Bool) (k : ℕ) → ((n : ℕ) → n < count → has_node (g n) k ≡ (f n && c))
    → (items : List Item) → AreWithin count items → has_node (flat_map (at_number g) items) k ≡ (some_number f items && c)
has_over count g f c k h [] w = refl
has_over count g f c k h (i.Node n ∷ items) w =
    has_append k (g n) (flat_map (at_number g) items)
    ∙ (ap (λ b. b || has_node (flat_map (at_number g) items) k) (h n w.0)
    ∙ (ap (λ b. (f n && c) || b) (has_over count g f c k h items w.1)
    ∙ both_or (f n) (some_number f items) c))
has_over count g f c k h (i.Boolean b ∷ items) w = has_over count g f c k h items w.1
has_over count g f c k h (i.Number z ∷ items) w = has_over count g f c k h items w.1
has_over count g f c k h (i.String s ∷ items) w = has_over count g f c k h items w.1
has_over count g f c k h (i.Untyped s ∷ items) w = has_over count g f c k h items w.1
has_over count g f c k h (i.Date day ∷ items) w = has_over count g f c k h items w.1

none_among : (m : ℕ) (above : List ℕ) → length above ≤ 0 → is_among m above ≡ true → ⊥
none_among m [] l h = false≢true h
none_among m (n ∷ above) l h = omega (arith, l)

module _ (nodes : List Node) (w : IsWalkable nodes) where
  -- ---- the parent

  -- Ancestors stand before.
  before : (bound k m : ℕ) → k < bound → k < length nodes → is_inside m (tree_node nodes k) ≡ true → m < k
  before zero k m b l h = absurd (omega (arith, b))
  before (suc bound) zero m b l h = absurd (none_among m (tree_node nodes 0).above (w.leads 0 l).level h)
  before (suc bound) (suc k) m b l h =
      let one : k + 1 ≡ suc k = omega arith in
      let in_it : k < length nodes = omega (arith, l) in
      let next : (p : ℕ) × (parent nodes (k + 1) ≡ Some p) × ((p ≡ k) ⊎ (is_inside p (tree_node nodes k) ≡ true)) =
      (w.leads k in_it).next_parent (omega (arith, l)) in
      let p : ℕ = next.0 in
      let lower : p ≤ k = ⊎_elim (λ (same : next.0 ≡ k). omega (arith, same))
      (λ (is : is_inside next.0 (tree_node nodes k) ≡ true). omega (arith, before bound k next.0 (omega (arith, b)) in_it is)) next.2 in
      let above_is : (tree_node nodes (suc k)).above ≡ p ∷ (tree_node nodes p).above = (w.leads (suc k) l).around p (ap (parent nodes) (sym one) ∙ next.1) in
      ⊎_elim
      (λ (same : (m == p) ≡ true). omega (arith, eqb-true m p same, lower))
      (λ (more : is_inside m (tree_node nodes p) ≡ true). omega (arith, before bound p m (omega (arith, lower, b)) (omega (arith, lower, in_it)) more, lower))
      (or_cases (m == p) (is_inside m (tree_node nodes p)) (sym (ap (is_among m) above_is) ∙ h))

  -- What has anything inside it is no attribute.
  plain : (k p : ℕ) → k < length nodes → p < length nodes → is_inside p (tree_node nodes k) ≡ true → is_attribute (tree_node nodes p) ≡ false
  plain k p l b is = false_from_ne_true (is_attribute (tree_node nodes p)) (λ so.
      let ends : last_inside nodes p ≡ p = (w.leads p b).attribute_ends so in
      let parts = and_parts (nat_lt p k) (nat_le k (last_inside nodes p)) (sym (w.inside p k b l) ∙ is) in
      omega (arith, ends, leb-true k (last_inside nodes p) parts.1, before (suc k) k p (omega arith) l is))

  -- ---- steps from items

  -- what a step leads to from a node, and from items
  abbrev pub from_node : Axis → Option NodeTest → ℕ → List Item
  from_node axis o n = node_items (axis_numbers nodes axis n o)

  abbrev from_items : Axis → Option NodeTest → List Item → List Item
  from_items axis o items = node_items (numbers_over nodes axis o items)

  pub has_from : (axis : Axis) (test : NodeTest) (n k : ℕ) → is_reverse axis ≡ false → k < length nodes
      → has_node (from_node axis (Some test) n) k ≡ (is_on axis (tree_node nodes n) (tree_node nodes k) && passes axis test (tree_node nodes k))
  has_from axis test n k forward l =
      let so : Node → Bool = λ node. is_on axis (tree_node nodes n) node && passes axis test node in
      ap (λ items. has_node items k) (items_of_numbers (on_axis nodes axis test n))
      ∙ (ap (λ b. has_node (map node_item (elim b [ true ↦ reverse (filter so nodes) | false ↦ filter so nodes ])) k) forward
      ∙ (ap (λ some. has_node (map node_item some) k)
      (alike so (λ node. so (tree_node nodes node.number)) nodes (λ j m. ap (λ x. so (tree_node nodes x)) (sym (w.counted j m))))
      ∙ subst (λ x. has_node (nodes_where nodes (λ j. so (tree_node nodes j))) x ≡ so (tree_node nodes x)) (w.counted k l)
      (has_where (λ j. so (tree_node nodes j)) nodes k l)))

  has_from_items : (axis : Axis) (o : Option NodeTest) (f : ℕ → Bool) (c : Bool) (k : ℕ) →
      ((n : ℕ) → n < length nodes → has_node (from_node axis o n) k ≡ (f n && c))
      → (items : List Item) → AreWithin (length nodes) items → has_node (from_items axis o items) k ≡ (some_number f items && c)
  has_from_items axis o f c k h items within =
      ap (λ some. has_node some k) (items_over (λ n. axis_numbers nodes axis n o) items)
      ∙ has_over (length nodes) (from_node axis o) f c k h items within

  -- A step without a test leads nowhere.
  nowhere : (axis : Axis) (k : ℕ) (items : List Item) → AreWithin (length nodes) items → has_node (from_items axis None items) k ≡ false
  nowhere axis k items within = has_from_items axis None (λ n. false) false k (λ n b. refl) items within ∙ and_right (some_number (λ n. false) items) false refl

  module _ (k : ℕ) (l : k < length nodes) where
    abbrev above : List ℕ
    above = (tree_node nodes k).above

    abbrev is_plain : Bool
    is_plain = not (is_attribute (tree_node nodes k))

    abbrev pass : NodeTest → Bool
    pass test = passes a.Child test (tree_node nodes k)

    -- on an axis that leads to no attribute
    has_plain : (axis : Axis) (test : NodeTest) (around : ℕ → Bool) → is_reverse axis ≡ false
        → ((n : ℕ) → n < length nodes → (is_on axis (tree_node nodes n) (tree_node nodes k) && passes axis test (tree_node nodes k)) ≡ ((around n && is_plain)
        && pass test))
        → (items : List Item) → AreWithin (length nodes) items →
        has_node (from_items axis (Some test) items) k ≡ (some_number around items && (is_plain && pass test))
    has_plain axis test around forward is items within = has_from_items axis (Some test) around (is_plain && pass test) k
        (λ n b. has_from axis test n k forward l ∙ (is n b ∙ and_group (around n) is_plain (pass test))) items within

    -- of a node that is no attribute
    is_inside_or_at : is_attribute (tree_node nodes k) ≡ false → (items : List Item) → AreWithin (length nodes) items
        → has_node (from_items a.DescendantOrSelf (Some (of_kind q.Node)) items) k ≡ some_number (λ n. is_among n (k ∷ above)) items
    is_inside_or_at so items within = has_from_items a.DescendantOrSelf (Some (of_kind q.Node)) (λ n. is_among n (k ∷ above)) true k
        (λ n b. has_from a.DescendantOrSelf (of_kind q.Node) n k refl l
        ∙ (ap (λ m. ((m == (tree_node nodes n).number) || (is_among (tree_node nodes n).number above && is_plain)) && true) (w.counted k l)
        ∙ (ap (λ m. ((k == m) || (is_among m above && is_plain)) && true) (w.counted n b)
        ∙ (ap (λ c. ((k == n) || (is_among n above && not c)) && true) so
        ∙ (ap (λ c. ((k == n) || c) && true) (and_all (is_among n above))
        ∙ ap (λ c. (c || is_among n above) && true) (eq_turned k n))))))
        items within
        ∙ and_all (some_number (λ n. is_among n (k ∷ above)) items)

  -- ---- two steps and one

  -- the nodes inside items and the items themselves
  abbrev inside_or_at : List Item → List Item
  inside_or_at items = from_items a.DescendantOrSelf (Some (of_kind q.Node)) items

  -- A node is inside some of the items exactly where its parent is inside one of them or is one.
  by_parent : (items : List Item) → AreWithin (length nodes) items → (k : ℕ) → k < length nodes → (above : List ℕ) → (tree_node nodes k).above ≡ above
      → some_number (λ n. is_among n above) items ≡ some_number (λ n. is_nearest n above) (in_document_order nodes (inside_or_at items))
  by_parent items within k l [] is = no_number items ∙ sym (no_number (in_document_order nodes (inside_or_at items)))
  by_parent items within k l (p ∷ rest) is =
      let inside : is_inside p (tree_node nodes k) ≡ true = ap (is_among p) is ∙ ap (λ b. b || is_among p rest) (eq-eqb p p refl) in
      let lower : p < k = before (suc k) k p (omega arith) l inside in
      let b : p < length nodes = omega (arith, lower, l) in
      let around : p ∷ rest ≡ p ∷ (tree_node nodes p).above = sym is ∙ (w.leads k l).around p (ap nearest is) in
      let found = inside_or_at items in
      ap (λ (ns : List ℕ). some_number (λ n. is_among n ns) items) around
      ∙ (sym (is_inside_or_at p b (plain k p l b inside) items within)
      ∙ (sym (subst (λ x. has_node (in_document_order nodes found) x ≡ has_node found x) (w.counted p b) (has_where (has_node found) nodes p b))
      ∙ (λ j. list_any (λ item. sym (that_number p item) j) (in_document_order nodes found))))

  found_within : (items : List Item) → AreWithin (length nodes) (in_document_order nodes items)
  found_within items = where_within (length nodes) nodes (has_node items) (numbers_below (length nodes) nodes (λ k l. omega (arith, w.counted k l, l)))

  has_same : (o : Option NodeTest) (items : List Item) → AreWithin (length nodes) items → (k : ℕ) → k < length nodes
      → has_node (from_items a.Descendant o items) k ≡ has_node (from_items a.Child o (in_document_order nodes (inside_or_at items))) k
  has_same None items within k l = nowhere a.Descendant k items within ∙
      sym (nowhere a.Child k (in_document_order nodes (inside_or_at items)) (found_within (inside_or_at items)))
  has_same (Some test) items within k l =
      let node = tree_node nodes k in
      has_plain k l a.Descendant test (λ n. is_among n node.above) refl
      (λ n b. ap (λ m. (is_among m node.above && is_plain k l) && pass k l test) (w.counted n b)) items within
      ∙ (ap (λ b. b && (is_plain k l && pass k l test)) (by_parent items within k l node.above refl)
      ∙ sym (has_plain k l a.Child test (λ n. is_nearest n node.above) refl
      (λ n b. ap (λ m. (is_nearest m node.above && is_plain k l) && pass k l test) (w.counted n b))
      (in_document_order nodes (inside_or_at items)) (found_within (inside_or_at items))))

  order_alike : (o : Option NodeTest) (items : List Item) → AreWithin (length nodes) items
      → in_document_order nodes (from_items a.Descendant o items) ≡ in_document_order nodes
      (from_items a.Child o (in_document_order nodes (inside_or_at items)))
  order_alike o items within =
      let xs = from_items a.Descendant o items in
      let ys = from_items a.Child o (in_document_order nodes (inside_or_at items)) in
      where_alike (has_node xs) (has_node ys) nodes (λ k l. subst (λ x. has_node xs x ≡ has_node ys x) (sym (w.counted k l)) (has_same o items within k l))

  -- where an item is no node
  pub off_path : (axis : Axis) (o : Option NodeTest) (items : List Item) → list_all is_node items ≡ false →
      stepped_path_seen nodes axis o items ≡ Err e.XPTY0019
  off_path axis o items h =
      let step : Item → ℕ → ℕ → Value = λ item position last. stepped_seen nodes axis o item in
      ap (λ (b : Bool). elim b [ true ↦ then_ (turns step (length items) 1 items) (of_turns nodes) | false ↦ Err e.XPTY0019 ]) h

  pub one_step : (o : Option NodeTest) (items : List Item) → AreWithin (length nodes) items →
      stepped_path_seen nodes a.Descendant o items ≡ inside_seen nodes o items
  one_step o items within = go (list_all is_node items) refl
    where
      go : (b : Bool) → list_all is_node items ≡ b → stepped_path_seen nodes a.Descendant o items ≡ inside_seen nodes o items
      go true h =
          path_of_stepped nodes a.Descendant o items h
          ∙ (ap Ok (order_alike o items within)
          ∙ (sym (path_of_stepped nodes a.Child o (in_document_order nodes (inside_or_at items))
          (all_of_map (filter (λ node. has_node (inside_or_at items) node.number) nodes)))
          ∙ sym (ap (λ v. then_ v (stepped_path_seen nodes a.Child o)) (path_of_stepped nodes a.DescendantOrSelf (Some (of_kind q.Node)) items h))))
      go false h = off_path a.Descendant o items h ∙
          sym (ap (λ v. then_ v (stepped_path_seen nodes a.Child o)) (off_path a.DescendantOrSelf (Some (of_kind q.Node)) items h))
