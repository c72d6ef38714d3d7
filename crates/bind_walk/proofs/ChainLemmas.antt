-- Moves to a first node and to the next lead through the nodes of a sort.
use Rattle.std.proofs.Common.{◌≡◌, ℕ, ◌+◌, ◌-◌, ◌<◌, Bool, true, false, cond, List, [], ◌∷◌, length, map, drop, get_or, Option, Some, None, refl, ap, sym, ◌∙◌}
use Rattle.std.proofs.Common.{subst, arith, zero, suc}
use Rattle.std.specs.Prelude.{filter, find, option_map, not}
use Rattle.std.proofs.lemmas.Bool.{and_parts, eqb-true, not-true}
use Rattle.std.proofs.lemmas.List.{drop_more, drop-drop, get_or-drop, length-drop, length-map}
use Rattle.inv_base.specs.declared.tree.Kind.TheVariants as kinds
use Rattle.inv_base.specs.Tree.{Name, Node}
use Rattle.node_arena.specs.Document.{Placed, Document, AreNumbered}
use Rattle.node_arena.specs.Moves.{node_of, tree_nodes, tree_node, behind, is_attribute, nearest, is_nearest, is_child, is_attribute_of, first_that, parent}
use Rattle.node_arena.specs.Moves.{first_child, next_sibling, first_attribute, next_attribute}
use Rattle.bind_walk.specs.Chains.{number, numbers_from, IsAt, Leading, IsChained}

abbrev none : Node
none = record { number = 0; kind = kinds.Document; name = None; above = []; text = [] }

-- The nodes have the numbers of their places, the first this one.
abbrev pub Numbered : ℕ → List Node → Type 0
Numbered n [] = Unit {0}
Numbered n (node ∷ nodes) = (node.number ≡ n) × Numbered (n + 1) nodes

pub tree-numbered : (names : List Name) (n : ℕ) (nodes : List Placed) → AreNumbered n nodes → Numbered n (map (node_of names) nodes)
tree-numbered names n [] h = tt
tree-numbered names n (node ∷ nodes) (is, rest) = (is, tree-numbered names (n + 1) nodes rest)

drop-numbered : (k n : ℕ) (nodes : List Node) → Numbered n nodes → Numbered (n + k) (drop k nodes)
drop-numbered zero n nodes h = let P : ℕ → Type 0 = λ m. Numbered m nodes in subst P (let e : n ≡ n + 0 = omega arith in e) h
drop-numbered (suc k) n [] h = tt
drop-numbered (suc k) n (node ∷ nodes) h = let P : ℕ → Type 0 = λ m. Numbered m (drop k nodes) in
    subst P (let e : n + 1 + k ≡ n + suc k = omega arith in e) (drop-numbered k (n + 1) nodes h.1)

pub number-at : (n k : ℕ) (nodes : List Node) → Numbered n nodes → k < length nodes → (get_or nodes k none).number ≡ n + k
number-at n k [] h within = absurd (omega (arith, within))
number-at n zero (node ∷ nodes) h within = h.0 ∙ (let e : n ≡ n + 0 = omega arith in e)
number-at n (suc k) (node ∷ nodes) h within = number-at (n + 1) k nodes h.1 (omega (arith, within)) ∙ (let e : n + 1 + k ≡ n + suc k = omega arith in e)

-- ---- the first of a sort

module _ (is_so : Node → Bool) where
  -- where the first is, the first node has the number n, and these are all of the sort
  abbrev FirstIs : ℕ → List Node → List Node → Option ℕ → Type 0
  FirstIs n nodes found None = found ≡ []
  FirstIs n nodes found (Some m) = (k : ℕ) × (m ≡ n + k) × (k < length nodes) × (is_so (get_or nodes k none) ≡ true) × (found ≡ filter is_so (drop k nodes))

  first-later : (n : ℕ) (node : Node) (nodes found : List Node) (o : Option ℕ) → FirstIs (n + 1) nodes found o → FirstIs n (node ∷ nodes) found o
  first-later n node nodes found None h = h
  first-later n node nodes found (Some m) (k, is, within, so, all) = (suc k, omega (arith, is), omega (arith, within), so, all)

  first-at : (n : ℕ) (node : Node) (nodes : List Node) (b : Bool) → is_so node ≡ b → node.number ≡ n
      → FirstIs (n + 1) nodes (filter is_so nodes) (first_that is_so nodes)
      → FirstIs n (node ∷ nodes) (cond b (node ∷ filter is_so nodes) (filter is_so nodes))
      (option_map (λ (x : Node). x.number) (cond b (Some node) (find is_so nodes)))
  first-at n node nodes true e is later = (0, is ∙ (let z : n ≡ n + 0 = omega arith in z), omega arith, e, rw e refl)
  first-at n node nodes false e is later = first-later n node nodes (filter is_so nodes) (first_that is_so nodes) later

  first-is : (n : ℕ) (nodes : List Node) → Numbered n nodes → FirstIs n nodes (filter is_so nodes) (first_that is_so nodes)
  first-is n [] h = refl
  first-is n (node ∷ nodes) h = first-at n node nodes (is_so node) refl h.0 (first-is (n + 1) nodes h.1)

module _ (is_so : Node → Bool) (d : Document) (numbered : AreNumbered 0 d.nodes) where
  abbrev nodes : List Node
  nodes = tree_nodes d

  whole : Numbered 0 (tree_nodes d)
  whole = tree-numbered d.names 0 d.nodes numbered

  long : length (tree_nodes d) ≡ length d.nodes
  long = length-map d.nodes (node_of d.names)

  -- from the first among the nodes from a place on
  from-first : (j : ℕ) (o : Option ℕ) → FirstIs is_so (0 + j) (drop j (tree_nodes d)) (filter is_so (drop j (tree_nodes d))) o
      → (numbers_from is_so d o ≡ map number (filter is_so (drop j (tree_nodes d)))) × IsAt is_so d o
  from-first j None h = (ap (map number) (sym h), tt)
  from-first j (Some m) (k, is, within, so, all) =
      let place : m ≡ j + k = omega (arith, is) in
      let longer : length (drop j (tree_nodes d)) ≡ length (tree_nodes d) - j = length-drop j (tree_nodes d) in (
        ap (λ i. map number (filter is_so (drop i (tree_nodes d)))) place
            ∙ (ap (λ xs. map number (filter is_so xs)) (sym (drop-drop k j (tree_nodes d))) ∙ ap (map number) (sym all)),
        (
          omega (arith, place, within, longer, long),
          ap (λ i. is_so (get_or (tree_nodes d) i none)) place ∙ (ap is_so (sym (get_or-drop j (tree_nodes d) k none)) ∙ so),
        ),
      )

  first-of : (j : ℕ) → (numbers_from is_so d (first_that is_so (drop j (tree_nodes d))) ≡ map number (filter is_so (drop j (tree_nodes d))))
      × IsAt is_so d (first_that is_so (drop j (tree_nodes d)))
  first-of j = from-first j (first_that is_so (drop j (tree_nodes d))) (first-is is_so (0 + j) (drop j (tree_nodes d)) (drop-numbered j 0 (tree_nodes d) whole))

  here : (m : ℕ) → m < length d.nodes → is_so (tree_node (tree_nodes d) m) ≡ true
      → numbers_from is_so d (Some m) ≡ m ∷ map number (filter is_so (drop (m + 1) (tree_nodes d)))
  here m within so =
      let node = tree_node (tree_nodes d) m in
      let n : node.number ≡ m = number-at 0 m (tree_nodes d) whole (omega (arith, within, long)) ∙ (let e : 0 + m ≡ m = omega arith in e) in
      ap (λ xs. map number (filter is_so xs)) (drop_more (tree_nodes d) m none (omega (arith, within, long)))
      ∙ (ap (λ b. map number (cond b (node ∷ filter is_so (drop (m + 1) (tree_nodes d))) (filter is_so (drop (m + 1) (tree_nodes d))))) so
      ∙ ap (λ i. i ∷ map number (filter is_so (drop (m + 1) (tree_nodes d)))) n)

  pub leading : (first : Option ℕ) (next : ℕ → Option ℕ) → first ≡ first_that is_so (tree_nodes d)
      → ((m : ℕ) → is_so (tree_node (tree_nodes d) m) ≡ true → next m ≡ first_that is_so (behind m (tree_nodes d)))
      → Leading is_so d first next
  leading first next first_is next_is = record {
    begins = ap (numbers_from is_so d) first_is ∙ (first-of 0).0;
    starts = subst (IsAt is_so d) (sym first_is) (first-of 0).1;
    goes_on = λ m within so. here m within so ∙ ap (λ ns. m ∷ ns) (sym (first-of (m + 1)).0 ∙ ap (numbers_from is_so d) (sym (next_is m so)));
    stays = λ m within so. subst (IsAt is_so d) (sym (next_is m so)) (first-of (m + 1)).1;
  }

-- ---- children and attributes

nearest-is : (n : ℕ) (above : List ℕ) → is_nearest n above ≡ true → nearest above ≡ Some n
nearest-is n [] h = cc
nearest-is n (m ∷ above) h = ap Some (eqb-true m n h)

abbrev next_by : List Node → ℕ → (ℕ → Node → Bool) → Option ℕ → Option ℕ
next_by nodes m sort p = elim p [ None ↦ None | Some k ↦ first_that (sort k) (behind m nodes) ]

child-next : (nodes : List Node) (n m : ℕ) → is_child n (tree_node nodes m) ≡ true → next_sibling nodes m ≡ first_that (is_child n) (behind m nodes)
child-next nodes n m h =
    let parts = and_parts (is_nearest n (tree_node nodes m).above) (not (is_attribute (tree_node nodes m))) h in
    ap (λ b. cond b None (next_by nodes m is_child (parent nodes m))) (not-true (is_attribute (tree_node nodes m)) parts.1)
    ∙ ap (next_by nodes m is_child) (nearest-is n (tree_node nodes m).above parts.0)

attribute-next : (nodes : List Node) (n m : ℕ) → is_attribute_of n (tree_node nodes m) ≡ true
    → next_attribute nodes m ≡ first_that (is_attribute_of n) (behind m nodes)
attribute-next nodes n m h =
    let parts = and_parts (is_nearest n (tree_node nodes m).above) (is_attribute (tree_node nodes m)) h in
    ap (λ b. cond b (next_by nodes m is_attribute_of (parent nodes m)) None) parts.1
    ∙ ap (next_by nodes m is_attribute_of) (nearest-is n (tree_node nodes m).above parts.0)

pub chained : (d : Document) → AreNumbered 0 d.nodes → IsChained d
chained d numbered = record {
  numbers = λ n within. number-at 0 n (tree_nodes d) (tree-numbered d.names 0 d.nodes numbered) (omega (arith, within, length-map d.nodes (node_of d.names)))
      ∙ (let e : 0 + n ≡ n = omega arith in e);
  children = λ n. leading (is_child n) d numbered (first_child (tree_nodes d) n) (next_sibling (tree_nodes d)) refl (λ m so. child-next (tree_nodes d) n m so);
  attributes = λ n. leading (is_attribute_of n) d numbered (first_attribute (tree_nodes d) n) (next_attribute (tree_nodes d)) refl
      (λ m so. attribute-next (tree_nodes d) n m so);
}
