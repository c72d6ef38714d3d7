-- Where the moves of nodes that lead on lead.
use Rattle.std.proofs.Common.{◌≡◌, ℕ, zero, suc, ◌+◌, ◌<◌, ◌≤◌, Bool, true, false, not, cond, ◌⊎◌, inl, inr, ⊎_elim, List, [], ◌∷◌, ◌++◌, length, Option, Some}
use Rattle.std.proofs.Common.{None, subst, refl, ap, sym, ◌∙◌, arith}
use Rattle.std.proofs.lemmas.Bool.{false≢true, and_parts, and_from, not-true, not_from_false, eqb-true, eq-eqb, cases_eq, cases_order, cases_lt, cases_Bool}
use Rattle.std.proofs.lemmas.List.{length-map}
use Rattle.inv_base.specs.Tree.{Node, Forest}
use Rattle.node_arena.specs.Document.{Document}
use Rattle.node_arena.specs.Moves.{node_of, tree_nodes, HasNodesOf, tree_node, behind, is_attribute, nearest, is_nearest, is_child, is_attribute_of, is_inside}
use Rattle.node_arena.specs.Moves.{first_that, parent, first_child, next_sibling, last_inside, first_attribute, next_attribute}
use Rattle.node_arena.specs.Walks.{LeadsOn}
use Rattle.node_arena.proofs.FoundLemmas.{IsFirstFrom, first_from, none_from, IsLastFrom, last_from}
use Rattle.node_arena.proofs.StepLemmas.{In, in_among, among_in, in_right, Step, inner, beside, Walk, document_walk}

-- the ancestors of the node of that number
abbrev pub above : List Node → ℕ → List ℕ
above nodes k = (tree_node nodes k).above

in_step : (node next : Node) (p : ℕ) → Step node next → In p next.above → (p ≡ node.number) ⊎ In p node.above
in_step node next p (inner not_so is) i = subst (In p) is i
in_step node next p (beside left is attributes) i = inr (subst (In p) (sym is) (in_right p left next.above i))

-- The numbers are those around a node: behind each stand its ancestors.
abbrev IsPath : List Node → List ℕ → Type 0
IsPath nodes [] = Unit {0}
IsPath nodes (p ∷ numbers) = (numbers ≡ above nodes p) × IsPath nodes numbers

path_right : (nodes : List Node) (left numbers : List ℕ) → IsPath nodes (left ++ numbers) → IsPath nodes numbers
path_right nodes [] numbers path = path
path_right nodes (p ∷ left) numbers path = path_right nodes left numbers path.1

path_step : (nodes : List Node) (node next : Node) → Step node next → node.above ≡ above nodes node.number → IsPath nodes node.above → IsPath nodes next.above
path_step nodes node next (inner not_so is) same path =
    let more : IsPath nodes (node.number ∷ node.above) = (same, path) in
    subst (IsPath nodes) (sym is) more
path_step nodes node next (beside left is attributes) same path = path_right nodes left next.above (subst (IsPath nodes) is path)

path_in : (nodes : List Node) (numbers : List ℕ) (q p : ℕ) → IsPath nodes numbers → In q numbers → In p (above nodes q) → In p numbers
path_in nodes [] q p path i j = absurd i
path_in nodes (r ∷ numbers) q p path (inl e) j = inr (subst (In p) (ap (above nodes) e ∙ sym path.0) j)
path_in nodes (r ∷ numbers) q p path (inr i) j = inr (path_in nodes numbers q p path.1 i j)

path_nearest : (nodes : List Node) (numbers : List ℕ) (p : ℕ) → IsPath nodes numbers → nearest numbers ≡ Some p → numbers ≡ p ∷ above nodes p
path_nearest nodes [] p path e = cc
path_nearest nodes (q ∷ numbers) p path e = let same : q ≡ p = cc in ap (λ x. q ∷ x) path.0 ∙ ap (λ x. x ∷ above nodes x) same

nearest_in : (numbers : List ℕ) (p : ℕ) → In p numbers → (q : ℕ) × (nearest numbers ≡ Some q)
nearest_in [] p i = absurd i
nearest_in (q ∷ numbers) p i = (q, refl)

nearest_test : (numbers : List ℕ) (p : ℕ) → is_nearest p numbers ≡ true → nearest numbers ≡ Some p
nearest_test [] p e = absurd (false≢true e)
nearest_test (q ∷ numbers) p e = ap Some (eqb-true q p e)

test_nearest : (numbers more : List ℕ) (p : ℕ) → numbers ≡ p ∷ more → is_nearest p numbers ≡ true
test_nearest numbers more p e = ap (is_nearest p) e ∙ eq-eqb p p refl

-- A child or an attribute, from its parts.
child_parts : (n : ℕ) (node : Node) → is_child n node ≡ true → (nearest node.above ≡ Some n) × (is_attribute node ≡ false)
child_parts n node e = let parts = and_parts (is_nearest n node.above) (not (is_attribute node)) e in
    (nearest_test node.above n parts.0, not-true (is_attribute node) parts.1)

attribute_parts : (n : ℕ) (node : Node) → is_attribute_of n node ≡ true → (nearest node.above ≡ Some n) × (is_attribute node ≡ true)
attribute_parts n node e = let parts = and_parts (is_nearest n node.above) (is_attribute node) e in (nearest_test node.above n parts.0, parts.1)

child_from : (n : ℕ) (node : Node) (more : List ℕ) → node.above ≡ n ∷ more → is_attribute node ≡ false → is_child n node ≡ true
child_from n node more e not_so = and_from (is_nearest n node.above) (not (is_attribute node)) (test_nearest node.above more n e)
    (not_from_false (is_attribute node) not_so)

attribute_from : (n : ℕ) (node : Node) (more : List ℕ) → node.above ≡ n ∷ more → is_attribute node ≡ true → is_attribute_of n node ≡ true
attribute_from n node more e is = and_from (is_nearest n node.above) (is_attribute node) (test_nearest node.above more n e) is

pub both_ways : (b : Bool) → b ≡ true → b ≡ false → ⊥
both_ways b is not_so = false≢true (sym not_so ∙ is)

-- A move beside is by the parent.
abbrev by_parent : (ℕ → Option ℕ) → Option ℕ → Option ℕ
by_parent next None = None
by_parent next (Some p) = next p

sibling_parts : (b : Bool) (o : Option ℕ) (next : ℕ → Option ℕ) (m : ℕ) → cond b None (by_parent next o) ≡ Some m → (b ≡ false) × (p : ℕ) × (o ≡ Some p)
sibling_parts true o next m e = cc
sibling_parts false None next m e = cc
sibling_parts false (Some p) next m e = (refl, p, refl)

attribute_move_parts : (b : Bool) (o : Option ℕ) (next : ℕ → Option ℕ) (m : ℕ) → cond b (by_parent next o) None ≡ Some m → (b ≡ true) × (p : ℕ) × (o ≡ Some p)
attribute_move_parts false o next m e = cc
attribute_move_parts true None next m e = cc
attribute_move_parts true (Some p) next m e = (refl, p, refl)

-- what a path begins with, where the rest of it has the number and its own rest has not
path_head : (left numbers more : List ℕ) (p : ℕ) → p ∷ more ≡ left ++ numbers → In p numbers → (In p more → ⊥) → numbers ≡ p ∷ more
path_head [] numbers more p e i out = sym e
path_head (q ∷ left) numbers more p e i out = let rest : more ≡ left ++ numbers = cc in absurd (out (subst (In p) (sym rest) (in_right p left numbers i)))

module _ (nodes : List Node) (w : Walk nodes) where
  in_next : (k p : ℕ) → suc k < length nodes → In p (above nodes (suc k)) → (p ≡ k) ⊎ In p (above nodes k)
  in_next k p h i = ⊎_elim (λ e. inl (e ∙ w.numbers k (omega (arith, h)))) (λ j. inr j) (in_step (tree_node nodes k) (tree_node nodes (suc k)) p (w.step k h) i)

  -- Ancestors stand before.
  pub before : (k p : ℕ) → k < length nodes → In p (above nodes k) → p < k
  before zero p h i = absurd (subst (In p) w.begins i)
  before (suc k) p h i = ⊎_elim (λ e. omega (arith, e)) (λ j. let less = before k p (omega (arith, h)) j in omega (arith, less)) (in_next k p h i)

  -- All from a node to one inside it are inside it.
  pub down : (m k p : ℕ) → p < k → k ≤ m → m < length nodes → In p (above nodes m) → In p (above nodes k)
  down zero k p a b h i = absurd (omega (arith, a, b))
  down (suc m) k p a b h i = ⊎_elim
      (λ (e : k ≡ suc m). subst (λ j. In p (above nodes j)) (sym e) i)
      (λ (ne : k ≡ suc m → ⊥). ⊎_elim
      (λ (e : p ≡ m). absurd (ne (omega (arith, e, a, b))))
      (λ (j : In p (above nodes m)). down m k p a (⊎_elim (λ (l : k < suc m). omega (arith, l)) (λ (g : suc m ≤ k). absurd (ne (omega (arith, g, b))))
      (cases_lt k (suc m))) (omega (arith, h)) j)
      (in_next m p h i))
      (cases_eq k (suc m))

  is_path : (k : ℕ) → k < length nodes → IsPath nodes (above nodes k)
  is_path zero h = subst (IsPath nodes) (sym w.begins) tt
  is_path (suc k) h =
      path_step nodes (tree_node nodes k) (tree_node nodes (suc k)) (w.step k h) (ap (above nodes) (sym (w.numbers k (omega (arith, h)))))
      (is_path k (omega (arith, h)))

  around : (k p : ℕ) → k < length nodes → nearest (above nodes k) ≡ Some p → above nodes k ≡ p ∷ above nodes p
  around k p h e = path_nearest nodes (above nodes k) p (is_path k h) e

  nearest_is : (k p : ℕ) → k < length nodes → nearest (above nodes k) ≡ Some p → In p (above nodes k)
  nearest_is k p h e = subst (In p) (sym (around k p h e)) (inl refl)

  inside : (k q p : ℕ) → k < length nodes → In q (above nodes k) → In p (above nodes q) → In p (above nodes k)
  inside k q p h i j = path_in nodes (above nodes k) q p (is_path k h) i j

  rooted : (k : ℕ) → 0 < k → k < length nodes → In 0 (above nodes k)
  rooted zero a h = absurd (omega (arith, a))
  rooted (suc k) a h = w.rooted k h

  -- The first inside a node is right inside it.
  right_step : (k : ℕ) → k < length nodes → (next : Node) → Step (tree_node nodes k) next → In k next.above → (is_attribute (tree_node nodes k) ≡ false) ×
      (next.above ≡ k ∷ above nodes k)
  right_step k h next (inner not_so is) i = (not_so, is ∙ ap (λ j. j ∷ above nodes k) (w.numbers k h))
  right_step k h next (beside left is attributes) i = absurd (let less = before k k h (subst (In k) (sym is) (in_right k left next.above i)) in
      omega (arith, less))

  right_inside : (k : ℕ) → suc k < length nodes → In k (above nodes (suc k)) → (is_attribute (tree_node nodes k) ≡ false) ×
      (above nodes (suc k) ≡ k ∷ above nodes k)
  right_inside k h i = right_step k (omega (arith, h)) (tree_node nodes (suc k)) (w.step k h) i

  -- Before an attribute stands its element or another attribute of it.
  attribute_step : (k p : ℕ) → k < length nodes → (next : Node) → Step (tree_node nodes k) next → is_attribute next ≡ true → (more : List ℕ) →
      next.above ≡ p ∷ more
      → (p ≡ k) ⊎ ((is_attribute (tree_node nodes k) ≡ true) × (above nodes k ≡ next.above))
  attribute_step k p h next (inner not_so is) so more e =
      let same : p ∷ more ≡ (tree_node nodes k).number ∷ above nodes k = sym e ∙ is in
      let first : p ≡ (tree_node nodes k).number = cc in
      inl (first ∙ w.numbers k h)
  attribute_step k p h next (beside left is attributes) so more e = inr (attributes so)

  before_attribute : (k p : ℕ) → suc k < length nodes → is_attribute (tree_node nodes (suc k)) ≡ true → nearest (above nodes (suc k)) ≡ Some p
      → (p ≡ k) ⊎ ((is_attribute (tree_node nodes k) ≡ true) × (above nodes k ≡ above nodes (suc k)))
  before_attribute k p h so e =
      attribute_step k p (omega (arith, h)) (tree_node nodes (suc k)) (w.step k h) so (above nodes p) (around (suc k) p h e)

  -- all between an element and an attribute of it are attributes of it
  attributes_between : (m k p : ℕ) → m < length nodes → is_attribute (tree_node nodes m) ≡ true → nearest (above nodes m) ≡ Some p → p < k → k ≤ m
      → (is_attribute (tree_node nodes k) ≡ true) × (nearest (above nodes k) ≡ Some p)
  attributes_between zero k p h so e a b = absurd (omega (arith, a, b))
  attributes_between (suc m) k p h so e a b = ⊎_elim
      (λ (same : k ≡ suc m). (ap (λ j. is_attribute (tree_node nodes j)) same ∙ so, ap (λ j. nearest (above nodes j)) same ∙ e))
      (λ (ne : k ≡ suc m → ⊥). let less : k ≤ m = ⊎_elim (λ (l : k < suc m). omega (arith, l)) (λ (g : suc m ≤ k). absurd (ne (omega (arith, g, b))))
      (cases_lt k (suc m)) in ⊎_elim
      (λ (same : p ≡ m). absurd (omega (arith, same, a, less)))
      (λ (other : (is_attribute (tree_node nodes m) ≡ true) × (above nodes m ≡ above nodes (suc m))).
      attributes_between m k p (omega (arith, h)) other.0 (ap nearest other.1 ∙ e) a less)
      (before_attribute m p h so e))
      (cases_eq k (suc m))

  -- The last inside a node.
  pub record Ends (n m : ℕ) : Type 0 where
    pub from : n ≤ m
    pub within : m < length nodes
    pub here : (m ≡ n) ⊎ In n (above nodes m)
    pub behind_it : (k : ℕ) → m < k → k < length nodes → In n (above nodes k) → ⊥

  ends_of : (n : ℕ) → n < length nodes → (m : ℕ) → IsLastFrom (is_inside n) nodes (n + 1) n m → Ends n m
  ends_of n h m f =
      let from : n ≤ m = ⊎_elim (λ e. omega (arith, e)) (λ (j : (n + 1 ≤ m) × (m < length nodes) × (is_inside n (tree_node nodes m) ≡ true)). omega
      (arith, j.0)) f.here in
      record {
        from = from;
        within = ⊎_elim (λ e. omega (arith, e, h)) (λ (j : (n + 1 ≤ m) × (m < length nodes) × (is_inside n (tree_node nodes m) ≡ true)). j.1) f.here;
        here = ⊎_elim inl (λ (j : (n + 1 ≤ m) × (m < length nodes) × (is_inside n (tree_node nodes m) ≡ true)). inr (in_among n (above nodes m) j.2)) f.here;
        behind_it = λ k past within i. both_ways (is_inside n (tree_node nodes k)) (among_in n (above nodes k) i)
            (f.behind_it k (omega (arith, from, past)) past within);
      }

  pub ends : (n : ℕ) → n < length nodes → Ends n (last_inside nodes n)
  ends n h = ends_of n h (last_inside nodes n) (last_from (is_inside n) nodes w.numbers (n + 1) n)

  -- Nothing inside the next place: nothing inside.
  ends_here : (n m : ℕ) → Ends n m → (suc n < length nodes → In n (above nodes (suc n)) → ⊥) → m ≡ n
  ends_here n m e nothing = ⊎_elim
      (λ same. same)
      (λ (i : In n (above nodes m)).
      let less = before m n e.within i in
      let within = e.within in
      absurd (nothing (omega (arith, less, within)) (down m (suc n) n (omega arith) (omega (arith, less)) within i)))
      e.here

  attribute_ends : (n : ℕ) → n < length nodes → is_attribute (tree_node nodes n) ≡ true → last_inside nodes n ≡ n
  attribute_ends n h is =
      ends_here n (last_inside nodes n) (ends n h) (λ within i. both_ways (is_attribute (tree_node nodes n)) is (right_inside n within i).0)

  -- The next node is right inside: it is the first attribute, or else the first child.
  inside_none : (n : ℕ) → suc n < length nodes → In n (above nodes (suc n)) → first_attribute nodes n ≡ None → is_child n (tree_node nodes (suc n)) ≡ true
  inside_none n h i e =
      let right = right_inside n h i in ⊎_elim
      (λ (is : is_attribute (tree_node nodes (suc n)) ≡ true).
      absurd (both_ways (is_attribute_of n (tree_node nodes (suc n))) (attribute_from n (tree_node nodes (suc n)) (above nodes n) right.1 is)
      (none_from (is_attribute_of n) nodes 0 e (suc n) (omega arith) h)))
      (λ (not_so : is_attribute (tree_node nodes (suc n)) ≡ false). child_from n (tree_node nodes (suc n)) (above nodes n) right.1 not_so)
      (cases_Bool (is_attribute (tree_node nodes (suc n))))

  leaf : (n : ℕ) → n < length nodes → first_attribute nodes n ≡ None → first_child nodes n ≡ None → last_inside nodes n ≡ n
  leaf n h no_attribute no_child =
      ends_here n (last_inside nodes n) (ends n h) (λ within i. both_ways (is_child n (tree_node nodes (suc n))) (inside_none n within i no_attribute)
      (none_from (is_child n) nodes 0 no_child (suc n) (omega arith) within))

  attribute_go : (n m : ℕ) → IsFirstFrom (is_attribute_of n) nodes 0 m → m ≡ n + 1
  attribute_go n zero f =
      let less = before 0 n f.within (nearest_is 0 n f.within (attribute_parts n (tree_node nodes 0) f.is).0) in
      absurd (omega (arith, less))
  attribute_go n (suc j) f =
      let parts = attribute_parts n (tree_node nodes (suc j)) f.is in
      let within = f.within in ⊎_elim
      (λ (e : n ≡ j). omega (arith, e))
      (λ (other : (is_attribute (tree_node nodes j) ≡ true) × (above nodes j ≡ above nodes (suc j))).
      absurd (both_ways (is_attribute_of n (tree_node nodes j))
      (attribute_from n (tree_node nodes j) (above nodes n) (other.1 ∙ around (suc j) n within parts.0) other.0)
      (f.before j (omega arith) (omega arith))))
      (before_attribute j n within parts.1 parts.0)

  attribute : (n m : ℕ) → first_attribute nodes n ≡ Some m → m ≡ n + 1
  attribute n m e = attribute_go n m (first_from (is_attribute_of n) nodes w.numbers 0 m e)

  child : (n m : ℕ) → first_attribute nodes n ≡ None → first_child nodes n ≡ Some m → m ≡ n + 1
  child n m none e =
      let f = first_from (is_child n) nodes w.numbers 0 m e in
      let within = f.within in
      let i = nearest_is m n within (child_parts n (tree_node nodes m) f.is).0 in
      let less = before m n within i in
      let is = inside_none n (omega (arith, less, within)) (down m (suc n) n (omega arith) (omega (arith, less)) within i) none in ⊎_elim
      (λ (l : suc n < m). absurd (both_ways (is_child n (tree_node nodes (suc n))) is (f.before (suc n) (omega arith) l)))
      (λ (g : m ≤ suc n). omega (arith, g, less))
      (cases_lt (suc n) m)

  -- What stands beside: the move behind a node, where its parent is known.
  sibling_at : (n p : ℕ) → is_attribute (tree_node nodes n) ≡ false → parent nodes n ≡ Some p → next_sibling nodes n ≡ first_that (is_child p) (behind n nodes)
  sibling_at n p not_so around_it =
      ap (λ b. cond b None (by_parent (λ q. first_that (is_child q) (behind n nodes)) (parent nodes n))) not_so
      ∙ ap (by_parent (λ q. first_that (is_child q) (behind n nodes))) around_it

  attribute_at : (n p : ℕ) → is_attribute (tree_node nodes n) ≡ true → parent nodes n ≡ Some p →
      next_attribute nodes n ≡ first_that (is_attribute_of p) (behind n nodes)
  attribute_at n p is around_it =
      ap (λ b. cond b (by_parent (λ q. first_that (is_attribute_of q) (behind n nodes)) (parent nodes n)) None) is
      ∙ ap (by_parent (λ q. first_that (is_attribute_of q) (behind n nodes))) around_it

  sibling_from : (n m : ℕ) → next_sibling nodes n ≡ Some m → (is_attribute (tree_node nodes n) ≡ false) × ((p : ℕ) × (parent nodes n ≡ Some p))
  sibling_from n m e =
      let parts = sibling_parts (is_attribute (tree_node nodes n)) (parent nodes n) (λ q. first_that (is_child q) (behind n nodes)) m e in
      (parts.0, (parts.1, parts.2))

  attribute_from_move : (n m : ℕ) → next_attribute nodes n ≡ Some m → (is_attribute (tree_node nodes n) ≡ true) × ((p : ℕ) × (parent nodes n ≡ Some p))
  attribute_from_move n m e =
      let parts = attribute_move_parts (is_attribute (tree_node nodes n)) (parent nodes n) (λ q. first_that (is_attribute_of q) (behind n nodes)) m e in
      (parts.0, (parts.1, parts.2))

  next_attribute_go : (n p m : ℕ) → n < length nodes → is_attribute (tree_node nodes n) ≡ true → parent nodes n ≡ Some p →
      IsFirstFrom (is_attribute_of p) nodes (n + 1) m → m ≡ n + 1
  next_attribute_go n p zero h is around_it f = let from = f.from in absurd (omega (arith, from))
  next_attribute_go n p (suc j) h is around_it f =
      let parts = attribute_parts p (tree_node nodes (suc j)) f.is in
      let within = f.within in
      let from = f.from in
      let less = before n p h (nearest_is n p h around_it) in ⊎_elim
      (λ (e : p ≡ j). absurd (omega (arith, e, less, from)))
      (λ (other : (is_attribute (tree_node nodes j) ≡ true) × (above nodes j ≡ above nodes (suc j))). ⊎_elim
      (λ (l : n < j). absurd (both_ways (is_attribute_of p (tree_node nodes j))
      (attribute_from p (tree_node nodes j) (above nodes p) (other.1 ∙ around (suc j) p within parts.0) other.0)
      (f.before j (omega (arith, l)) (omega arith))))
      (λ (g : j ≤ n). omega (arith, g, from))
      (cases_lt n j))
      (before_attribute j p within parts.1 parts.0)

  next_attribute_is : (n m : ℕ) → n < length nodes → next_attribute nodes n ≡ Some m → m ≡ n + 1
  next_attribute_is n m h e =
      let parts = attribute_from_move n m e in
      next_attribute_go n parts.1.0 m h parts.0 parts.1.1
      (first_from (is_attribute_of parts.1.0) nodes w.numbers (n + 1) m (sym (attribute_at n parts.1.0 parts.0 parts.1.1) ∙ e))

  -- Behind all that is inside a node stands its next sibling, where that is inside its parent.
  module _ (n p last : ℕ) (h : n < length nodes) (not_so : is_attribute (tree_node nodes n) ≡ false) (around_it : parent nodes n ≡ Some p)
      (e : Ends n last) where
    parent_in : In p (above nodes n)
    parent_in = nearest_is n p h around_it

    parent_less : p < n
    parent_less = before n p h parent_in

    behind_parent : (q : ℕ) → suc last < length nodes → nearest (above nodes (suc last)) ≡ Some q → In p (above nodes q) → ⊥
    behind_parent q within is i =
        let au = around (suc last) q within is in
        let q_in = nearest_is (suc last) q within is in
        let q_less = before (suc last) q within q_in in
        let p_less = before q p (omega (arith, q_less, within)) i in
        let out = e.behind_it (suc last) (omega arith) within in
        let from = e.from in
        let last_within = e.within in
        let less = parent_less in ⊎_elim
        (λ (same : n ≡ q). out (subst (λ x. In x (above nodes (suc last))) (sym same) q_in))
        (⊎_elim
        (λ (l : n < q). ⊎_elim
        (λ (same : last ≡ n). omega (arith, same, l, q_less))
        (λ (j : In n (above nodes last)). out (subst (In n) (sym au) (inr (down last q n l (omega (arith, q_less)) last_within j))))
        e.here)
        (λ (g : q < n). ⊎_elim
        (λ (same : q ≡ last). omega (arith, same, g, from))
        (λ (j : In q (above nodes last)). ⊎_elim
        (λ (same : q ≡ p). omega (arith, same, p_less))
        (λ (k : In q (above nodes p)). let back = before p q (omega (arith, less, h)) k in omega (arith, back, p_less))
        (subst (In q) (around n p h around_it) (down last n q g from last_within j)))
        (in_next last q within q_in)))
        (cases_order n q)

    beside_parent : suc last < length nodes → In p (above nodes (suc last)) → nearest (above nodes (suc last)) ≡ Some p
    beside_parent within i =
        let some = nearest_in (above nodes (suc last)) p i in ⊎_elim
        (λ (same : p ≡ some.0). some.1 ∙ ap Some (sym same))
        (λ (j : In p (above nodes some.0)). absurd (behind_parent some.0 within some.1 j))
        (subst (In p) (around (suc last) some.0 within some.1) i)

    beside_not : suc last < length nodes → nearest (above nodes (suc last)) ≡ Some p → is_attribute (tree_node nodes (suc last)) ≡ true → ⊥
    beside_not within is so =
        let less = parent_less in
        let from = e.from in ⊎_elim
        (λ (same : p ≡ last). omega (arith, same, less, from))
        (λ (other : (is_attribute (tree_node nodes last) ≡ true) × (above nodes last ≡ above nodes (suc last))). ⊎_elim
        (λ (same : last ≡ n). both_ways (is_attribute (tree_node nodes n)) (ap (λ x. is_attribute (tree_node nodes x)) (sym same) ∙ other.0) not_so)
        (λ (j : In n (above nodes last)). e.behind_it (suc last) (omega arith) within (subst (In n) other.1 j))
        e.here)
        (before_attribute last p within so is)

    beside_it : suc last < length nodes → In p (above nodes (suc last)) → is_child p (tree_node nodes (suc last)) ≡ true
    beside_it within i =
        let is = beside_parent within i in ⊎_elim
        (λ (so : is_attribute (tree_node nodes (suc last)) ≡ true). absurd (beside_not within is so))
        (λ (child_is : is_attribute (tree_node nodes (suc last)) ≡ false). child_from p (tree_node nodes (suc last)) (above nodes p)
        (around (suc last) p within is) child_is)
        (cases_Bool (is_attribute (tree_node nodes (suc last))))

    beside_past : (m : ℕ) → IsFirstFrom (is_child p) nodes (n + 1) m → last < m
    beside_past m f =
        let from = f.from in
        let within = f.within in
        let less = parent_less in ⊎_elim
        (λ (l : last < m). l)
        (λ (g : m ≤ last). absurd (⊎_elim
        (λ (same : last ≡ n). omega (arith, same, g, from))
        (λ (j : In n (above nodes last)). ⊎_elim
        (λ (same : n ≡ p). omega (arith, same, less))
        (λ (k : In n (above nodes p)). let back = before p n (omega (arith, less, h)) k in omega (arith, back, less))
        (subst (In n) (around m p within (child_parts p (tree_node nodes m) f.is).0) (down last m n (omega (arith, from)) g e.within j)))
        e.here))
        (cases_lt last m)

    sibling_go : (m : ℕ) → IsFirstFrom (is_child p) nodes (n + 1) m → m ≡ last + 1
    sibling_go m f =
        let past = beside_past m f in
        let within = f.within in
        let from = e.from in
        let less = parent_less in
        let i = down m (suc last) p (omega (arith, less, from)) (omega (arith, past)) within
        (nearest_is m p within (child_parts p (tree_node nodes m) f.is).0) in
        let is = beside_it (omega (arith, past, within)) i in ⊎_elim
        (λ (l : suc last < m). absurd (both_ways (is_child p (tree_node nodes (suc last))) is (f.before (suc last) (omega (arith, from)) l)))
        (λ (g : m ≤ suc last). omega (arith, g, past))
        (cases_lt (suc last) m)

    last_child_go : ((k : ℕ) → n + 1 ≤ k → k < length nodes → is_child p (tree_node nodes k) ≡ false) → (outer : ℕ) → Ends p outer → outer ≡ last
    last_child_go none outer o =
        let less = parent_less in
        let from = e.from in
        let within = o.within in
        let last_within = e.within in
        let p_in : In p (above nodes last) =
        ⊎_elim (λ (same : last ≡ n). subst (λ x. In p (above nodes x)) (sym same) parent_in)
        (λ (j : In n (above nodes last)). inside last n p last_within j parent_in) e.here in ⊎_elim
        (λ (l : outer < last). absurd (o.behind_it last l last_within p_in))
        (λ (g : last ≤ outer). ⊎_elim
        (λ (l : last < outer). absurd (⊎_elim
        (λ (same : outer ≡ p). omega (arith, same, l, less, from))
        (λ (j : In p (above nodes outer)). both_ways (is_child p (tree_node nodes (suc last)))
        (beside_it (omega (arith, l, within)) (down outer (suc last) p (omega (arith, less, from)) (omega (arith, l)) within j))
        (none (suc last) (omega (arith, from)) (omega (arith, l, within))))
        o.here))
        (λ (b : outer ≤ last). omega (arith, g, b))
        (cases_lt last outer))
        (cases_lt outer last)

  sibling : (n m : ℕ) → n < length nodes → next_sibling nodes n ≡ Some m → m ≡ last_inside nodes n + 1
  sibling n m h e =
      let parts = sibling_from n m e in
      sibling_go n parts.1.0 (last_inside nodes n) h parts.0 parts.1.1 (ends n h) m
      (first_from (is_child parts.1.0) nodes w.numbers (n + 1) m (sym (sibling_at n parts.1.0 parts.0 parts.1.1) ∙ e))

  last_child : (n p : ℕ) → n < length nodes → is_attribute (tree_node nodes n) ≡ false → next_sibling nodes n ≡ None → parent nodes n ≡ Some p
      → last_inside nodes p ≡ last_inside nodes n
  last_child n p h not_so none around_it =
      let less = before n p h (nearest_is n p h around_it) in
      last_child_go n p (last_inside nodes n) h not_so around_it (ends n h)
      (none_from (is_child p) nodes (n + 1) (sym (sibling_at n p not_so around_it) ∙ none)) (last_inside nodes p) (ends p (omega (arith, less, h)))

  -- Behind the last attribute of an element stands its first child, where that is inside it.
  module _ (n p : ℕ) (h : n < length nodes) (is : is_attribute (tree_node nodes n) ≡ true) (none : next_attribute nodes n ≡ None)
      (around_it : parent nodes n ≡ Some p) where
    owner_in : In p (above nodes n)
    owner_in = nearest_is n p h around_it

    owner_less : p < n
    owner_less = before n p h owner_in

    behind_step : (next : Node) → Step (tree_node nodes n) next → In p next.above → next.above ≡ p ∷ above nodes p
    behind_step next (inner not_so inside_it) i = absurd (both_ways (is_attribute (tree_node nodes n)) is not_so)
    behind_step next (beside left is_left attributes) i =
        path_head left next.above (above nodes p) p (sym (around n p h around_it) ∙ is_left) i
        (λ j. let less = before p p (let up = owner_less in omega (arith, up, h)) j in omega (arith, less))

    behind_it : suc n < length nodes → In p (above nodes (suc n)) → is_child p (tree_node nodes (suc n)) ≡ true
    behind_it within i =
        let at = behind_step (tree_node nodes (suc n)) (w.step n within) i in ⊎_elim
        (λ (so : is_attribute (tree_node nodes (suc n)) ≡ true).
        absurd (both_ways (is_attribute_of p (tree_node nodes (suc n))) (attribute_from p (tree_node nodes (suc n)) (above nodes p) at so)
        (none_from (is_attribute_of p) nodes (n + 1) (sym (attribute_at n p is around_it) ∙ none) (suc n) (omega arith) within)))
        (λ (not_so : is_attribute (tree_node nodes (suc n)) ≡ false). child_from p (tree_node nodes (suc n)) (above nodes p) at not_so)
        (cases_Bool (is_attribute (tree_node nodes (suc n))))

    first_go : (m : ℕ) → IsFirstFrom (is_child p) nodes 0 m → m ≡ n + 1
    first_go m f =
        let parts = child_parts p (tree_node nodes m) f.is in
        let within = f.within in
        let m_in = nearest_is m p within parts.0 in
        let less = before m p within m_in in
        let up = owner_less in ⊎_elim
        (λ (l : n < m). ⊎_elim
        (λ (past : suc n < m). absurd (both_ways (is_child p (tree_node nodes (suc n)))
        (behind_it (omega (arith, past, within)) (down m (suc n) p (omega (arith, up)) (omega (arith, l)) within m_in))
        (f.before (suc n) (omega arith) past)))
        (λ (g : m ≤ suc n). omega (arith, g, l))
        (cases_lt (suc n) m))
        (λ (g : m ≤ n). absurd (both_ways (is_attribute (tree_node nodes m)) (attributes_between n m p h is around_it less g).0 parts.1))
        (cases_lt n m)

    none_go : first_child nodes p ≡ None → (outer : ℕ) → Ends p outer → outer ≡ n
    none_go no_child outer o =
        let up = owner_less in
        let within = o.within in ⊎_elim
        (λ (l : outer < n). absurd (o.behind_it n l h owner_in))
        (λ (g : n ≤ outer). ⊎_elim
        (λ (l : n < outer). absurd (⊎_elim
        (λ (same : outer ≡ p). omega (arith, same, l, up))
        (λ (j : In p (above nodes outer)). both_ways (is_child p (tree_node nodes (suc n)))
        (behind_it (omega (arith, l, within)) (down outer (suc n) p (omega (arith, up)) (omega (arith, l)) within j))
        (none_from (is_child p) nodes 0 no_child (suc n) (omega arith) (omega (arith, l, within))))
        o.here))
        (λ (b : outer ≤ n). omega (arith, g, b))
        (cases_lt n outer))
        (cases_lt outer n)

  first_behind : (n p m : ℕ) → n < length nodes → is_attribute (tree_node nodes n) ≡ true → next_attribute nodes n ≡ None → parent nodes n ≡ Some p
      → first_child nodes p ≡ Some m → m ≡ n + 1
  first_behind n p m h is none around_it e = first_go n p h is none around_it m (first_from (is_child p) nodes w.numbers 0 m e)

  none_behind : (n p : ℕ) → n < length nodes → is_attribute (tree_node nodes n) ≡ true → next_attribute nodes n ≡ None → parent nodes n ≡ Some p
      → first_child nodes p ≡ None → last_inside nodes p ≡ n
  none_behind n p h is none around_it no_child =
      let up = owner_less n p h is none around_it in
      none_go n p h is none around_it no_child (last_inside nodes p) (ends p (omega (arith, up, h)))

  -- The document has all nodes inside it.
  top : (n : ℕ) → n < length nodes → parent nodes n ≡ None → n ≡ 0
  top n h none = ⊎_elim
      (λ (l : 0 < n). let some = nearest_in (above nodes n) 0 (rooted n l h) in let not_none : ◌≡◌ {A = Option ℕ} (Some some.0) None = sym some.1 ∙ none in cc)
      (λ (g : n ≤ 0). omega (arith, g))
      (cases_lt 0 n)

  whole_go : (last : ℕ) → Ends 0 last → last + 1 ≡ length nodes
  whole_go last e =
      let within = e.within in ⊎_elim
      (λ (l : suc last < length nodes). absurd (e.behind_it (suc last) (omega arith) l (rooted (suc last) (omega arith) l)))
      (λ (g : length nodes ≤ suc last). omega (arith, g, within))
      (cases_lt (suc last) (length nodes))

  whole : (n : ℕ) → n < length nodes → parent nodes n ≡ None → last_inside nodes n + 1 ≡ length nodes
  whole n h none =
      let same = top n h none in
      ap (λ k. last_inside nodes k + 1) same ∙ whole_go (last_inside nodes 0) (ends 0 (omega (arith, h)))

  -- What is around the next node.
  next_at : (n p : ℕ) → suc n < length nodes → nearest (above nodes (suc n)) ≡ Some p → (p ≡ n) ⊎ (is_inside p (tree_node nodes n) ≡ true)
  next_at n p h e = ⊎_elim inl (λ i. inr (among_in p (above nodes n) i)) (in_next n p h (nearest_is (suc n) p h e))

  next_parent : (n : ℕ) → n + 1 < length nodes → (p : ℕ) × (parent nodes (n + 1) ≡ Some p) × ((p ≡ n) ⊎ (is_inside p (tree_node nodes n) ≡ true))
  next_parent n h =
      let within : suc n < length nodes = omega (arith, h) in
      let at : n + 1 ≡ suc n = omega arith in
      let some = nearest_in (above nodes (suc n)) 0 (w.rooted n within) in
      (some.0, ap (parent nodes) at ∙ some.1, next_at n some.0 within some.1)

  level_of : (k : ℕ) → k < length nodes → ((p : ℕ) → p < k → length (above nodes p) ≤ p) → (numbers : List ℕ) → above nodes k ≡ numbers →
      length (above nodes k) ≤ k
  level_of k h earlier [] e = let none = ap length e in omega (arith, none)
  level_of k h earlier (p ∷ numbers) e =
      let less = before k p h (nearest_is k p h (ap nearest e)) in
      let long = ap length (around k p h (ap nearest e)) in
      omega (arith, less, long, earlier p less)

  level_below : (m k : ℕ) → k < m → k < length nodes → length (above nodes k) ≤ k
  level_below zero k below h = absurd (omega (arith, below))
  level_below (suc m) k below h =
      level_of k h (λ p less. level_below m p (omega (arith, less, below)) (omega (arith, less, h))) (above nodes k) refl

  pub leads_on : (n : ℕ) → n < length nodes → LeadsOn nodes n
  leads_on n h = record {
    attribute = λ m. attribute n m;
    child = λ m. child n m;
    leaf = leaf n h;
    sibling = λ m. sibling n m h;
    last_child = λ p. last_child n p h;
    next_attribute_is = λ m. next_attribute_is n m h;
    first_behind = λ p m. first_behind n p m h;
    none_behind = λ p. none_behind n p h;
    attribute_ends = attribute_ends n h;
    around = λ p. around n p h;
    whole = whole n h;
    next_parent = next_parent n;
    level = level_below (n + 1) n (omega arith) h;
  }

pub document_leads_on : (document : Document) (tree : Forest) → HasNodesOf document tree → (n : ℕ) → n < length document.nodes → LeadsOn (tree_nodes document) n
document_leads_on document tree is n h =
    let count = length-map document.nodes (node_of document.names) in
    leads_on (tree_nodes document) (subst Walk (sym is) (document_walk tree)) n (omega (arith, h, count))
