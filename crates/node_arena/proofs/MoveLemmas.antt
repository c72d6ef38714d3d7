-- The links of a document lead where the moves of its tree do.
use Rattle.std.proofs.Common.{◌≡◌, ℕ, zero, suc, ◌+◌, ◌<◌, ◌≤◌, Bool, true, false, cond, not, ◌&&◌, ◌==◌, List, [], ◌∷◌, map, length, drop, get_or, Option}
use Rattle.std.proofs.Common.{Some, None, IfSome, option_map, subst, refl, ap, sym, ◌∙◌, arith}
use Rattle.std.specs.Prelude.{filter, find}
use Rattle.std.proofs.lemmas.List.{drop-map, get_or-map, length-map, length-drop}
use Rattle.std.proofs.lemmas.Bool.{and_right, eqb-true, false≢true}
use Rattle.std.proofs.lemmas.Option.{IfSome_then}
use Rattle.inv_base.specs.Tree.{Name, Node, is_among}
use Rattle.node_arena.specs.Document.{Placed, Document, document_node, node_at, AreNumbered}
use Rattle.node_arena.specs.Moves.{node_of, tree_nodes, tree_node, Leads, behind, nearest, is_nearest, is_child, is_attribute_of, is_inside, is_named}
use Rattle.node_arena.specs.Moves.{first_that, last_that, parent, first_child, next_sibling, last_inside, first_attribute, next_attribute, first_named}
use Rattle.node_arena.specs.Moves.{next_named}
use Rattle.node_arena.specs.Keys.{is_attribute_kind, key_of, has_key, first_keyed, next_keyed, keys}
use Rattle.node_arena.specs.Slots.{kept, last_among, last_kept}
use Rattle.node_arena.specs.Linked.{IsLinked}
use Rattle.node_arena.specs.declared.chains.Family.{Family}
use Rattle.node_arena.specs.declared.chains.Family.TheVariants as families
use Rattle.node_arena.specs.declared.chains.Links.{Links}
use Rattle.node_arena.specs.declared.slot.Slot.{Slot}
use Rattle.node_arena.proofs.KeptLemmas.{kept_length, kept_numbers, parent_below}

-- numbers of what is left
numbers-drop : (k n : ℕ) (nodes : List Placed) → AreNumbered n nodes → AreNumbered (n + k) (drop k nodes)
numbers-drop zero n nodes h = subst (λ m. AreNumbered m nodes) (omega arith) h
numbers-drop (suc k) n [] h = tt
numbers-drop (suc k) n (node ∷ nodes) h = subst (λ m. AreNumbered m (drop k nodes)) (omega arith) (numbers-drop k (n + 1) nodes h.1)

key_is : (key : ℕ) (k : Option ℕ) → has_key key k ≡ true → k ≡ Some key
key_is key None is = absurd (false≢true is)
key_is key (Some k) is = ap Some (eqb-true k key is)

-- the first of a chain is the first of its sort
first_found : (b : Bool) (n : ℕ) (node : Node) (o : Option ℕ) (found : Option Node) → node.number ≡ n → o ≡ option_map (λ (x : Node). x.number) found
    → cond b (Some n) o ≡ option_map (λ (x : Node). x.number) (cond b (Some node) found)
first_found true n node o found same rest = ap Some (sym same)
first_found false n node o found same rest = rest

module _ (family : Family) (names : List Name) (key : ℕ) (is_so : Node → Bool)
    (same : (node : Placed) → has_key key (key_of family node) ≡ is_so (node_of names node)) where
  pub first_is : (n : ℕ) (nodes : List Placed) → AreNumbered n nodes → first_keyed key n (keys family nodes) ≡ first_that is_so (map (node_of names) nodes)
  first_is n [] h = refl
  first_is n (node ∷ nodes) h =
      ap (λ b. cond b (Some n) (first_keyed key (n + 1) (keys family nodes))) (same node)
      ∙ first_found (is_so (node_of names node)) n (node_of names node) (first_keyed key (n + 1) (keys family nodes))
      (find is_so (map (node_of names) nodes)) h.0
      (first_is (n + 1) nodes h.1)

  pub next_is : (n : ℕ) (nodes : List Placed) → AreNumbered 0 nodes
      → first_keyed key (n + 1) (drop (n + 1) (keys family nodes)) ≡ first_that is_so (behind n (map (node_of names) nodes))
  next_is n nodes h =
      ap (first_keyed key (n + 1)) (drop-map (key_of family) (n + 1) nodes)
      ∙ (first_is (n + 1) (drop (n + 1) nodes) (subst (λ m. AreNumbered m (drop (n + 1) nodes)) (omega arith) (numbers-drop (n + 1) 0 nodes h))
      ∙ ap (first_that is_so) (sym (drop-map (node_of names) (n + 1) nodes)))

and_true : (b : Bool) → b ≡ (b && true)
and_true true = refl
and_true false = refl

child_key : (key : ℕ) (b : Bool) (above : List ℕ) → has_key key (cond b None (nearest above)) ≡ (is_nearest key above && not b)
child_key key true above = sym (and_right (is_nearest key above) false refl)
child_key key false [] = refl
child_key key false (m ∷ above) = and_true (m == key)

attribute_key : (key : ℕ) (b : Bool) (above : List ℕ) → has_key key (cond b (nearest above) None) ≡ (is_nearest key above && b)
attribute_key key false above = sym (and_right (is_nearest key above) false refl)
attribute_key key true [] = refl
attribute_key key true (m ∷ above) = and_true (m == key)

child_test : (names : List Name) (key : ℕ) (node : Placed) → has_key key (key_of families.Children node) ≡ is_child key (node_of names node)
child_test names key node = child_key key (is_attribute_kind node.kind) node.above

attribute_test : (names : List Name) (key : ℕ) (node : Placed) → has_key key (key_of families.Attributes node) ≡ is_attribute_of key (node_of names node)
attribute_test names key node = attribute_key key (is_attribute_kind node.kind) node.above

-- the next of a chain
abbrev next_by : Option ℕ → (ℕ → Option ℕ) → Option ℕ → Option ℕ
next_by other next None = other
next_by other next (Some key) = next key

next_same : (other : Option ℕ) (f g : ℕ → Option ℕ) → ((key : ℕ) → f key ≡ g key) → (o : Option ℕ) → next_by other f o ≡ next_by other g o
next_same other f g same None = refl
next_same other f g same (Some key) = same key

next_keyed-by : (other : Option ℕ) (n : ℕ) (keyed : List (Option ℕ)) (key : Option ℕ) → get_or keyed n None ≡ key
    → next_keyed other n keyed ≡ next_by other (λ k. first_keyed k (n + 1) (drop (n + 1) keyed)) key
next_keyed-by other n keyed key is = ap (next_by other (λ k. first_keyed k (n + 1) (drop (n + 1) keyed))) is

module _ (names : List Name) (nodes : List Placed) (numbered : AreNumbered 0 nodes) (n : ℕ) (within : n < length nodes) where
  all : List Node
  all = map (node_of names) nodes

  node : Placed
  node = node_at nodes n

  at : tree_node all n ≡ node_of names node
  unfolding all node
  at = get_or-map (node_of names) nodes n document_node _ within

  key_at : (family : Family) → get_or (keys family nodes) n None ≡ key_of family node
  unfolding node
  key_at family = get_or-map (key_of family) nodes n document_node None within

  pub child_first : first_keyed n 0 (keys families.Children nodes) ≡ first_child (map (node_of names) nodes) n
  child_first = first_is families.Children names n (is_child n) (child_test names n) 0 nodes numbered

  pub attribute_first : first_keyed n 0 (keys families.Attributes nodes) ≡ first_attribute (map (node_of names) nodes) n
  attribute_first = first_is families.Attributes names n (is_attribute_of n) (attribute_test names n) 0 nodes numbered

  -- what both kinds of links beside hold
  beside : Option ℕ
  beside = next_keyed (next_keyed None n (keys families.Children nodes)) n (keys families.Attributes nodes)

  child_beside : is_attribute_kind node.kind ≡ false → beside ≡ next_by None (λ p. first_that (is_child p) (behind n all)) (nearest node.above)
  unfolding all node beside
  child_beside not_so =
      next_keyed-by (next_keyed None n (keys families.Children nodes)) n (keys families.Attributes nodes) None
      (key_at families.Attributes ∙ ap (λ b. cond b (nearest (node_at nodes n).above) None) not_so)
      ∙ (next_keyed-by None n (keys families.Children nodes) (nearest (node_at nodes n).above)
      (key_at families.Children ∙ ap (λ b. cond b None (nearest (node_at nodes n).above)) not_so)
      ∙ next_same None (λ p. first_keyed p (n + 1) (drop (n + 1) (keys families.Children nodes)))
      (λ p. first_that (is_child p) (behind n (map (node_of names) nodes)))
      (λ p. next_is families.Children names p (is_child p) (child_test names p) n nodes numbered) (nearest (node_at nodes n).above))

  -- a document and an element whose kind is attribute have not_so ancestor in common, so the other chain has no say
  attribute_beside : is_attribute_kind node.kind ≡ true → beside ≡ next_by None (λ p. first_that (is_attribute_of p) (behind n all)) (nearest node.above)
  unfolding all node beside
  attribute_beside is_so =
      let none : next_keyed None n (keys families.Children nodes) ≡ None =
      next_keyed-by None n (keys families.Children nodes) None (key_at families.Children ∙ ap (λ b. cond b None (nearest (node_at nodes n).above)) is_so) in
      ap (λ other. next_keyed other n (keys families.Attributes nodes)) none
      ∙ (next_keyed-by None n (keys families.Attributes nodes) (nearest (node_at nodes n).above)
      (key_at families.Attributes ∙ ap (λ b. cond b (nearest (node_at nodes n).above) None) is_so)
      ∙ next_same None (λ p. first_keyed p (n + 1) (drop (n + 1) (keys families.Attributes nodes)))
      (λ p. first_that (is_attribute_of p) (behind n (map (node_of names) nodes)))
      (λ p. next_is families.Attributes names p (is_attribute_of p) (attribute_test names p) n nodes numbered) (nearest (node_at nodes n).above))

  pub sibling_none : is_attribute_kind (node_at nodes n).kind ≡ true → None ≡ next_sibling (map (node_of names) nodes) n
  unfolding all node
  sibling_none is_so =
      let spec : Node → Option ℕ = λ x. cond (is_attribute_kind x.kind) None
      (next_by None (λ p. first_that (is_child p) (behind n (map (node_of names) nodes))) (nearest x.above)) in
      sym (ap spec at ∙ ap (λ b. cond b None (next_by None (λ p. first_that (is_child p) (behind n (map (node_of names) nodes)))
      (nearest (node_at nodes n).above))) is_so)

  pub sibling_is : is_attribute_kind (node_at nodes n).kind ≡ false
      → next_keyed (next_keyed None n (keys families.Children nodes)) n (keys families.Attributes nodes) ≡ next_sibling (map (node_of names) nodes) n
  unfolding all node beside
  sibling_is not_so =
      let spec : Node → Option ℕ = λ x. cond (is_attribute_kind x.kind) None
      (next_by None (λ p. first_that (is_child p) (behind n (map (node_of names) nodes))) (nearest x.above)) in
      child_beside not_so
      ∙ sym (ap spec at ∙ ap (λ b. cond b None (next_by None (λ p. first_that (is_child p) (behind n (map (node_of names) nodes)))
      (nearest (node_at nodes n).above))) not_so)

  pub attribute_none : is_attribute_kind (node_at nodes n).kind ≡ false → None ≡ next_attribute (map (node_of names) nodes) n
  unfolding all node
  attribute_none not_so =
      let spec : Node → Option ℕ = λ x. cond (is_attribute_kind x.kind)
      (next_by None (λ p. first_that (is_attribute_of p) (behind n (map (node_of names) nodes))) (nearest x.above)) None in
      sym (ap spec at ∙ ap (λ b. cond b (next_by None (λ p. first_that (is_attribute_of p) (behind n (map (node_of names) nodes)))
      (nearest (node_at nodes n).above)) None) not_so)

  pub attribute_is : is_attribute_kind (node_at nodes n).kind ≡ true
      → next_keyed (next_keyed None n (keys families.Children nodes)) n (keys families.Attributes nodes) ≡ next_attribute (map (node_of names) nodes) n
  unfolding all node beside
  attribute_is is_so =
      let spec : Node → Option ℕ = λ x. cond (is_attribute_kind x.kind)
      (next_by None (λ p. first_that (is_attribute_of p) (behind n (map (node_of names) nodes))) (nearest x.above)) None in
      attribute_beside is_so
      ∙ sym (ap spec at ∙ ap (λ b. cond b (next_by None (λ p. first_that (is_attribute_of p) (behind n (map (node_of names) nodes)))
      (nearest (node_at nodes n).above)) None) is_so)

  pub parent_is : nearest (node_at nodes n).above ≡ parent (map (node_of names) nodes) n
  unfolding all node
  parent_is = sym (ap (λ (x : Node). nearest x.above) at)

-- the last inside
last_same : (names : List Name) (n m : ℕ) (nodes : List Placed) → last_among n m nodes ≡ last_that (is_inside n) m (map (node_of names) nodes)
last_same names n m [] = refl
last_same names n m (node ∷ nodes) = last_same names n (cond (is_among n node.above) node.number m) nodes

pub last_is : (names : List Name) (nodes : List Placed) (n : ℕ) → last_kept nodes n ≡ last_inside (map (node_of names) nodes) n
unfolding last_kept
last_is names nodes n = last_same names n n (drop (n + 1) nodes) ∙ ap (last_that (is_inside n) n) (sym (drop-map (node_of names) (n + 1) nodes))

either : (b : Bool) (n m k number : ℕ) → number ≡ k → m < k → n ≤ m → (n ≤ cond b number m) × (cond b number m < k + 1)
either true n m k number is below above = (omega (arith, is, below, above), omega (arith, is))
either false n m k number is below above = (above, omega (arith, below))

last_bounds : (n m k : ℕ) (nodes : List Placed) → AreNumbered k nodes → m < k → n ≤ m → (n ≤ last_among n m nodes) × (last_among n m nodes < k + length nodes)
last_bounds n m k [] h below above = (above, omega (arith, below))
last_bounds n m k (first ∷ nodes) h below above =
    let here = either (is_among n first.above) n m k first.number h.0 below above in
    let rest = last_bounds n (cond (is_among n first.above) first.number m) (k + 1) nodes h.1 here.1 here.0 in
    (rest.0, omega (arith, rest.1))

pub last_within : (nodes : List Placed) (n : ℕ) → AreNumbered 0 nodes → n < length nodes → (n ≤ last_kept nodes n) × (last_kept nodes n < length nodes)
unfolding last_kept
last_within nodes n numbered h =
    let bounds = last_bounds n n (n + 1) (drop (n + 1) nodes)
    (subst (λ m. AreNumbered m (drop (n + 1) nodes)) (omega arith) (numbers-drop (n + 1) 0 nodes numbered)) (omega arith) (omega arith) in
    let long = length-drop (n + 1) nodes in
    (bounds.0, omega (arith, bounds.1, long, h))

-- the chains of names
chain_found : (b : Bool) (n : ℕ) (node : Placed) (o : Option ℕ) (nodes : List Placed) → node.number ≡ n → o ≡ nearest (map (λ (x : Placed). x.number) nodes)
    → cond b (Some n) o ≡ nearest (map (λ (x : Placed). x.number) (cond b (node ∷ nodes) nodes))
chain_found true n first o nodes same rest = ap Some (sym same)
chain_found false n first o nodes same rest = rest

named_test : (name : ℕ) (k : Option ℕ) → has_key name k ≡ (elim k [ None ↦ false | Some m ↦ m == name ])
named_test name None = refl
named_test name (Some k) = refl

pub chain_first : (name n : ℕ) (nodes : List Placed) → AreNumbered n nodes → first_keyed name n (keys families.Named nodes) ≡ first_named nodes name
chain_first name n [] h = refl
chain_first name n (node ∷ nodes) h =
    ap (λ b. cond b (Some n) (first_keyed name (n + 1) (keys families.Named nodes))) (named_test name node.name)
    ∙ chain_found (is_named name node) n node (first_keyed name (n + 1) (keys families.Named nodes)) (filter (is_named name) nodes) h.0
    (chain_first name (n + 1) nodes h.1)

pub chain_next : (nodes : List Placed) (n : ℕ) → AreNumbered 0 nodes → n < length nodes → next_keyed None n (keys families.Named nodes) ≡ next_named nodes n
chain_next nodes n numbered within =
    next_keyed-by None n (keys families.Named nodes) (node_at nodes n).name (get_or-map (key_of families.Named) nodes n document_node None within)
    ∙ next_same None (λ name. first_keyed name (n + 1) (drop (n + 1) (keys families.Named nodes))) (λ name. first_named (drop (n + 1) nodes) name)
    (λ name. ap (first_keyed name (n + 1)) (drop-map (key_of families.Named) (n + 1) nodes)
    ∙ chain_first name (n + 1) (drop (n + 1) nodes) (subst (λ m. AreNumbered m (drop (n + 1) nodes)) (omega arith) (numbers-drop (n + 1) 0 nodes numbered)))
    (node_at nodes n).name

-- where links lead
abbrev LeadsTo : ℕ → ℕ → List (Option ℕ) → ℕ → Type 0
LeadsTo key n keyed m = (i : ℕ) × (m ≡ n + i) × (i < length keyed) × (get_or keyed i None ≡ Some key)

some_either : (b : Bool) (n : ℕ) (o : Option ℕ) (P : ℕ → Type 0) → (b ≡ true → P n) → IfSome o P → IfSome (cond b (Some n) o) P
some_either true n o P here rest = here refl
some_either false n o P here rest = rest

first_leads : (key n : ℕ) (keyed : List (Option ℕ)) → IfSome (first_keyed key n keyed) (LeadsTo key n keyed)
first_leads key n [] = tt
first_leads key n (k ∷ keyed) =
    some_either (has_key key k) n (first_keyed key (n + 1) keyed) (LeadsTo key n (k ∷ keyed))
    (λ is. (0, omega arith, omega arith, key_is key k is))
    (IfSome_then (first_keyed key (n + 1) keyed) (first_leads key (n + 1) keyed) (λ m led. (suc led.0, omega (arith, led.1), omega (arith, led.2), led.3)))

next_leads : (n : ℕ) (keyed : List (Option ℕ)) → n < length keyed → (key : ℕ)
    → IfSome (first_keyed key (n + 1) (drop (n + 1) keyed)) (λ m. (n < m) × (m < length keyed))
next_leads n keyed within key =
    let long = length-drop (n + 1) keyed in
    IfSome_then (first_keyed key (n + 1) (drop (n + 1) keyed)) (first_leads key (n + 1) (drop (n + 1) keyed))
    (λ m led. (omega (arith, led.1), omega (arith, led.1, led.2, long)))

by_either : (other : Option ℕ) (next : ℕ → Option ℕ) (P : ℕ → Type 0) → IfSome other P → ((key : ℕ) → IfSome (next key) P) → (o : Option ℕ)
    → IfSome (next_by other next o) P
by_either other next P none some None = none
by_either other next P none some (Some key) = some key

next_bounds : (other : Option ℕ) (n : ℕ) (keyed : List (Option ℕ)) → n < length keyed → IfSome other (λ m. (n < m) × (m < length keyed))
    → IfSome (next_keyed other n keyed) (λ m. (n < m) × (m < length keyed))
next_bounds other n keyed within bounds =
    by_either other (λ key. first_keyed key (n + 1) (drop (n + 1) keyed)) (λ m. (n < m) × (m < length keyed)) bounds (next_leads n keyed within)
    (get_or keyed n None)

first_bounds : (n : ℕ) (keyed : List (Option ℕ)) → ((m : ℕ) → m < length keyed → get_or keyed m None ≡ Some n → n < m)
    → IfSome (first_keyed n 0 keyed) (λ m. (n < m) × (m < length keyed))
first_bounds n keyed behind_it =
    IfSome_then (first_keyed n 0 keyed) (first_leads n 0 keyed)
    (λ m led. let at : m ≡ led.0 = omega (arith, led.1) in
    (behind_it m (omega (arith, at, led.2)) (ap (λ i. get_or keyed i None) at ∙ led.3), omega (arith, at, led.2)))

key_if_not : (b : Bool) (o : Option ℕ) (n : ℕ) → cond b None o ≡ Some n → o ≡ Some n
key_if_not true o n is = cc
key_if_not false o n is = is

key_if_so : (b : Bool) (o : Option ℕ) (n : ℕ) → cond b o None ≡ Some n → o ≡ Some n
key_if_so true o n is = is
key_if_so false o n is = cc

-- The moves of a document that is kept.
module _ (slots : List Slot) (node_ends : List ℕ) (links : Links) (names : List Name) (linked : IsLinked slots node_ends links names) (n : ℕ)
    (within : n < length (kept slots)) where
  kept_child : get_or links.first_child.items n None ≡ first_child (map (node_of names) (kept slots)) n
  kept_child = linked.linked.first_child n within ∙ child_first names (kept slots) (kept_numbers slots) n within

  kept_attribute : get_or links.first_attribute.items n None ≡ first_attribute (map (node_of names) (kept slots)) n
  kept_attribute = linked.linked.first_attribute n within ∙ attribute_first names (kept slots) (kept_numbers slots) n within

  around_before : (m : ℕ) → m < length (kept slots) → nearest (node_at (kept slots) m).above ≡ Some n → n < m
  around_before m h is =
      subst (λ o. IfSome o (λ p. p < m)) is (parent_below slots m linked.below (omega (arith, h, kept_length slots)))

  behind_child : IfSome (get_or links.first_child.items n None) (λ m. (n < m) × (m < length (kept slots)))
  behind_child =
      let count = length-map (kept slots) (key_of families.Children) in
      subst (λ o. IfSome o (λ m. (n < m) × (m < length (kept slots)))) (sym (linked.linked.first_child n within))
      (subst (λ all. IfSome (first_keyed n 0 (keys families.Children (kept slots))) (λ m. (n < m) × (m < all))) count
      (first_bounds n (keys families.Children (kept slots)) (λ m h is. around_before m (omega (arith, h, count))
      (key_if_not (is_attribute_kind (node_at (kept slots) m).kind) (nearest (node_at (kept slots) m).above) n
      (sym (get_or-map (key_of families.Children) (kept slots) m document_node None (omega (arith, h, count))) ∙ is)))))

  behind_attribute : IfSome (get_or links.first_attribute.items n None) (λ m. (n < m) × (m < length (kept slots)))
  behind_attribute =
      let count = length-map (kept slots) (key_of families.Attributes) in
      subst (λ o. IfSome o (λ m. (n < m) × (m < length (kept slots)))) (sym (linked.linked.first_attribute n within))
      (subst (λ all. IfSome (first_keyed n 0 (keys families.Attributes (kept slots))) (λ m. (n < m) × (m < all))) count
      (first_bounds n (keys families.Attributes (kept slots)) (λ m h is. around_before m (omega (arith, h, count))
      (key_if_so (is_attribute_kind (node_at (kept slots) m).kind) (nearest (node_at (kept slots) m).above) n
      (sym (get_or-map (key_of families.Attributes) (kept slots) m document_node None (omega (arith, h, count))) ∙ is)))))

  behind_of : (family : Family) (other : Option ℕ) → IfSome other (λ m. (n < m) × (m < length (kept slots)))
      → IfSome (next_keyed other n (keys family (kept slots))) (λ m. (n < m) × (m < length (kept slots)))
  behind_of family other bounds =
      let count = length-map (kept slots) (key_of family) in
      subst (λ all. IfSome (next_keyed other n (keys family (kept slots))) (λ m. (n < m) × (m < all))) count
      (next_bounds other n (keys family (kept slots)) (omega (arith, within, count))
      (subst (λ all. IfSome other (λ m. (n < m) × (m < all))) (sym count) bounds))

  behind_beside : IfSome (get_or links.next_beside.items n None) (λ m. (n < m) × (m < length (kept slots)))
  behind_beside =
      subst (λ o. IfSome o (λ m. (n < m) × (m < length (kept slots)))) (sym (linked.linked.next_beside n within))
      (behind_of families.Attributes (next_keyed None n (keys families.Children (kept slots))) (behind_of families.Children None tt))

  behind_named : IfSome (get_or links.next_named.items n None) (λ m. (n < m) × (m < length (kept slots)))
  behind_named =
      subst (λ o. IfSome o (λ m. (n < m) × (m < length (kept slots)))) (sym (linked.linked.next_named n within)) (behind_of families.Named None tt)

-- A move as a document answers it: the value that the link has, what that is in the tree, and where it leads.
abbrev as_document : List Slot → List Name → Document
as_document slots names = record { nodes = kept slots; names = names }

pub record Answers (document : Document) (n : ℕ) (answer : Option ℕ) (move : List Node → ℕ → Option ℕ) : Type 0 where
  pub node : answer ≡ move (tree_nodes document) n
  pub behind_it : IfSome answer (λ m. (n < m) × (m < length document.nodes))

module _ (slots : List Slot) (node_ends : List ℕ) (links : Links) (names : List Name) (document : Document)
    (linked : IsLinked slots node_ends links names) (seen : as_document slots names ≡ document) (n : ℕ) (within : n < length document.nodes) where
  inside : n < length (kept slots)
  inside = subst (λ (d : Document). n < length d.nodes) (sym seen) within

  pub answers_child : Answers document n (get_or links.first_child.items n None) first_child
  answers_child = subst (λ d. Answers d n (get_or links.first_child.items n None) first_child) seen
      (record { node = kept_child slots node_ends links names linked n inside; behind_it = behind_child slots node_ends links names linked n inside })

  pub answers_attribute : Answers document n (get_or links.first_attribute.items n None) first_attribute
  answers_attribute = subst (λ d. Answers d n (get_or links.first_attribute.items n None) first_attribute) seen
      (record { node = kept_attribute slots node_ends links names linked n inside; behind_it = behind_attribute slots node_ends links names linked n inside })

  kind_seen : (b : Bool) → is_attribute_kind (node_at document.nodes n).kind ≡ b → is_attribute_kind (node_at (kept slots) n).kind ≡ b
  kind_seen b is = ap (λ (d : Document). is_attribute_kind (node_at d.nodes n).kind) seen ∙ is

  pub answers_sibling : is_attribute_kind (node_at document.nodes n).kind ≡ false → Answers document n (get_or links.next_beside.items n None) next_sibling
  answers_sibling is = subst (λ d. Answers d n (get_or links.next_beside.items n None) next_sibling) seen
      (record {
        node = linked.linked.next_beside n inside ∙ sibling_is names (kept slots) (kept_numbers slots) n inside (kind_seen false is);
        behind_it = behind_beside slots node_ends links names linked n inside;
      })

  pub answers_no_sibling : is_attribute_kind (node_at document.nodes n).kind ≡ true → Answers document n None next_sibling
  answers_no_sibling is = subst (λ d. Answers d n None next_sibling) seen
      (record { node = sibling_none names (kept slots) (kept_numbers slots) n inside (kind_seen true is); behind_it = tt })

  pub answers_next_attribute : is_attribute_kind (node_at document.nodes n).kind ≡ true →
      Answers document n (get_or links.next_beside.items n None) next_attribute
  answers_next_attribute is = subst (λ d. Answers d n (get_or links.next_beside.items n None) next_attribute) seen
      (record {
        node = linked.linked.next_beside n inside ∙ attribute_is names (kept slots) (kept_numbers slots) n inside (kind_seen true is);
        behind_it = behind_beside slots node_ends links names linked n inside;
      })

  pub answers_no_attribute : is_attribute_kind (node_at document.nodes n).kind ≡ false → Answers document n None next_attribute
  answers_no_attribute is = subst (λ d. Answers d n None next_attribute) seen
      (record { node = attribute_none names (kept slots) (kept_numbers slots) n inside (kind_seen false is); behind_it = tt })

  pub answers_named : (get_or links.next_named.items n None ≡ next_named document.nodes n) ×
      IfSome (get_or links.next_named.items n None) (λ m. (n < m) × (m < length document.nodes))
  answers_named = subst (λ (d : Document). (get_or links.next_named.items n None ≡ next_named d.nodes n) ×
      IfSome (get_or links.next_named.items n None) (λ m. (n < m) × (m < length d.nodes))) seen
      (linked.linked.next_named n inside ∙ chain_next (kept slots) n (kept_numbers slots) inside, behind_named slots node_ends links names linked n inside)

  pub answers_last : (get_or node_ends n 0 ≡ last_inside (tree_nodes document) n) ×
      ((n ≤ get_or node_ends n 0) × (get_or node_ends n 0 < length document.nodes))
  answers_last =
      let here = inside in
      let is = linked.ends_are n (omega (arith, here, kept_length slots)) in
      subst (λ (d : Document). (get_or node_ends n 0 ≡ last_inside (tree_nodes d) n) × ((n ≤ get_or node_ends n 0) × (get_or node_ends n 0 < length d.nodes)))
      seen
      (is ∙ last_is names (kept slots) n, subst (λ m. (n ≤ m) × (m < length (kept slots))) (sym is) (last_within (kept slots) n (kept_numbers slots) inside))

  pub answers_parent : (o : Option ℕ) → o ≡ nearest (node_at (kept slots) n).above → o ≡ parent (tree_nodes document) n
  answers_parent o is = subst (λ d. o ≡ parent (tree_nodes d) n) seen (is ∙ parent_is names (kept slots) (kept_numbers slots) n inside)

pub answers_first : (slots : List Slot) (node_ends : List ℕ) (links : Links) (names : List Name) (document : Document)
    (linked : IsLinked slots node_ends links names)
    → as_document slots names ≡ document → (name : ℕ) → name < length document.names
    → (get_or links.first_named.items name None ≡ first_named document.nodes name) ×
    IfSome (get_or links.first_named.items name None) (λ m. m < length document.nodes)
answers_first slots node_ends links names document linked seen name h =
    let inside : name < length names = subst (λ (d : Document). name < length d.names) (sym seen) h in
    let is = linked.linked.first_named name inside in
    let count = length-map (kept slots) (key_of families.Named) in
    subst (λ (d : Document). (get_or links.first_named.items name None ≡ first_named d.nodes name) ×
    IfSome (get_or links.first_named.items name None) (λ m. m < length d.nodes)) seen (
      is ∙ chain_first name 0 (kept slots) (kept_numbers slots),
      subst (λ o. IfSome o (λ m. m < length (kept slots))) (sym is)
          (IfSome_then (first_keyed name 0 (keys families.Named (kept slots))) (first_leads name 0 (keys families.Named (kept slots)))
          (λ m led. omega (arith, led.1, led.2, count))),
    )

-- A move by the link that is kept for it.
pub moved : (document : Document) (n : ℕ) (links kept_links : List (Option ℕ)) (answer where_to : Option ℕ) (before after : ℕ)
    → answer ≡ get_or links n None → links ≡ kept_links → get_or kept_links n None ≡ where_to
    → IfSome (get_or kept_links n None) (λ m. (n < m) × (m < length document.nodes)) → after ≡ before + 1
    → Leads document n where_to answer before after
moved document n links kept_links answer where_to before after answered same is behind_it step =
    let found : answer ≡ get_or kept_links n None = answered ∙ ap (λ all. get_or all n None) same in
    record {
      node = found ∙ is;
      behind = subst (λ o. IfSome o (λ m. (n < m) × (m < length document.nodes))) (sym found) behind_it;
      step = step;
    }

-- A move that leads nowhere.
pub not_moved : (document : Document) (n : ℕ) (where_to : Option ℕ) (before after : ℕ) → None ≡ where_to → after ≡ before + 1 →
    Leads document n where_to None before after
not_moved document n where_to before after is step = record { node = is; behind = tt; step = step }
