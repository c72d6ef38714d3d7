-- The nodes of a document are in order.
use Rattle.std.proofs.Common.{◌≡◌, ℕ, zero, suc, ◌+◌, ◌<◌, ◌≤◌, true, false, ◌==◌, ⊎_elim, List, [], ◌∷◌, length, Some, refl, ap, sym, ◌∙◌, arith}
use Rattle.std.specs.Prelude.{nat_lt, nat_le}
use Rattle.std.specs.List.{All}
use Rattle.std.proofs.lemmas.Bool.{cases_lt, false≢true, and_parts, and_from, or_cases, or_left, eqb-true, eq-eqb, ltb-true, leb-true, lt-ltb, le-leb}
use Rattle.std.proofs.lemmas.List.{length-map, get_or_past}
use Rattle.std.proofs.lemmas.List.Elements.{All-nil, All-cons, All-append}
use Rattle.inv_base.specs.Tree.{Forest, no_more, a_text, an_element, Attribute, Node, nodes_of, nodes_of_attributes, is_among}
use Rattle.node_arena.specs.Document.{Document, AreNumbered}
use Rattle.node_arena.specs.Moves.{tree_nodes, tree_node, node_of, nearest, is_inside, is_between, last_inside, HasNodesOf}
use Rattle.node_arena.specs.Walks.{LeadsOn}
use Rattle.schematron_entries.specs.Order.{AreInOrder, is_document, first_or_zero, up}
use Rattle.schematron_entries.proofs.ReadLemmas.{number_is}

-- ---- only the first is the document's own

abbrev IsInner : Node → Type 0
IsInner node = is_document node ≡ false

attributes_inner : (above : List ℕ) (n : ℕ) (attributes : List Attribute) → All IsInner (nodes_of_attributes above n attributes)
attributes_inner above n [] = All-nil IsInner
attributes_inner above n (attribute ∷ attributes) = All-cons IsInner _ _ refl (attributes_inner above (n + 1) attributes)

nodes_inner : (above : List ℕ) (n : ℕ) (forest : Forest) → All IsInner (nodes_of above n forest)
nodes_inner above n no_more = All-nil IsInner
nodes_inner above n (a_text characters rest) = All-cons IsInner _ _ refl (nodes_inner above (n + 1) rest)
nodes_inner above n (an_element name attributes inside rest) = All-cons IsInner _ _ refl
    (All-append IsInner _ _ (attributes_inner (n ∷ above) (n + 1) attributes)
    (All-append IsInner _ _ (nodes_inner (n ∷ above) _ inside) (nodes_inner above _ rest)))

inner_at : (nodes : List Node) (node : Node) (behind : List Node) → nodes ≡ node ∷ behind → All IsInner behind → (n : ℕ) → 0 < n → n < length nodes →
    is_document (tree_node nodes n) ≡ false
inner_at nodes node behind e all zero l h = absurd (omega (arith, l))
inner_at nodes node behind e all (suc n) l h = ap (λ xs. is_document (tree_node xs (suc n))) e ∙ all n _ (omega (arith, h, ap length e))

-- ---- what is between

first_among : (above : List ℕ) → 0 < first_or_zero above → is_among (first_or_zero above) above ≡ true
first_among [] h = absurd (omega (arith, h))
first_among (n ∷ above) h = or_left (n == n) (is_among n above) (eq-eqb n n refl)

nearest_is : (p : ℕ) (above : List ℕ) → is_among p above ≡ true → nearest above ≡ Some (first_or_zero above)
nearest_is p [] h = absurd (false≢true h)
nearest_is p (n ∷ above) h = refl

module _ (nodes : List Node) (leads : (n : ℕ) → n < length nodes → LeadsOn nodes n)
    (intervals : (n k : ℕ) → n < length nodes → k < length nodes → is_inside n (tree_node nodes k) ≡ is_between n (last_inside nodes n) k) where
  parts : (p k : ℕ) → p < length nodes → k < length nodes → is_inside p (tree_node nodes k) ≡ true → (p < k) × (k ≤ last_inside nodes p)
  parts p k h l is =
      let both = and_parts (nat_lt p k) (nat_le k (last_inside nodes p)) (sym (intervals p k h l) ∙ is) in
      (ltb-true p k both.0, leb-true k (last_inside nodes p) both.1)

  -- what is inside a node stands in it or in one behind it
  not_before : (p m : ℕ) → p < length nodes → m < length nodes → is_inside p (tree_node nodes m) ≡ true → p ≤ up nodes m
  not_before p m h l is =
      let q : ℕ = up nodes m in
      let around : (tree_node nodes m).above ≡ q ∷ (tree_node nodes q).above = (leads m l).around q (nearest_is p (tree_node nodes m).above is) in
      ⊎_elim
      (λ (here : (p == q) ≡ true). omega (arith, eqb-true p q here))
      (λ (above : is_inside p (tree_node nodes q) ≡ true).
      ⊎_elim
      (λ (k : q < length nodes). omega (arith, (parts p q h k above).0))
      (λ (past : length nodes ≤ q). absurd (false≢true (sym (ap (λ (node : Node). is_inside p node) (get_or_past nodes q _ past)) ∙ above)))
      (cases_lt q (length nodes)))
      (or_cases (p == q) (is_inside p (tree_node nodes q)) (sym (ap (is_among p) around) ∙ is))

  pub nested : (n m : ℕ) → n < length nodes → up nodes n < m → m < n → up nodes n ≤ up nodes m
  nested n m h l g =
      let p : ℕ = up nodes n in
      ⊎_elim
      (λ (some : 0 < p).
      let within : n ≤ last_inside nodes p = (parts p n (omega (arith, l, g, h)) h (first_among (tree_node nodes n).above some)).1 in
      not_before p m (omega (arith, l, g, h)) (omega (arith, g, h))
      (intervals p m (omega (arith, l, g, h)) (omega (arith, g, h)) ∙
      and_from (nat_lt p m) (nat_le m (last_inside nodes p)) (lt-ltb p m l) (le-leb m (last_inside nodes p) (omega (arith, within, g)))))
      (λ (none : p ≤ 0). omega (arith, none))
      (cases_lt 0 p)

pub in_order : (d : Document) (tree : Forest) → HasNodesOf d tree → AreNumbered 0 d.nodes → ((n : ℕ) → n < length d.nodes → LeadsOn (tree_nodes d) n)
    → ((n k : ℕ) → n < length d.nodes → k < length d.nodes → is_inside n (tree_node (tree_nodes d) k) ≡ is_between n (last_inside (tree_nodes d) n) k) →
    AreInOrder (tree_nodes d)
in_order d tree is numbers leads intervals =
    let long : length (tree_nodes d) ≡ length d.nodes = length-map d.nodes (node_of d.names) in
    record {
      numbered = λ n h. number_is d numbers n (omega (arith, h, long));
      one_document = inner_at (tree_nodes d) _ (nodes_of (0 ∷ []) 1 tree) is (nodes_inner (0 ∷ []) 1 tree);
      nested = nested (tree_nodes d) (λ n h. leads n (omega (arith, h, long))) (λ n k h l. intervals n k (omega (arith, h, long)) (omega (arith, l, long)));
    }
