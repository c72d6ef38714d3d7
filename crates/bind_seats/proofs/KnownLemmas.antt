-- The nodes of a document are sound.
use Rattle.std.proofs.Common.{◌≡◌, ℕ, ◌+◌, ◌<◌, ◌≤◌, ◌^◌, List, [], ◌∷◌, length, Some, None, sym, ap, subst, arith}
use Rattle.std.specs.List.{All, AllByRecursion}
use Rattle.std.proofs.lemmas.List.Elements.{All-nil, All-cons, All-append}
use Rattle.inv_base.specs.Tree.{Node, Attribute, Forest, no_more, a_text, an_element, nodes_of, nodes_of_attributes, document_nodes, size}
use Rattle.node_arena.specs.Document.{Document, AreNumbered}
use Rattle.node_arena.specs.Moves.{tree_nodes, tree_node, nearest, parent, is_inside, is_between, last_inside, IsOfATree, HasNodesOf}
use Rattle.node_arena.specs.Walks.{LeadsOn}
use Rattle.bind_seats.specs.Nodes.{Numbered, Sound}
use Rattle.bind_seats.proofs.ListLemmas.{by-weaker}
use Rattle.bind_seats.proofs.WayLemmas.{number-at}
use Rattle.bind_seats.proofs.AttributeLemmas.{numbered, long}

-- ---- what is around a node comes before it

abbrev IsBehind : Node → Type 0
IsBehind node = AllByRecursion (λ a. a < node.number) node.above

raised : (n m : ℕ) (ns : List ℕ) → n ≤ m → AllByRecursion (λ a. a < n) ns → AllByRecursion (λ a. a < m) ns
raised n m ns l h = by-weaker (λ a. a < n) (λ a. a < m) (λ a k. omega (arith, k, l)) ns h

attributes-behind : (above : List ℕ) (n : ℕ) (attributes : List Attribute) → AllByRecursion (λ a. a < n) above
    → All IsBehind (nodes_of_attributes above n attributes)
attributes-behind above n [] h = All-nil IsBehind
attributes-behind above n (attribute ∷ attributes) h =
    All-cons IsBehind _ (nodes_of_attributes above (n + 1) attributes) h (attributes-behind above (n + 1) attributes (raised n (n + 1) above (omega arith) h))

nodes-behind : (above : List ℕ) (n : ℕ) (forest : Forest) → AllByRecursion (λ a. a < n) above → All IsBehind (nodes_of above n forest)
nodes-behind above n no_more h = All-nil IsBehind
nodes-behind above n (a_text characters rest) h =
    All-cons IsBehind _ (nodes_of above (n + 1) rest) h (nodes-behind above (n + 1) rest (raised n (n + 1) above (omega arith) h))
nodes-behind above n (an_element name attributes inside rest) h =
    All-cons IsBehind _ _ h
    (All-append IsBehind (nodes_of_attributes (n ∷ above) (n + 1) attributes) _
    (attributes-behind (n ∷ above) (n + 1) attributes (omega arith, raised n (n + 1) above (omega arith) h))
    (All-append IsBehind (nodes_of (n ∷ above) (n + (1 + length attributes)) inside) _
    (nodes-behind (n ∷ above) (n + (1 + length attributes)) inside (omega arith, raised n (n + (1 + length attributes)) above (omega arith) h))
    (nodes-behind above (n + (1 + (length attributes + size inside))) rest (raised n (n + (1 + (length attributes + size inside))) above (omega arith) h))))

document-behind : (forest : Forest) → All IsBehind (document_nodes forest)
document-behind forest = All-cons IsBehind _ (nodes_of (0 ∷ []) 1 forest) tt (nodes-behind (0 ∷ []) 1 forest (omega arith, tt))

first-before : (n p : ℕ) (ns : List ℕ) → AllByRecursion (λ a. a < n) ns → nearest ns ≡ Some p → p < n
first-before n p [] h e = absurd (let bad : None ≡ Some p = e in cc)
first-before n p (a ∷ ns) h e = let same : a ≡ p = cc in subst (λ k. k < n) same h.0

parent-before : (nodes : List Node) → Numbered 0 nodes → All IsBehind nodes → (n p : ℕ) → n < length nodes → parent nodes n ≡ Some p → p < n
parent-before nodes num h n p l e = subst (λ k. p < k) (number-at nodes num n l)
    (first-before (tree_node nodes n).number p (tree_node nodes n).above (h n _ l) e)

-- ---- a document

pub sound : (doc : Document) → IsOfATree doc → 1 < length doc.nodes → length doc.nodes < 2 ^ 32 → AreNumbered 0 doc.nodes
    → ((document : Document) (tree : Forest) → HasNodesOf document tree → (n : ℕ) → n < length document.nodes → LeadsOn (tree_nodes document) n)
    → ((document : Document) (tree : Forest) → HasNodesOf document tree → (n k : ℕ) → n < length document.nodes → k < length document.nodes
    → is_inside n (tree_node (tree_nodes document) k) ≡ is_between n (last_inside (tree_nodes document) n) k)
    → Sound (tree_nodes doc)
sound doc is some few numbers leads insides =
    let many = long doc in
    let nums : Numbered 0 (tree_nodes doc) = numbered doc.names doc.nodes 0 numbers in
    record {
      some = omega arith;
      few = omega arith;
      numbered = nums;
      top = ap (λ nodes. (tree_node nodes 0).above) is.has_nodes;
      around = λ n p l e. (leads doc is.tree is.has_nodes n (omega (arith, l))).around p e;
      before = parent-before (tree_nodes doc) nums (subst (All IsBehind) (sym is.has_nodes) (document-behind is.tree));
      inside = λ n k l m. insides doc is.tree is.has_nodes n k (omega (arith, l)) (omega (arith, m));
    }
