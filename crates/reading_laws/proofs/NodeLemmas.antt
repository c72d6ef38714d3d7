-- The nodes of a tree have numbers that rise.
use Rattle.std.proofs.Common.{◌≡◌, ℕ, suc, ◌+◌, ◌≤◌, List, [], ◌∷◌, ◌++◌, length, sym, subst, arith}
use Rattle.inv_base.specs.Tree.{Node, Attribute, Forest, no_more, a_text, an_element, nodes_of, nodes_of_attributes, document_nodes, size}
use Rattle.node_arena.specs.Document.{Document}
use Rattle.node_arena.specs.Moves.{tree_nodes, IsOfATree}
use Rattle.reading_laws.specs.Nodes.{Rise}

-- they rise from the first number on, and stay below the second
abbrev RiseTo : ℕ → ℕ → List Node → Type 0
RiseTo n m [] = n ≤ m
RiseTo n m (node ∷ nodes) = (n ≤ node.number) × RiseTo (suc node.number) m nodes

rise-append : (n m k : ℕ) (xs ys : List Node) → RiseTo n m xs → RiseTo m k ys → RiseTo n k (xs ++ ys)
rise-append n m k [] [] h l = omega (arith, h, l)
rise-append n m k [] (y ∷ ys) h l = (let a = l.0 in omega (arith, a, h), l.1)
rise-append n m k (x ∷ xs) ys h l = (h.0, rise-append (suc x.number) m k xs ys h.1 l)

rises : (n m : ℕ) (xs : List Node) → RiseTo n m xs → Rise n xs
rises n m [] h = tt
rises n m (x ∷ xs) h = (h.0, rises (suc x.number) m xs h.1)

from-to : {n m k l : ℕ} (xs : List Node) → RiseTo n m xs → n ≡ k → m ≡ l → RiseTo k l xs
from-to {n} {m} {k} {l} xs h e f = subst (λ a. RiseTo a l xs) e (subst (λ b. RiseTo n b xs) f h)

attributes-rise : (above : List ℕ) (n : ℕ) (attributes : List Attribute) → RiseTo n (n + length attributes) (nodes_of_attributes above n attributes)
attributes-rise above n [] = omega arith
attributes-rise above n (attribute ∷ attributes) = (
  omega arith,
  from-to (nodes_of_attributes above (n + 1) attributes) (attributes-rise above (n + 1) attributes) (let z : n + 1 ≡ suc n = omega arith in z)
      (let z : n + 1 + length attributes ≡ n + suc (length attributes) = omega arith in z),
)

forest-rises : (above : List ℕ) (n : ℕ) (forest : Forest) → RiseTo n (n + size forest) (nodes_of above n forest)
forest-rises above n no_more = omega arith
forest-rises above n (a_text characters rest) = (
  omega arith,
  from-to (nodes_of above (n + 1) rest) (forest-rises above (n + 1) rest) (let z : n + 1 ≡ suc n = omega arith in z)
      (let z : n + 1 + size rest ≡ n + size (a_text characters rest) = omega arith in z),
)
forest-rises above n (an_element name attributes inside rest) =
    let a = nodes_of_attributes (n ∷ above) (n + 1) attributes in
    let b = nodes_of (n ∷ above) (n + (1 + length attributes)) inside in
    let c = nodes_of above (n + (1 + (length attributes + size inside))) rest in
    let first = from-to a (attributes-rise (n ∷ above) (n + 1) attributes) (let z : n + 1 ≡ suc n = omega arith in z)
    (let z : n + 1 + length attributes ≡ n + (1 + length attributes) = omega arith in z) in
    let second = from-to b (forest-rises (n ∷ above) (n + (1 + length attributes)) inside)
    (let z : n + (1 + length attributes) ≡ n + (1 + length attributes) = omega arith in z)
    (let z : n + (1 + length attributes) + size inside ≡ n + (1 + (length attributes + size inside)) = omega arith in z) in
    let third = from-to c (forest-rises above (n + (1 + (length attributes + size inside))) rest)
    (let z : n + (1 + (length attributes + size inside)) ≡ n + (1 + (length attributes + size inside)) = omega arith in z)
    (let z : n + (1 + (length attributes + size inside)) + size rest ≡ n + size (an_element name attributes inside rest) = omega arith in z) in
    (omega arith, rise-append _ _ _ a (b ++ c) first (rise-append _ _ _ b c second third))

pub tree-rises : (forest : Forest) → Rise 0 (document_nodes forest)
tree-rises forest = (omega arith, rises 1 (1 + size forest) (nodes_of (0 ∷ []) 1 forest) (forest-rises (0 ∷ []) 1 forest))

pub document-rises : (document : Document) → IsOfATree document → Rise 0 (tree_nodes document)
document-rises document h = subst (Rise 0) (sym h.has_nodes) (tree-rises h.tree)
