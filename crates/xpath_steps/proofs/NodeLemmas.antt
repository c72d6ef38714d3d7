-- Numbers of nodes among items, and nodes in document order.
use Rattle.std.proofs.Common.{◌≡◌, ℕ, suc, ◌<◌, Bool, cond, List, [], ◌∷◌, length, map, Result, Ok, Err, IfOk, refl, ap, sym, subst, ◌∙◌, arith}
use Rattle.std.specs.Prelude.{filter, ◌==◌, ◌||◌}
use Rattle.std.proofs.lemmas.Bool.Decides.{nat_tests}
use Rattle.inv_base.specs.Tree.{Node, is_among}
use Rattle.node_arena.specs.Document.{Document}
use Rattle.node_arena.specs.Moves.{tree_node, tree_nodes}
use Rattle.xpath_items.specs.declared.item.Item.{Item}
use Rattle.xpath_items.specs.declared.item.Item.TheVariants as i
use Rattle.xpath_meaning.specs.Steps.{has_node, node_item, nodes_where, in_document_order}
use Rattle.xpath_operators.specs.Nodes.{AreWithin}
use Rattle.xpath_steps.specs.Numbers.{numbers_among}
use Rattle.xpath_walks.specs.Order.{AreNumbers, node_items}
use Rattle.xpath_walks.specs.Walks.{IsWalked, node_numbers}
use Rattle.xpath_steps.proofs.WithinLemmas.{NumbersBelow, numbers_below, number_within, where_within}

pub items_of_numbers : (nodes : List Node) → node_items (node_numbers nodes) ≡ map node_item nodes
items_of_numbers [] = refl
items_of_numbers (node ∷ nodes) = ap (λ xs. node_item node ∷ xs) (items_of_numbers nodes)

pub eq_turned : (m n : ℕ) → (m == n) ≡ (n == m)
eq_turned m n = grind (arith, nat_tests)

-- a node is among the numbers exactly where it is among the items
pub among_items : (items : List Item) (n : ℕ) → is_among n (numbers_among items) ≡ has_node items n
among_items [] n = refl
among_items (i.Node m ∷ items) n = ap (λ b. b || is_among n (numbers_among items)) (eq_turned n m) ∙ ap (λ b. m == n || b) (among_items items n)
among_items (i.Boolean b ∷ items) n = among_items items n
among_items (i.Number z ∷ items) n = among_items items n
among_items (i.String s ∷ items) n = among_items items n
among_items (i.Untyped s ∷ items) n = among_items items n
among_items (i.Date day ∷ items) n = among_items items n

pub among_nodes : (ns : List ℕ) (n : ℕ) → has_node (node_items ns) n ≡ is_among n ns
among_nodes [] n = refl
among_nodes (m ∷ ns) n = ap (λ b. b || has_node (node_items ns) n) (eq_turned m n) ∙ ap (λ b. n == m || b) (among_nodes ns n)

pub numbers_within : (count : ℕ) (items : List Item) → AreWithin count items → AreWithin count (node_items (numbers_among items))
numbers_within count [] h = tt
numbers_within count (i.Node m ∷ items) h = (h.0, numbers_within count items h.1)
numbers_within count (i.Boolean b ∷ items) h = numbers_within count items h.1
numbers_within count (i.Number z ∷ items) h = numbers_within count items h.1
numbers_within count (i.String s ∷ items) h = numbers_within count items h.1
numbers_within count (i.Untyped s ∷ items) h = numbers_within count items h.1
numbers_within count (i.Date day ∷ items) h = numbers_within count items h.1

-- two tests that agree at each node
pub alike : (p q : Node → Bool) (nodes : List Node) → ((k : ℕ) → k < length nodes → p (tree_node nodes k) ≡ q (tree_node nodes k)) →
    filter p nodes ≡ filter q nodes
alike p q [] h = refl
alike p q (node ∷ nodes) h =
    ap (λ b. cond b (node ∷ filter p nodes) (filter p nodes)) (h 0 (omega arith))
    ∙ ap (λ ns. cond (q node) (node ∷ ns) ns) (alike p q nodes (λ k l. h (suc k) (omega (arith, l))))

pub where_alike : (p q : ℕ → Bool) (nodes : List Node) → ((k : ℕ) → k < length nodes → p (tree_node nodes k).number ≡ q (tree_node nodes k).number) →
    nodes_where nodes p ≡ nodes_where nodes q
where_alike p q nodes h = ap (map node_item) (alike (λ node. p node.number) (λ node. q node.number) nodes h)

-- two lists that have the same nodes
pub same_order : (nodes : List Node) (xs ys : List Item) → ((n : ℕ) → has_node xs n ≡ has_node ys n) → in_document_order nodes xs ≡ in_document_order nodes ys
same_order nodes xs ys h = where_alike (has_node xs) (has_node ys) nodes (λ k l. h (tree_node nodes k).number)

-- ---- documents

pub document_below : (document : Document) → IsWalked document → NumbersBelow (length document.nodes) (tree_nodes document)
document_below document w =
    numbers_below (length document.nodes) (tree_nodes document) (λ k l. omega (arith, w.walkable.counted k l, w.long, l))

pub are_numbers : (document : Document) (ns : List ℕ) → IsWalked document → AreWithin (length document.nodes) (node_items ns) →
    AreNumbers (tree_nodes document) ns
are_numbers document ns w h = record {
  counted = w.walkable.counted;
  within = λ n e. omega (arith, number_within (length document.nodes) ns n h e, w.long);
}

-- What is put into order is the nodes among the numbers.
pub ordered_is : {E : Type 0} (document : Document) (ns ms now : List ℕ) (r : Result (List Item) E) → IsWalked document
    → ((all : List Node) → AreNumbers all ns → node_items ms ≡ in_document_order all (node_items ns)) → now ≡ ms → IfOk r (λ items. items ≡ node_items now)
    → AreWithin (length document.nodes) (node_items ns) → IfOk r (λ items. items ≡ in_document_order (tree_nodes document) (node_items ns))
ordered_is document ns ms now (Ok items) w of same e h = e ∙ (ap node_items same ∙ of (tree_nodes document) (are_numbers document ns w h))
ordered_is document ns ms now (Err error) w of same e h = tt

-- The nodes among items stand in one order with the items.
pub order_among : (nodes : List Node) (items : List Item) (ns : List ℕ) → ns ≡ numbers_among items →
    in_document_order nodes (node_items ns) ≡ in_document_order nodes items
order_among nodes items ns e =
    ap (λ ms. in_document_order nodes (node_items ms)) e
    ∙ same_order nodes (node_items (numbers_among items)) items (λ n. among_nodes (numbers_among items) n ∙ among_items items n)

pub among_within : (count : ℕ) (items : List Item) (ns : List ℕ) → ns ≡ numbers_among items → AreWithin count items → AreWithin count (node_items ns)
among_within count items ns e h = subst (λ ms. AreWithin count (node_items ms)) (sym e) (numbers_within count items h)

pub order_within : (document : Document) (items found : List Item) → IsWalked document → found ≡ in_document_order (tree_nodes document) items →
    AreWithin (length document.nodes) found
order_within document items found w e =
    subst (AreWithin (length document.nodes)) (sym e) (where_within (length document.nodes) (tree_nodes document) (has_node items) (document_below document w))
