-- Nodes within a document among items, numbers and values.
use Rattle.std.proofs.Common.{◌≡◌, ℕ, suc, zero, ◌<◌, Bool, true, false, cond, List, [], ◌∷◌, ◌++◌, length, get_or, map, reverse, Result, Ok, Err, IfOk, sym}
use Rattle.std.proofs.Common.{subst, arith, ⊎_elim}
use Rattle.std.specs.Prelude.{filter, ◌==◌}
use Rattle.std.proofs.lemmas.List.{reverse-append}
use Rattle.std.proofs.lemmas.Bool.{or_cases, eqb-true, false≢true}
use Rattle.inv_base.specs.Tree.{Node, is_among}
use Rattle.node_arena.specs.Moves.{tree_node}
use Rattle.xpath_grammar.specs.declared.step.Axis.{Axis}
use Rattle.xpath_items.specs.declared.fault.Fault.{Fault}
use Rattle.xpath_items.specs.declared.fault.Fault.TheVariants as f
use Rattle.xpath_items.specs.declared.item.Item.{Item}
use Rattle.xpath_items.specs.Faults.{Gives}
use Rattle.xpath_meaning.specs.Axes.{is_reverse, on_axis}
use Rattle.xpath_meaning.specs.Expressions.{NodeTest}
use Rattle.xpath_meaning.specs.Steps.{node_item, nodes_where}
use Rattle.xpath_meaning.specs.Values.{Value}
use Rattle.xpath_operators.specs.Nodes.{IsWithin, AreWithin}
use Rattle.xpath_steps.specs.Variables.{ValueWithin}
use Rattle.xpath_walks.specs.Order.{node_items}

pub gives_within : (count : ℕ) (r : Result (List Item) Fault) (v : Value) → Gives r v → ValueWithin count v → IfOk r (AreWithin count)
gives_within count (Ok items) v g w = subst (ValueWithin count) g w
gives_within count (Err f.Memory) v g w = tt
gives_within count (Err (f.Error error)) v g w = tt

pub item_within : (count : ℕ) (items : List Item) (k : ℕ) (x : Item) → AreWithin count items → k < length items → x ≡ get_or items k x → IsWithin count x
item_within count [] k x h l e = absurd (omega (arith, l))
item_within count (y ∷ items) zero x h l e = subst (IsWithin count) (sym e) h.0
item_within count (y ∷ items) (suc k) x h l e = item_within count items k x h.1 (omega (arith, l)) e

pub append_within : (count : ℕ) (xs ys : List Item) → AreWithin count xs → AreWithin count ys → AreWithin count (xs ++ ys)
append_within count [] ys h k = k
append_within count (x ∷ xs) ys h k = (h.0, append_within count xs ys h.1 k)

-- the numbers of nodes within are so
pub number_within : (count : ℕ) (ns : List ℕ) (n : ℕ) → AreWithin count (node_items ns) → is_among n ns ≡ true → n < count
number_within count [] n h e = absurd (false≢true e)
number_within count (m ∷ ns) n h e = ⊎_elim
    (λ (same : (n == m) ≡ true). omega (arith, eqb-true n m same, h.0))
    (λ (more : is_among n ns ≡ true). number_within count ns n h.1 more)
    (or_cases (n == m) (is_among n ns) e)

-- Each node's number is below the count.
abbrev pub NumbersBelow : ℕ → List Node → Type 0
NumbersBelow count [] = Unit {0}
NumbersBelow count (node ∷ nodes) = (node.number < count) × NumbersBelow count nodes

pub numbers_below : (count : ℕ) (nodes : List Node) → ((k : ℕ) → k < length nodes → (tree_node nodes k).number < count) → NumbersBelow count nodes
numbers_below count [] h = tt
numbers_below count (node ∷ nodes) h = (h 0 (omega arith), numbers_below count nodes (λ k l. h (suc k) (omega (arith, l))))

cond_below : (count : ℕ) (b : Bool) (node : Node) (nodes : List Node) → node.number < count → NumbersBelow count nodes →
    NumbersBelow count (cond b (node ∷ nodes) nodes)
cond_below count true node nodes l h = (l, h)
cond_below count false node nodes l h = h

pub filter_below : (count : ℕ) (p : Node → Bool) (nodes : List Node) → NumbersBelow count nodes → NumbersBelow count (filter p nodes)
filter_below count p [] h = tt
filter_below count p (node ∷ nodes) h = cond_below count (p node) node (filter p nodes) h.0 (filter_below count p nodes h.1)

append_below : (count : ℕ) (xs ys : List Node) → NumbersBelow count xs → NumbersBelow count ys → NumbersBelow count (xs ++ ys)
append_below count [] ys h k = k
append_below count (x ∷ xs) ys h k = (h.0, append_below count xs ys h.1 k)

reverse_below : (count : ℕ) (nodes : List Node) → NumbersBelow count nodes → NumbersBelow count (reverse nodes)
reverse_below count [] h = tt
reverse_below count (node ∷ nodes) h =
    subst (NumbersBelow count) (sym (reverse-append (node ∷ []) nodes))
    (append_below count (reverse nodes) (node ∷ []) (reverse_below count nodes h.1) (h.0, tt))

pub axis_below : (count : ℕ) (nodes : List Node) (axis : Axis) (test : NodeTest) (n : ℕ) → NumbersBelow count nodes →
    NumbersBelow count (on_axis nodes axis test n)
axis_below count nodes axis test n h = go (is_reverse axis) _ (filter_below count _ nodes h)
  where
    go : (b : Bool) (some : List Node) → NumbersBelow count some → NumbersBelow count (elim b [ true ↦ reverse some | false ↦ some ])
    go true some h = reverse_below count some h
    go false some h = h

pub below_within : (count : ℕ) (nodes : List Node) → NumbersBelow count nodes → AreWithin count (map node_item nodes)
below_within count [] h = tt
below_within count (node ∷ nodes) h = (h.0, below_within count nodes h.1)

pub where_within : (count : ℕ) (nodes : List Node) (test : ℕ → Bool) → NumbersBelow count nodes → AreWithin count (nodes_where nodes test)
where_within count nodes test h = below_within count _ (filter_below count (λ node. test node.number) nodes h)
