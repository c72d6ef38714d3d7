-- Walks over the nodes of a document by its links.
use Rattle.std.specs.Prelude.{◌≡◌, ℕ, ◌+◌, ◌*◌, ◌++◌, ◌<◌, ◌≤◌, ◌^◌, Bool, true, false, not, ◌&&◌, nat_le, List, [], ◌∷◌, length, map, filter, drop, Option}
use Rattle.std.specs.Prelude.{Some, None, Result, OnOk, if◌then◌else◌}
use Rattle.inv_base.specs.Tree.{Node, Name}
use Rattle.node_arena.specs.Document.{Document}
use Rattle.node_arena.specs.Moves.{tree_nodes, tree_node, behind, first_that, has_name, is_attribute, is_child, is_attribute_of, is_inside, is_between}
use Rattle.node_arena.specs.Moves.{last_inside}
use Rattle.node_arena.specs.Walks.{LeadsOn}
use Rattle.xpath_grammar.specs.declared.step.Axis.{Axis}
use Rattle.xpath_meaning.specs.Expressions.{NodeTest, named}
use Rattle.xpath_meaning.specs.Axes.{is_on, in_order_of, on_axis}
use Rattle.xpath_plan.specs.Plans.{test_seen}
use Rattle.xpath_walks.specs.declared.step.Step.{Step}
use Rattle.xpath_walks.specs.declared.walk.Way.{Way}
use Rattle.xpath_walks.specs.declared.walk.Way.TheVariants as w
use Rattle.xpath_walks.specs.Tests.{numbers_of, is_passed}

-- What a walk rests on: each node has the number of its place, the links lead on, and insides are intervals.
pub record IsWalkable (nodes : List Node) : Type 0 where
  pub few : length nodes < 2 ^ 32
  pub counted : (k : ℕ) → k < length nodes → (tree_node nodes k).number ≡ k
  pub leads : (n : ℕ) → n < length nodes → LeadsOn nodes n
  pub inside : (n k : ℕ) → n < length nodes → k < length nodes → is_inside n (tree_node nodes k) ≡ is_between n (last_inside nodes n) k

-- Every document is walkable.
pub record IsWalked (document : Document) : Type 0 where
  pub long : length (tree_nodes document) ≡ length document.nodes
  pub walkable : IsWalkable (tree_nodes document)

abbrev pub node_numbers : List Node → List ℕ
node_numbers nodes = map (λ (node : Node). node.number) nodes

-- a node that a walk goes over
abbrev pub is_on_way : Way → Node → Bool
is_on_way w.All node = true
is_on_way (w.Before n) node = true
is_on_way (w.Children n) node = is_child n node
is_on_way (w.Attributes n) node = is_attribute_of n node

-- A node that is gone over is one of those that are meant.
abbrev pub is_meant : Way → List Node → Node → Bool
is_meant w.All nodes node = not (is_attribute node)
is_meant (w.Before n) nodes node = not (is_attribute node) && not (is_inside node.number (tree_node nodes n))
is_meant (w.Children n) nodes node = true
is_meant (w.Attributes n) nodes node = true

-- A node that is told apart from those around it is one of so many.
abbrev pub IsWithin : Way → ℕ → Type 0
IsWithin (w.Before n) count = n < count
IsWithin _ count = Unit {0}

-- the nodes from one on
abbrev pub from_on : Option ℕ → List Node → List Node
from_on None nodes = []
from_on (Some n) nodes = drop n nodes

abbrev pub is_taken : Way → List Node → Axis → Option NodeTest → Node → Bool
is_taken way nodes axis test node = is_meant way nodes node && is_passed axis test node

-- what a walk takes of what it goes over, up to a last number
abbrev pub is_walked : Way → List Node → ℕ → Axis → Option NodeTest → Node → Bool
is_walked way nodes last axis test node = is_on_way way node && (nat_le node.number last && is_taken way nodes axis test node)

abbrev pub walked : Way → List Node → Option ℕ → ℕ → Axis → Option NodeTest → List ℕ
walked way nodes begin last axis test = node_numbers (filter (is_walked way nodes last axis test) (from_on begin nodes))

-- the number, where the test holds
abbrev pub if_so : Bool → ℕ → List ℕ
if_so b n = if b then n ∷ [] else []

-- What is behind the old numbers is this, for any names that the step's numbers are those of.
abbrev pub Adds : {X E : Type 0} → Document → Step → Result X E → List ℕ → List ℕ → (Option NodeTest → List ℕ) → Type 0
Adds document step result old new what =
    (names : List Name) → step.numbers.now ≡ numbers_of document.names names → OnOk result (new ≡ old ++ what (test_seen names step.test.now))

-- The node has the expanded name that the test is for.
abbrev pub has_wanted : Option NodeTest → Node → Bool
has_wanted (Some (named name)) node = has_name name node
has_wanted _ node = false

-- the chain of the expanded name that a test is for: the elements and attributes that have it, in document order
abbrev pub chain_of : List Node → Option NodeTest → List ℕ
chain_of nodes test = node_numbers (filter (has_wanted test) nodes)

-- what is left of it from a node on
abbrev pub chain_from : List Node → Option ℕ → Option NodeTest → List ℕ
chain_from nodes begin test = node_numbers (filter (has_wanted test) (from_on begin nodes))

-- the nodes of the chain up to a node
abbrev pub is_passed_by : Option NodeTest → ℕ → Node → Bool
is_passed_by test from node = has_wanted test node && nat_le node.number from

abbrev pub chain_up_to : ℕ → List Node → Option NodeTest → List Node
chain_up_to from nodes test = filter (is_passed_by test from) nodes

-- The node is the first behind another that is so; where there is none, nothing behind that one is so up to a last number.
abbrev pub LeadsInside : (Node → Bool) → ℕ → ℕ → List Node → Option ℕ → Type 0
LeadsInside is_so from last nodes None = (k : ℕ) → from < k → k ≤ last → k < length nodes → is_so (tree_node nodes k) ≡ false
LeadsInside is_so from last nodes (Some m) = Some m ≡ first_that is_so (behind from nodes)

-- So many steps and at most one more were taken, or where memory ran out no more than that.
pub record Costs {X E : Type 0} (count : ℕ) (result : Result X E) (before after : ℕ) : Type 0 where
  pub most : after ≤ before + (count + 1)
  pub least : OnOk result (before + count ≤ after)

-- A step for each node of the chain, and at most one more, for any names that the step's numbers are those of.
abbrev pub CostsChain : {X E : Type 0} → Document → Step → Result X E → ℕ → ℕ → Type 0
CostsChain document step result before after = (names : List Name) → step.numbers.now ≡ numbers_of document.names names
    → Costs (length (chain_of (tree_nodes document) (test_seen names step.test.now))) result before after

-- What a walk along a chain of so many nodes may take; along the whole of it it takes a step for each, unless memory runs out.
pub record Bounds {X E : Type 0} (count : ℕ) (leading : Bool) (result : Result X E) (before after : ℕ) : Type 0 where
  pub most : after ≤ before + (2 * count + 2)
  pub least : leading ≡ true → OnOk result (before + count ≤ after)

-- what a walk over all nodes takes from one on
abbrev pub taken_from : List Node → Option ℕ → Axis → Option NodeTest → List ℕ
taken_from nodes begin axis test = node_numbers (filter (is_taken w.All nodes axis test) (from_on begin nodes))

-- the numbers of the nodes on the first axis that pass on the second, in the order of the first
abbrev pub found_on : Axis → Axis → List Node → ℕ → Option NodeTest → List ℕ
found_on axis principal nodes n test = node_numbers
    (in_order_of axis (filter (λ node. is_on axis (tree_node nodes n) node && is_passed principal test node) nodes))

-- the numbers of the nodes on an axis that pass, in the order of the axis
abbrev pub found : Axis → List Node → ℕ → Option NodeTest → List ℕ
found axis nodes n test = found_on axis axis nodes n test

-- the numbers among those given whose nodes pass
abbrev pub passing : Axis → List Node → List ℕ → Option NodeTest → List ℕ
passing axis nodes ns test = filter (λ n. is_passed axis test (tree_node nodes n)) ns

-- a node and what is around it
abbrev pub from_up : Option ℕ → List Node → List ℕ
from_up None nodes = []
from_up (Some n) nodes = n ∷ (tree_node nodes n).above

-- The numbers of what the definition of an axis gives; without a test, nothing.
abbrev pub axis_numbers : List Node → Axis → ℕ → Option NodeTest → List ℕ
axis_numbers nodes axis n None = []
axis_numbers nodes axis n (Some test) = node_numbers (on_axis nodes axis test n)
