-- The order of entries: what is known of those of a document's nodes.
use Rattle.std.specs.Prelude.{◌≡◌, ℕ, ◌<◌, ◌≤◌, Bool, true, false, ◌&&◌, List, [], ◌∷◌, length, is_some}
use Rattle.std.specs.List.{All, AllPairs}
use Rattle.inv_base.specs.declared.tree.Kind.TheVariants as kinds
use Rattle.inv_base.specs.Tree.{Node}
use Rattle.node_arena.specs.Moves.{tree_node}
use Rattle.schematron_meaning.specs.Entries.{Entry}
use Rattle.schematron_meaning.specs.Lookup.{is_item}
use Rattle.schematron_meaning.specs.Bodies.{abstract_rules, rule_at}

-- Nodes

-- the first of some numbers, or 0
abbrev pub first_or_zero : List ℕ → ℕ
first_or_zero [] = 0
first_or_zero (n ∷ above) = n

-- the number of the node that one stands in; 0 of the document's own
abbrev pub up : List Node → ℕ → ℕ
up nodes n = first_or_zero (tree_node nodes n).above

-- the document's own node
abbrev pub is_document : Node → Bool
is_document node = elim node.kind [ kinds.Document ↦ true | kinds.Element ↦ false | kinds.Attribute ↦ false | kinds.Text ↦ false ]

-- Nodes in document order: each has the number of its place, only the first may be a document's own, and what stands
-- between a node and the one that it stands in stands in none before that one. Those of every document are so.
pub record AreInOrder (nodes : List Node) : Type 0 where
  pub numbered : (n : ℕ) → n < length nodes → (tree_node nodes n).number ≡ n
  pub one_document : (n : ℕ) → 0 < n → n < length nodes → is_document (tree_node nodes n) ≡ false
  pub nested : (n m : ℕ) → n < length nodes → up nodes n < m → m < n → up nodes n ≤ up nodes m

-- Entries

-- Each has a number below those of all behind it.
abbrev pub NumbersRise : List Entry → Type 0
NumbersRise es = AllPairs (λ (a b : Entry). a.number < b.number) es

-- Each has the number of one of so many nodes.
abbrev pub NumbersAreBelow : ℕ → List Entry → Type 0
NumbersAreBelow count es = All (λ (e : Entry). e.number < count) es

-- An item stands behind the element that it is in.
abbrev pub ItemsStandBehind : List Entry → Type 0
ItemsStandBehind es = All (λ (e : Entry). is_item e.role ≡ true → e.parent < e.number) es

-- an item of an abstract rule
abbrev pub is_in_abstract_rule : List Entry → Entry → Bool
is_in_abstract_rule es e = is_item e.role && is_some (rule_at (abstract_rules es) e.parent)

-- Of two items of abstract rules the one before stands in the same rule or in one before.
abbrev pub RulesFollow : List Entry → Type 0
RulesFollow es = AllPairs (λ (a b : Entry). is_in_abstract_rule es a ≡ true → is_in_abstract_rule es b ≡ true → a.parent ≤ b.parent) es
