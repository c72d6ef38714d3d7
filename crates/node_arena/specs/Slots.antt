-- How nodes are kept: each with the number of the node around it. What is seen of them has all their ancestors.
use Rattle.std.specs.Prelude.{◌≡◌, ℕ, ◌+◌, ◌-◌, ◌<◌, Bool, true, false, if◌then◌else◌, List, [], ◌∷◌, ◌++◌, length, drop, get_or, chars, Option, Some, None}
use Rattle.inv_base.specs.declared.tree.Kind.{Kind}
use Rattle.inv_base.specs.declared.tree.Kind.TheVariants as kinds
use Rattle.inv_base.specs.declared.place.Place.{Place}
use Rattle.inv_base.specs.Tree.{is_among}
use Rattle.node_arena.specs.Document.{Placed, node_at, node_behind}
use Rattle.node_arena.specs.declared.slot.Slot.{Slot}

-- any node but the document
abbrev pub is_inner : Kind → Bool
is_inner kind = elim kind [ kinds.Document ↦ false | kinds.Element ↦ true | kinds.Attribute ↦ true | kinds.Text ↦ true ]

-- the number of a node and those of its ancestors, from the nearest
abbrev pub path : List Placed → ℕ → List ℕ
path nodes n = n ∷ (node_at nodes n).above

-- the numbers of what is around a node, where the nearest has the number
abbrev pub around : List Placed → Option ℕ → List ℕ
around nodes None = []
around nodes (Some n) = path nodes n

-- a node as it is seen, behind those before it
abbrev pub placed : List Placed → Slot → Placed
placed before slot =
    node_behind before (if is_inner slot.kind then path before slot.parent else []) slot.kind slot.name (chars slot.text.now) slot.place.byte

abbrev pub kept_behind : List Placed → List Slot → List Placed
kept_behind before [] = []
kept_behind before (slot ∷ slots) = placed before slot ∷ kept_behind (before ++ placed before slot ∷ []) slots

-- the nodes that are kept
unfoldable pub kept : List Slot → List Placed
kept slots = kept_behind [] slots

-- the text that may still go on, where one does, as the last node
abbrev pub text_nodes : List Placed → List ℕ → List ℕ → Option Place → List Placed
text_nodes nodes open_nodes characters None = []
text_nodes nodes open_nodes characters (Some place) = node_behind nodes open_nodes kinds.Text None characters place.byte ∷ []

-- Each node but the document is inside one before it, where the first has the number.
abbrev pub AreBelow : ℕ → List Slot → Type 0
AreBelow n [] = Unit {0}
AreBelow n (slot ∷ slots) = (is_inner slot.kind ≡ true → slot.parent < n) × AreBelow (n + 1) slots

-- the last of the nodes that has the number among its ancestors, or else the number given
abbrev pub last_among : ℕ → ℕ → List Placed → ℕ
last_among n last [] = last
last_among n last (node ∷ nodes) = last_among n (if is_among n node.above then node.number else last) nodes

-- the last node inside a node, or itself
unfoldable pub last_kept : List Placed → ℕ → ℕ
last_kept nodes n = last_among n n (drop (n + 1) nodes)

-- Nodes while they are built, beside the last node inside each: of one that is still open that is the last so far, of
-- any other it is kept. The node of the number is the innermost that is open.
pub record IsGrowing (slots : List Slot) (ends : List ℕ) (current : ℕ) : Type 0 where
  pub here : current < length slots
  pub below : AreBelow 0 slots
  pub long : length ends ≡ length slots
  pub ends_are : (n : ℕ) → n < length slots
      → (if is_among n (path (kept slots) current) then length slots - 1 else get_or ends n 0) ≡ last_kept (kept slots) n
