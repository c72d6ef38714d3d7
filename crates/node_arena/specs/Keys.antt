-- Chains of nodes by what they have in common, and how their links are kept.
use Rattle.std.specs.Prelude.{◌≡◌, ℕ, ◌+◌, ◌<◌, Bool, true, false, ◌==◌, if◌then◌else◌, List, [], ◌∷◌, length, map, drop, get_or, Option, Some, None}
use Rattle.inv_base.specs.declared.tree.Kind.{Kind}
use Rattle.inv_base.specs.declared.tree.Kind.TheVariants as kinds
use Rattle.node_arena.specs.Document.{Placed}
use Rattle.node_arena.specs.Moves.{nearest}
use Rattle.node_arena.specs.declared.chains.Family.{Family}
use Rattle.node_arena.specs.declared.chains.Family.TheVariants as families
use Rattle.node_arena.specs.declared.chains.Links.{Links}

abbrev pub is_attribute_kind : Kind → Bool
is_attribute_kind kind = elim kind [ kinds.Document ↦ false | kinds.Element ↦ false | kinds.Attribute ↦ true | kinds.Text ↦ false ]

-- what a node has in common with the others of its chain, where it is on one of the family
abbrev pub key_of : Family → Placed → Option ℕ
key_of families.Children node = if is_attribute_kind node.kind then None else nearest node.above
key_of families.Attributes node = if is_attribute_kind node.kind then nearest node.above else None
key_of families.Named node = node.name

abbrev pub has_key : ℕ → Option ℕ → Bool
has_key key None = false
has_key key (Some k) = k == key

-- the number of the first that has the key, where the first of all has the number n
abbrev pub first_keyed : ℕ → ℕ → List (Option ℕ) → Option ℕ
first_keyed key n [] = None
first_keyed key n (k ∷ keys) = if has_key key k then Some n else first_keyed key (n + 1) keys

-- the number of the next that has the key of the n-th, or the given one where that has none
abbrev pub next_keyed : Option ℕ → ℕ → List (Option ℕ) → Option ℕ
next_keyed other n keys = elim (get_or keys n None) [ None ↦ other | Some key ↦ first_keyed key (n + 1) (drop (n + 1) keys) ]

abbrev pub keys : Family → List Placed → List (Option ℕ)
keys family nodes = map (key_of family) nodes

-- The links lead along the chains of the nodes, whose names are below the count: those to first children and first
-- attributes, to the next of the same parent, to the next of the same name, and to the first of each name.
pub record AreChained (nodes : List Placed) (count : ℕ) (children attributes beside named names : List (Option ℕ)) : Type 0 where
  pub first_child : (n : ℕ) → n < length nodes → get_or children n None ≡ first_keyed n 0 (keys families.Children nodes)
  pub first_attribute : (n : ℕ) → n < length nodes → get_or attributes n None ≡ first_keyed n 0 (keys families.Attributes nodes)
  pub next_beside : (n : ℕ) → n < length nodes → get_or beside n None
      ≡ next_keyed (next_keyed None n (keys families.Children nodes)) n (keys families.Attributes nodes)
  pub next_named : (n : ℕ) → n < length nodes → get_or named n None ≡ next_keyed None n (keys families.Named nodes)
  pub first_named : (name : ℕ) → name < count → get_or names name None ≡ first_keyed name 0 (keys families.Named nodes)
  pub child_long : length children ≡ length nodes
  pub attribute_long : length attributes ≡ length nodes
  pub beside_long : length beside ≡ length nodes
  pub named_long : length named ≡ length nodes
  pub names_long : length names ≡ count

abbrev pub AreLinks : List Placed → ℕ → Links → Type 0
AreLinks nodes count links =
    AreChained nodes count links.first_child.items links.first_attribute.items links.next_beside.items links.next_named.items links.first_named.items
