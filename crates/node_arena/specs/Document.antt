-- What a document holds: its nodes in document order, each with its place, and its names.
use Rattle.std.specs.Prelude.{◌≡◌, ℕ, ◌+◌, ◌^◌, ◌<◌, Bool, true, false, List, [], ◌∷◌, ◌++◌, length, get_or, Option, Some, None, Result, MatchResult}
use Rattle.std.specs.Prelude.{if◌then◌else◌}
use Rattle.std.specs.List.{AllByRecursion}
use Rattle.std.specs.Option.{ForSome}
use Rattle.inv_base.specs.declared.tree.Kind.{Kind}
use Rattle.inv_base.specs.declared.tree.Kind.TheVariants as kinds
use Rattle.inv_base.specs.Tree.{Name}
use Rattle.xml_events.specs.Events.{Event, starts, has_attribute, has_text, ends}

-- A node: how many nodes stand before it in document order, its kind, the number of its name, the numbers of its
-- ancestors from the nearest to the document's, its own text, and its place.
pub record Placed : Type 0 where
  pub number : ℕ
  pub kind : Kind
  pub name : Option ℕ
  pub above : List ℕ
  pub text : List ℕ
  pub place : ℕ

abbrev pub document_node : Placed
document_node = record { number = 0; kind = kinds.Document; name = None; above = []; text = []; place = 0 }

-- A document as it grows: its nodes so far, the numbers of the nodes that are still open from the innermost to the
-- document's, and whether the last event was a text.
pub record Built : Type 0 where
  pub nodes : List Placed
  pub open_nodes : List ℕ
  pub in_text : Bool

-- before the first event
abbrev pub begun : Built
begun = record { nodes = document_node ∷ []; open_nodes = 0 ∷ []; in_text = false }

-- a node behind others, inside the nodes that are open
abbrev pub node_behind : List Placed → List ℕ → Kind → Option ℕ → List ℕ → ℕ → Placed
node_behind nodes open_nodes kind name text place =
    record { number = length nodes; kind = kind; name = name; above = open_nodes; text = text; place = place }

abbrev pub last_place : List Placed → ℕ
last_place [] = 0
last_place (node ∷ []) = node.place
last_place (node ∷ (next ∷ nodes)) = last_place (next ∷ nodes)

-- the nodes with more characters at the end of the last one's text
abbrev pub with_last_text : List ℕ → List Placed → List Placed
with_last_text characters [] = []
with_last_text characters (node ∷ []) = record node { text = node.text ++ characters } ∷ []
with_last_text characters (node ∷ (next ∷ nodes)) = node ∷ with_last_text characters (next ∷ nodes)

-- The innermost open node ends, but never the document.
abbrev pub ended : List ℕ → List ℕ
ended [] = []
ended (n ∷ []) = n ∷ []
ended (n ∷ (m ∷ above)) = m ∷ above

-- The document behind one more event. A text goes on behind a text; an attribute has the place of its element's tag.
abbrev pub after : Event → Built → Built
after (starts name place) b = record {
  nodes = b.nodes ++ node_behind b.nodes b.open_nodes kinds.Element (Some name) [] place ∷ [];
  open_nodes = length b.nodes ∷ b.open_nodes;
  in_text = false;
}
after (has_attribute name value) b = record {
  nodes = b.nodes ++ node_behind b.nodes b.open_nodes kinds.Attribute (Some name) value (last_place b.nodes) ∷ [];
  open_nodes = b.open_nodes;
  in_text = false;
}
after (has_text characters place) b = record {
  nodes = if b.in_text then with_last_text characters b.nodes
      else b.nodes ++ node_behind b.nodes b.open_nodes kinds.Text None characters place ∷ [];
  open_nodes = b.open_nodes;
  in_text = true;
}
after ends b = record { nodes = b.nodes; open_nodes = ended b.open_nodes; in_text = false }

-- What a call builds that takes an event: the document behind it, and behind a refusal the same.
abbrev pub Builds : {T E : Type 0} → Result T E → Event → Built → Built → Type 0
Builds result event before now = MatchResult result (λ _. now ≡ after event before) (λ _. now ≡ before)

-- the document behind all events, in order
abbrev pub built_from : Built → List Event → Built
built_from b [] = b
built_from b (event ∷ events) = built_from (after event b) events

unfoldable pub built : List Event → Built
built events = built_from begun events

-- a whole document: its nodes, and its names in first-seen order
pub record Document : Type 0 where
  pub nodes : List Placed
  pub names : List Name

-- the node of that number
abbrev pub node_at : List Placed → ℕ → Placed
node_at nodes n = get_or nodes n document_node

-- The nodes have the numbers of their places, the first n.
abbrev pub AreNumbered : ℕ → List Placed → Type 0
AreNumbered n [] = Unit {0}
AreNumbered n (node ∷ nodes) = (node.number ≡ n) × AreNumbered (n + 1) nodes

-- The numbers of their names are below the count.
abbrev pub AreNamed : ℕ → List Placed → Type 0
AreNamed count nodes = AllByRecursion (λ (node : Placed). ForSome node.name (λ name. name < count)) nodes

-- There is a root, the nodes can be numbered, and their names are in the table.
pub record IsNumbered (nodes : List Placed) (names : List Name) : Type 0 where
  pub rooted : 1 < length nodes
  pub few : length nodes < 2 ^ 32
  pub named : AreNamed (length names) nodes
