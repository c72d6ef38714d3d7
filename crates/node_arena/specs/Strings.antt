-- The texts of kept nodes.
use Rattle.std.specs.Prelude.{ℕ, List, [], flat_map, chars}
use Rattle.inv_base.specs.declared.tree.Kind.{Kind}
use Rattle.inv_base.specs.declared.tree.Kind.TheVariants as kinds
use Rattle.node_arena.specs.declared.slot.Slot.{Slot}

-- these characters, where the node is a text
abbrev pub if_text : Kind → List ℕ → List ℕ
if_text kind characters = elim kind [ kinds.Document ↦ [] | kinds.Element ↦ [] | kinds.Attribute ↦ [] | kinds.Text ↦ characters ]

-- the characters of the nodes that are texts, one after another
abbrev pub texts_of : List Slot → List ℕ
texts_of slots = flat_map (λ (slot : Slot). if_text slot.kind (chars slot.text.now)) slots
