-- A document as it is kept.
use Rattle.std.specs.Prelude.{◌≡◌, ℕ, ◌<◌, List, length, get_or}
use Rattle.inv_base.specs.Tree.{Name}
use Rattle.node_arena.specs.Document.{IsNumbered}
use Rattle.node_arena.specs.Moves.{IsOfATree}
use Rattle.node_arena.specs.Slots.{kept, last_kept, AreBelow}
use Rattle.node_arena.specs.Keys.{AreLinks}
use Rattle.node_arena.specs.declared.slot.Slot.{Slot}
use Rattle.node_arena.specs.declared.chains.Links.{Links}

-- Of each node the last one inside it is kept.
abbrev pub AreEnds : List Slot → List ℕ → Type 0
AreEnds slots ends = (n : ℕ) → n < length slots → get_or ends n 0 ≡ last_kept (kept slots) n

-- The nodes of a tree, the last node inside each, and the links between them.
pub record IsLinked (slots : List Slot) (ends : List ℕ) (links : Links) (names : List Name) : Type 0 where
  pub numbered : IsNumbered (kept slots) names
  pub of_a_tree : IsOfATree (record { nodes = kept slots; names = names })
  pub below : AreBelow 0 slots
  pub ends_are : AreEnds slots ends
  pub long : length ends ≡ length slots
  pub linked : AreLinks (kept slots) (length names) links
