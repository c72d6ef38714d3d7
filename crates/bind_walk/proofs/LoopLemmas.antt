-- A loop through the nodes of a sort that looks for one which passes a test.
use Rattle.std.proofs.Common.{◌≡◌, ℕ, Bool, Option}
use Rattle.std.specs.List.{list_any}
use Rattle.inv_base.specs.Tree.{Node}
use Rattle.node_arena.specs.Document.{Document}
use Rattle.bind_walk.specs.Chains.{numbers_from, IsAt}

-- It stands at a node of the sort, and those from there on pass where all do.
pub record Looks (is_so : Node → Bool) (d : Document) (test : ℕ → Bool) (whole : Bool) (at : Option ℕ) : Type 0 where
  pub here : IsAt is_so d at
  pub left : list_any test (numbers_from is_so d at) ≡ whole
