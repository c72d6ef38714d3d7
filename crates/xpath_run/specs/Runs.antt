-- A plan over a document, with slots.
use Rattle.std.specs.Prelude.{◌≡◌, ℕ, List, Option, length}
use Rattle.node_arena.specs.Document.{Document}
use Rattle.xpath_meaning.specs.Values.{Value}
use Rattle.xpath_plan.specs.Plans.{Planned}
use Rattle.xpath_plan.specs.Claims.{kept_of}
use Rattle.xpath_walks.specs.Tests.{numbers_of}
use Rattle.xpath_parts.specs.Placed.{ArePlaced}
use Rattle.xpath_parts.specs.Slots.{HoldIn, Grows}

pub record Running : Type 0 where
  pub plan : Planned
  pub document : Document
  pub slots : List (Option Value)

-- The names have their numbers, each kept part is at its slot, and each slot is empty or holds the value of its part.
pub record IsRunning (plan : Planned) (document : Document) (numbers : List (Option ℕ)) (slots : List (Option Value)) : Type 0 where
  pub numbered : numbers ≡ numbers_of document.names plan.names
  pub placed : ArePlaced (kept_of plan) (kept_of plan)
  pub held : HoldIn document (kept_of plan) slots
  pub long : length slots ≡ length (kept_of plan)

-- The plan and the document stay, and what is held.
pub record Goes (old new : Running) : Type 0 where
  pub plan : new.plan ≡ old.plan
  pub document : new.document ≡ old.document
  pub grows : Grows old.slots new.slots
