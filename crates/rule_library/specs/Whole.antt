-- When what is joined is a whole document.
use Rattle.std.specs.Prelude.{◌≡◌, ℕ, List, Ok}
use Rattle.inv_base.specs.Tree.{Forest, IsDocument}
use Rattle.xml_events.specs.Events.{Event}
use Rattle.xml_events.specs.Documents.{Tells}
use Rattle.xml_profile.specs.Profile as profile
use Rattle.xml_profile.specs.Profile.{document}
use Rattle.node_arena.specs.Document.{built}
use Rattle.node_arena.specs.Moves.{IsOfATree}
use Rattle.xml_state.specs.Sizes.{rule_limits}
use Rattle.rule_library.specs.Readings.{Joined}

-- It is what the events of a document build.
pub record TellsDocument (j : Joined) : Type 0 where
  pub tree : Forest
  pub events : List Event
  pub document : IsDocument tree
  pub tells : Tells j.names tree events
  pub is : j.built ≡ built events

-- Each file that is read is one of a tree.
abbrev pub AreDocuments : Type 0
AreDocuments = (content : List ℕ) (found : profile.Document) → document rule_limits content ≡ Ok found
    → IsOfATree (record { nodes = (built found.events).nodes; names = found.names })
