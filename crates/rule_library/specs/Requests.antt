-- What the calls on attributes and requests answer.
use Rattle.std.specs.Prelude.{◌≡◌, ℕ, ◌+◌, ◌<◌, ◌∷◌, length, drop, Option, Some}
use Rattle.xml_events.specs.Events.{name_at}
use Rattle.node_arena.specs.Document.{Document, node_at}
use Rattle.rule_library.specs.Asked.{Asked, stays, bad, root_of, inside_of, given_at}
use Rattle.rule_library.specs.Turns.{from}
use Rattle.rule_library.specs.declared.asking.Given.{Given}
use Rattle.rule_library.specs.declared.asking.Request.{Request}
use Rattle.rule_library.specs.declared.asking.Request.TheVariants as requests

abbrev pub asked_by : Request → Asked
asked_by requests.Stays = stays
asked_by requests.Bad = bad
asked_by (requests.RootOf href) = root_of href.now
asked_by (requests.InsideOf href) = inside_of href.now

-- The attribute is the first of the nodes from there on.
pub record IsGiven (document : Document) (at : Option ℕ) (given : Given) : Type 0 where
  pub here : at ≡ Some given.node
  pub node : given.node < length document.nodes
  pub name : given.name < length document.names
  pub is : given_at document.names (from at document.nodes)
      ≡ record { name = name_at document.names given.name; value = (node_at document.nodes given.node).text }
      ∷ given_at document.names (drop (given.node + 1) document.nodes)
