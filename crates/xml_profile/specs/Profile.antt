-- Whole inputs and beginnings of inputs: the first fault, the fault that is settled, and the document.
use Rattle.std.specs.Prelude.{◌≡◌, ℕ, ◌+◌, nat_lt, List, [], length, Option, Some, None, Result, Ok, Err, if◌then◌else◌}
use Rattle.inv_base.specs.Tree.{Name, Forest}
use Rattle.xml_state.specs.Faults.{fault_at}
use Rattle.xml_events.specs.Events.{Event, with_events, tree_of_events}
use Rattle.xml_tokens.specs.declared.kind.XmlKind.TheVariants.{Truncated, NoRoot}
use Rattle.xml_state.specs.declared.fault.XmlFault.{XmlFault}
use Rattle.xml_state.specs.declared.limits.Limits.{Limits}
use Rattle.xml_state.specs.States.{State, is_outside}
use Rattle.xml_profile.specs.TokenByToken.{Standing, waits, stopped, read_front, read_whole}

-- the fault of an end in a state at a place, behind the bytes of what isn't a token: inside something that has begun,
-- or before a root
abbrev pub end_fault : State → ℕ → List ℕ → Option XmlFault
end_fault s place rest =
    if nat_lt 0 (length rest) then Some (fault_at Truncated (place + length rest))
    else (if is_outside s then (if s.root_seen then None else Some (fault_at NoRoot place))
    else Some (fault_at Truncated place))

-- the fault at which reading stands
abbrev pub settled_of : Standing → Option XmlFault
settled_of (waits s place rest) = None
settled_of (stopped fault) = Some fault

-- the fault at which reading stands or which the end of the input is
abbrev pub fault_of_whole : Standing → Option XmlFault
fault_of_whole (waits s place rest) = end_fault s place rest
fault_of_whole (stopped fault) = Some fault

-- the fault of bytes that no further byte can change, none where there is none yet
unfoldable pub settled_fault : Limits → List ℕ → Option XmlFault
settled_fault limits bytes = settled_of (read_front limits bytes).stands

-- the first fault of a whole input, none where it is a document
unfoldable pub first_fault : Limits → List ℕ → Option XmlFault
first_fault limits bytes = fault_of_whole (read_whole limits bytes).stands

-- A document: what it tells, with the places of its elements and texts, and its names in the order in which they are
-- first seen.
pub record Document : Type 0 where
  pub events : List Event
  pub names : List Name

-- the names behind which reading stands
abbrev pub names_of : Standing → List Name
names_of (waits s place rest) = s.names
names_of (stopped fault) = []

-- the document that the bytes are, or the first fault
unfoldable pub document : Limits → List ℕ → Result Document XmlFault
document limits bytes = elim (first_fault limits bytes) [
  | (Some fault) ↦ Err fault
  | None ↦ Ok (record { events = with_events [] (read_whole limits bytes).events; names = names_of (read_whole limits bytes).stands })
]

-- the tree of a document
abbrev pub tree_of : Document → Forest
tree_of d = tree_of_events d.names d.events

-- The bytes are a document of the tree.
pub record IsXml (limits : Limits) (bytes : List ℕ) (tree : Forest) : Type 0 where
  pub found : Document
  pub is : document limits bytes ≡ Ok found
  pub tells : tree ≡ tree_of found
