-- Where a walk over the files stands, and what is still to be done from there.
use Rattle.std.specs.Prelude.{◌≡◌, ℕ, ◌+◌, ◌-◌, ◌<◌, ◌≤◌, Bool, true, false, List, [], ◌∷◌, ◌++◌, length, drop, Option, Some, None, Ok, Err}
use Rattle.std.specs.Option.{ForSome}
use Rattle.inv_base.specs.Outside.{ShelfView}
use Rattle.node_arena.specs.Document.{Placed, Document, node_at}
use Rattle.rule_library.specs.Readings.{File, State, Fault, Readings, gives, file_at, total}
use Rattle.rule_library.specs.Asked.{Asked, given_at}
use Rattle.rule_library.specs.Joining.{nothing_joined, passed_limit}
use Rattle.rule_library.specs.Faults.{TellsOf, IsOfANode, want_of_memory}
use Rattle.rule_library.specs.Walk.{Next, Enter, Way, Going, Asking, going, entered, unless_passed, at_node, at_asked, put_in, found_or_read, newly_read}
use Rattle.rule_library.specs.Walk.{checked, file_of, parent_name, own_name}
use Rattle.rule_library.specs.Leads.{Reaches}
use Rattle.rule_library.specs.declared.faults.LoadKind.{LoadKind}
use Rattle.rule_library.specs.declared.faults.LoadFault.{LoadFault}
use Rattle.rule_library.specs.declared.walk.Frame.{Frame}
use Rattle.rule_library.specs.declared.walk.Walk.{Walk}
use Rattle.rule_library.specs.declared.walk.Turn.{Turn}
use Rattle.rule_library.specs.declared.walk.Turn.TheVariants as turns

-- a file that is gone over, with the nodes that are still to come
pub record Open : Type 0 where
  pub way : Way
  pub nodes : List Placed

-- a fault at a node of the file that is gone over
abbrev pub fault_at : Walk → ℕ → LoadKind → Fault
fault_at w n kind = let file : File = file_at w.top.file w.files.items in
    record { kind = kind; file = file.name; place = (node_at file.document.nodes n).place }

-- the nodes from that one on
abbrev pub from : Option ℕ → List Placed → List Placed
from None nodes = []
from (Some n) nodes = drop n nodes

abbrev pub stack_of : List Open → List (List ℕ)
stack_of [] = []
stack_of (o ∷ others) = o.way.stack

abbrev pub is_part : List Open → Bool
is_part [] = false
is_part (o ∷ others) = true

-- a file that is gone over inside others
abbrev pub opened_file : File → List Open → Frame → Open
opened_file file outer frame = record {
  way = record { file = file; stack = file.name ∷ stack_of outer; part = is_part outer; bare = frame.bare; base = frame.base };
  nodes = from frame.at file.document.nodes;
}

abbrev pub opened : List File → List Open → Frame → Open
opened files outer frame = opened_file (file_at frame.file files) outer frame

-- files inside one another, given from the outermost, inside others
abbrev pub all_opened : List File → List Open → List Frame → List Open
all_opened files outer [] = outer
all_opened files outer (frame ∷ frames) = all_opened files (opened files outer frame ∷ outer) frames

-- how another file is gone over inside this one
abbrev pub enter_in : Way → Enter
enter_in w = entered (64 - length w.stack) w.stack true

-- what is still to be done of files inside one another, the innermost first
abbrev pub goes_on : List Open → Next
goes_on [] s = gives (Ok s)
goes_on (o ∷ outer) s = going (enter_in o.way) o.way o.nodes (goes_on outer) None s

abbrev pub state_of : Walk → State
state_of w = record { files = w.files.items; joined = w.joined }

abbrev pub outer_of : Walk → List Open
outer_of w = all_opened w.files.items [] w.outer.items

abbrev pub top_of : Walk → Open
top_of w = opened w.files.items (outer_of w) w.top

-- what is still to be done
abbrev pub rest_of : Walk → Readings
rest_of w = goes_on (top_of w ∷ outer_of w) (state_of w)

-- how a file goes on behind a node
abbrev pub going_behind : Open → List Open → ℕ → Going
going_behind o outer n = going (enter_in o.way) o.way (drop (n + 1) o.way.file.document.nodes) (goes_on outer)

-- a node of a file
abbrev pub node_in : Open → ℕ → Placed
node_in o n = node_at o.way.file.document.nodes n

-- what is still to be done at a node, behind which everything goes on as if it weren't there
abbrev pub passed : Walk → ℕ → Readings
passed w n = going_behind (top_of w) (outer_of w) n None (state_of w)

-- what is still to be done at a node that was put in
abbrev pub settled : Walk → ℕ → Readings
settled w n = unless_passed (passed_limit (is_part (outer_of w)) w.joined) (top_of w).way (node_in (top_of w) n) (going_behind (top_of w) (outer_of w) n None)
    (state_of w)

-- what is still to be done at a node, when what isn't around it is closed
abbrev pub at_rest : Open → List Open → State → ℕ → Readings
at_rest o outer s n = at_node (enter_in o.way) o.way (node_in o n) (drop (n + 1) o.way.file.document.nodes) (going_behind o outer n) s

abbrev pub node_rest : Walk → ℕ → Readings
node_rest w n = at_rest (top_of w) (outer_of w) (state_of w) n

-- what is still to be done at an element that asks for this
abbrev pub asked_rest : Walk → ℕ → Asked → Readings
asked_rest w n a = let o : Open = top_of w in let document : Document = o.way.file.document in
    at_asked (enter_in o.way) o.way (node_in o n) (parent_name document (node_in o n)) (own_name document (node_in o n))
    (given_at document.names (drop (n + 1) document.nodes)) (going_behind o (outer_of w) n) (state_of w) a

-- an element that asks for a part
abbrev pub asking : Open → ℕ → Bool → Asking
asking o n bare = record { way = o.way; node = node_in o n; parent = parent_name o.way.file.document (node_in o n); bare = bare }

-- what is done behind a part
abbrev pub behind_part : Open → List Open → ℕ → Next
behind_part o outer n = going_behind o outer n (Some (node_in o n).number)

-- what is still to be done at an element that asks for the part of that name
abbrev pub part_rest : Walk → ℕ → Bool → List ℕ → Readings
part_rest w n bare name = put_in (enter_in (top_of w).way) (asking (top_of w) n bare) name (behind_part (top_of w) (outer_of w) n) (state_of w)

-- the same, when it isn't one of those that are being put in
abbrev pub other_rest : Walk → ℕ → Bool → List ℕ → Readings
other_rest w n bare name =
    found_or_read (enter_in (top_of w).way) (asking (top_of w) n bare) name (behind_part (top_of w) (outer_of w) n) (state_of w) (file_of name w.files.items)

-- the same, when it is a file that isn't read yet
abbrev pub new_rest : Walk → ℕ → Bool → List ℕ → Readings
new_rest w n bare name = newly_read (enter_in (top_of w).way) (asking (top_of w) n bare) name (behind_part (top_of w) (outer_of w) n) (state_of w)

-- what is still to be done at an element whose part is that file
abbrev pub found_by : Open → List Open → ℕ → Bool → State → File → Readings
found_by o outer n bare s file = checked (enter_in o.way) (asking o n bare) (behind_part o outer n) s file

abbrev pub found_rest : Walk → ℕ → Bool → ℕ → Readings
found_rest w n bare k = found_by (top_of w) (outer_of w) n bare (state_of w) (file_at k w.files.items)

abbrev pub fit_rest : Walk → ℕ → Bool → ℕ → Readings
fit_rest w n bare k = enter_in (top_of w).way (file_at k w.files.items) bare (behind_part (top_of w) (outer_of w) n) (state_of w)

-- The frame is of one of the files, and stands at one of its nodes.
pub record IsOpen (files : List File) (frame : Frame) : Type 0 where
  pub file : frame.file < length files
  pub base : 0 < frame.base
  pub at : ForSome frame.at (λ n. n < length (file_at frame.file files).document.nodes)

abbrev pub AreOpen : List File → List Frame → Type 0
AreOpen files [] = Unit {0}
AreOpen files (frame ∷ frames) = IsOpen files frame × AreOpen files frames

pub record Stands (w : Walk) : Type 0 where
  pub top : IsOpen w.files.items w.top
  pub outer : AreOpen w.files.items w.outer.items
  pub long : w.length ≡ total w.files.items
  pub few : length w.files.items ≤ 64

-- The walk stands at that node.
pub record StandsAt (w : Walk) (n : ℕ) : Type 0 where
  pub stands : Stands w
  pub here : w.top.at ≡ Some n
  pub within : n < length (file_at w.top.file w.files.items).document.nodes

-- The fault is the one that the readings give, or memory ran out.
pub data Refuses (first : Readings) (fault : LoadFault) : Type 0 where
  given : (wrong : Fault) → IsOfANode wrong.kind → first ≡ gives (Err wrong) → TellsOf fault wrong → Refuses first fault
  full : fault ≡ want_of_memory → Refuses first fault

-- Behind a turn the walk stands somewhere, or everything is joined.
abbrev pub Turns : Turn → Readings → Walk → ShelfView → ShelfView → Type 0
Turns turns.Goes first w before after = Reaches first (rest_of w) before after
Turns turns.Done first w before after = Reaches first (gives (Ok (state_of w))) before after

-- The same without a shelf.
abbrev pub TurnsTo : Turn → Readings → Walk → Type 0
TurnsTo turns.Goes first w = first ≡ rest_of w
TurnsTo turns.Done first w = first ≡ gives (Ok (state_of w))

-- The file stands behind the others, with that number; else the walk is as it was.
pub record Keeps (k : ℕ) (file : File) (before after : Walk) : Type 0 where
  pub number : k ≡ length before.files.items
  pub files : after.files.items ≡ before.files.items ++ file ∷ []
  pub top : after.top ≡ before.top
  pub outer : after.outer.items ≡ before.outer.items
  pub joined : after.joined ≡ before.joined

-- The walk stands at the first node of a file, and goes on from that node behind it.
pub record Descends (at : Option ℕ) (bare : Bool) (k : ℕ) (before after : Walk) : Type 0 where
  pub files : after.files.items ≡ before.files.items
  pub joined : after.joined ≡ before.joined
  pub long : after.length ≡ before.length
  pub outer : after.outer.items ≡ before.outer.items ++ record before.top { at = at } ∷ []
  pub top : after.top ≡ record { file = k; bare = bare; base = length before.joined.built.open_nodes; at = Some 0 }
  pub some : 0 < length before.joined.built.open_nodes
  pub begun : 0 < length (file_at k before.files.items).document.nodes

-- Going over a file, whose n-th node's inside is dropped, from behind that node is going over these nodes.
abbrev pub IsBehind : Document → ℕ → List Placed → Type 0
IsBehind document n rest = (enter : Enter) (w : Way) (next : Next) (s : State)
    → going enter w (drop (n + 1) document.nodes) next (Some (node_at document.nodes n).number) s ≡ going enter w rest next None s

-- The walk stands at the first node of the file, and nothing else was read or joined.
pub record Begins (file : File) (w : Walk) : Type 0 where
  pub files : w.files.items ≡ file ∷ []
  pub top : w.top ≡ record { file = 0; bare = false; base = 1; at = Some 0 }
  pub outer : w.outer.items ≡ []
  pub joined : w.joined ≡ nothing_joined
