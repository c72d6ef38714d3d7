-- A rule file with the parts that it takes of others put in. The nodes of a file are gone over in document order; where
-- an element asks for another file, that file is gone over in its place, and what is inside the element is dropped. A file
-- is read when its name is first met. Each `include` gives way to the root element of the file that it names, each
-- `extends` with href to what is in that root, with what these ask for already put in.
use Rattle.std.specs.Prelude.{ℕ, zero, suc, ◌+◌, ◌-◌, Bool, true, false, ◌&&◌, ◌||◌, not, List, [], ◌∷◌, ◌++◌, length, Option, Some, None, option_map, Result}
use Rattle.std.specs.Prelude.{Ok, Err, nat_le, ◌==◌, bytes_eq, if◌then◌else◌}
use Rattle.inv_base.specs.Files.{Files, bytes_under}
use Rattle.inv_base.specs.declared.tree.Kind.{Kind}
use Rattle.inv_base.specs.declared.tree.Kind.TheVariants as nodes_are
use Rattle.inv_base.specs.Tree.{Name, is_among}
use Rattle.xml_state.specs.declared.fault.XmlFault.{XmlFault}
use Rattle.xml_events.specs.Events.{name_at}
use Rattle.xml_events.specs.Names.{same_name}
use Rattle.xml_profile.specs.Profile as profile
use Rattle.xml_profile.specs.Profile.{document}
use Rattle.node_arena.specs.Document.{Placed, Document, node_at}
use Rattle.xml_state.specs.Sizes.{rule_limits}
use Rattle.rule_library.specs.Readings.{File, Joined, State, Fault, Readings, gives, reads, file_behind}
use Rattle.rule_library.specs.Asked.{Given, given_at, Asked, stays, bad, root_of, inside_of, asked}
use Rattle.rule_library.specs.Joining.{nothing_joined, closed_to, with_element, with_text, passed_limit}
use Rattle.rule_library.specs.declared.faults.LoadKind.{LoadKind}
use Rattle.rule_library.specs.declared.faults.LoadKind.TheVariants as kinds

-- what is done with what is joined so far
abbrev pub Next : Type 0
Next = State → Readings

-- goes over a file, of which the root is put in too, or only what is in it
abbrev pub Enter : Type 0
Enter = File → Bool → Next → State → Readings

-- How a file is gone over: the names of the files that are being put in, this one first; whether it is a part; whether
-- its root is left out; how many nodes are open around it.
pub record Way : Type 0 where
  pub file : File
  pub stack : List (List ℕ)
  pub part : Bool
  pub bare : Bool
  pub base : ℕ

abbrev pub fault_in : Way → Placed → LoadKind → Readings
fault_in w node kind = gives (Err (record { kind = kind; file = w.file.name; place = node.place }))

abbrev pub is_in : List ℕ → List (List ℕ) → Bool
is_in name [] = false
is_in name (other ∷ names) = bytes_eq other name || is_in name names

abbrev pub file_of : List ℕ → List File → Option File
file_of name [] = None
file_of name (file ∷ files) = if bytes_eq file.name name then Some file else file_of name files

abbrev pub element_name : Document → ℕ → Option Name
element_name document n = option_map (name_at document.names) (node_at document.nodes n).name

abbrev pub same_names : Option Name → Option Name → Bool
same_names None b = false
same_names (Some a) None = false
same_names (Some a) (Some b) = same_name a b

-- a node that asks for a part: where it stands, its parent's name, and whether it wants only what is in the root
pub record Asking : Type 0 where
  pub way : Way
  pub node : Placed
  pub parent : Option Name
  pub bare : Bool

-- Only a root with the parent's name may give what is in it.
abbrev pub is_unfit : Asking → File → Bool
is_unfit a file = a.bare && not (same_names (element_name file.document 1) a.parent)

abbrev pub checked_by : Enter → Asking → Next → State → File → Bool → Readings
checked_by enter a next s file true = fault_in a.way a.node kinds.NotSame
checked_by enter a next s file false = enter file a.bare next s

abbrev pub checked : Enter → Asking → Next → State → File → Readings
checked enter a next s file = checked_by enter a next s file (is_unfit a file)

abbrev pub with_file : File → State → State
with_file file s = record { files = s.files ++ file ∷ []; joined = s.joined }

-- a file that is read behind the others, if there are fewer than 64
abbrev pub read_by : Enter → Asking → List ℕ → Next → State → Bool → Readings
read_by enter a name next s true = fault_in a.way a.node kinds.TooManyFiles
read_by enter a name next s false =
    reads name (λ length found. let file : File = file_behind s.files name length found in checked enter a next (with_file file s) file)

abbrev pub newly_read : Enter → Asking → List ℕ → Next → State → Readings
newly_read enter a name next s = read_by enter a name next s (nat_le 64 (length s.files))

abbrev pub found_or_read : Enter → Asking → List ℕ → Next → State → Option File → Readings
found_or_read enter a name next s (Some file) = checked enter a next s file
found_or_read enter a name next s None = newly_read enter a name next s

-- a part that isn't one of those that are being put in
abbrev pub put_by : Enter → Asking → List ℕ → Next → State → Bool → Readings
put_by enter a name next s true = fault_in a.way a.node kinds.IncludeCycle
put_by enter a name next s false = found_or_read enter a name next s (file_of name s.files)

abbrev pub put_in : Enter → Asking → List ℕ → Next → State → Readings
put_in enter a name next s = put_by enter a name next s (is_in name a.way.stack)

abbrev pub nearest : List ℕ → ℕ
nearest [] = 0
nearest (n ∷ above) = n

-- The node is inside the one whose inside is dropped.
abbrev pub is_dropped : Option ℕ → Placed → Bool
is_dropped None node = false
is_dropped (Some n) node = is_among n node.above

-- how many nodes around a node aren't put in: the document's, and a root that is left out
abbrev pub around : Bool → ℕ
around bare = if bare then 2 else 1

-- What isn't around a node is closed before it.
abbrev pub closed_for : Way → Placed → State → State
closed_for w node s = record { files = s.files; joined = closed_to (w.base + (length node.above - around w.bare)) s.joined }

-- The node is a root that is left out.
abbrev pub is_left_out : Way → Placed → Bool
is_left_out w node = w.bare && (length node.above == 1)

abbrev pub with_joined : Joined → State → State
with_joined joined s = record { files = s.files; joined = joined }

-- Goes on, unless what was put in passes a limit.
abbrev pub unless_passed : Option LoadKind → Way → Placed → Next → State → Readings
unless_passed None w node next s = next s
unless_passed (Some kind) w node next s = fault_in w node kind

abbrev pub put_element : Way → Placed → Name → List Given → Next → State → Readings
put_element w node name given next s =
    let joined : Joined = with_element name given (node.place + w.file.start) s.joined in
    unless_passed (passed_limit w.part joined) w node next (with_joined joined s)

abbrev pub put_text : Way → Placed → Next → State → Readings
put_text w node next s =
    let joined : Joined = with_text node.text (node.place + w.file.start) s.joined in
    unless_passed (passed_limit w.part joined) w node next (with_joined joined s)

-- goes on with what is dropped
abbrev pub Going : Type 0
Going = Option ℕ → State → Readings

-- an element that stays, unless it is a root that is left out
abbrev pub stays_by : Way → Placed → Name → List Given → Going → State → Bool → Readings
stays_by w node name given go s true = go None s
stays_by w node name given go s false = put_element w node name given (go None) s

abbrev pub at_asked : Enter → Way → Placed → Option Name → Name → List Given → Going → State → Asked → Readings
at_asked enter w node parent name given go s bad = fault_in w node kinds.BadHref
at_asked enter w node parent name given go s (root_of href) =
    put_in enter (record { way = w; node = node; parent = parent; bare = false }) href (go (Some node.number)) s
at_asked enter w node parent name given go s (inside_of href) =
    put_in enter (record { way = w; node = node; parent = parent; bare = true }) href (go (Some node.number)) s
at_asked enter w node parent name given go s stays = stays_by w node name given go s (is_left_out w node)

abbrev pub name_or_none : Option Name → Name
name_or_none None = record { uri = []; local = [] }
name_or_none (Some name) = name

-- a node's parent's name, and its own
abbrev pub parent_name : Document → Placed → Option Name
parent_name document node = element_name document (nearest node.above)

abbrev pub own_name : Document → Placed → Name
own_name document node = name_or_none (option_map (name_at document.names) node.name)

abbrev pub at_element : Enter → Way → Placed → Option Name → Name → List Given → Going → State → Readings
at_element enter w node parent name given go s = at_asked enter w node parent name given go s (asked parent name given)

-- a node of a kind, with the nodes behind it
abbrev pub at_kind : Enter → Way → Placed → List Placed → Going → State → Kind → Readings
at_kind enter w node behind go s nodes_are.Document = go None s
at_kind enter w node behind go s nodes_are.Attribute = go None s
at_kind enter w node behind go s nodes_are.Text = put_text w node (go None) s
at_kind enter w node behind go s nodes_are.Element =
    at_element enter w node (parent_name w.file.document node) (own_name w.file.document node) (given_at w.file.document.names behind) go s

abbrev pub at_node : Enter → Way → Placed → List Placed → Going → State → Readings
at_node enter w node behind go s = at_kind enter w node behind go s node.kind

abbrev pub going : Enter → Way → List Placed → Next → Going
going enter w [] next dropped s = next (record { files = s.files; joined = closed_to w.base s.joined })
going enter w (node ∷ nodes) next dropped s = elim (is_dropped dropped node) [
  | true ↦ going enter w nodes next dropped s
  | false ↦ at_node enter w node nodes (going enter w nodes next) (closed_for w node s)
]

-- One file more is being put in. Behind 64 files inside one another no other is asked for: it would be one of them, or
-- the 65th.
unfoldable pub entered : ℕ → List (List ℕ) → Bool → Enter
entered zero stack part file bare next s = next s
entered (suc room) stack part file bare next s =
    going (entered room (file.name ∷ stack) true)
    (record { file = file; stack = file.name ∷ stack; part = part; bare = bare; base = length s.joined.built.open_nodes })
    file.document.nodes next None s

-- the rule file of that name
abbrev pub library : List ℕ → Readings
library name = reads name (λ length found. let file : File = file_behind [] name length found in
    entered 64 [] false file false (λ s. gives (Ok s)) (record { files = file ∷ []; joined = nothing_joined }))

-- ---- by what the files hold

abbrev pub by_document : (XmlFault → Result State Fault) → (profile.Document → Result State Fault) → Result profile.Document XmlFault → Result State Fault
by_document fault goes (Ok found) = goes found
by_document fault goes (Err f) = fault f

-- what the readings come to where the files hold these bytes
abbrev pub joined_of : Readings → Files → Result State Fault
joined_of (gives result) files = result
joined_of (reads name next) files =
    let bytes = bytes_under name files in
    by_document (λ f. Err (record { kind = kinds.Xml f.kind; file = name; place = f.place.byte }))
    (λ found. joined_of (next (length bytes) found) files) (document rule_limits bytes)
