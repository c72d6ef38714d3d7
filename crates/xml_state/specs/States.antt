-- What stands behind tokens: the open elements with their bindings, whether the root was seen, and counts.
use Rattle.std.specs.Prelude.{ℕ, ◌+◌, Bool, true, false, ◌==◌, List, [], ◌∷◌, ◌++◌, map, length, if◌then◌else◌, bytes_eq}
use Rattle.inv_base.specs.Tree.{Name, Attribute}
use Rattle.xml_events.specs.Events.{Event, starts, has_attribute, has_text, ends}
use Rattle.xml_events.specs.Names.{number_of, with_name}
use Rattle.xml_tokens.specs.Markup.{Tag, Token, a_mark, an_aside, a_character, a_reference, a_section, a_start_tag, an_end_tag}
use Rattle.xml_tokens.specs.declared.beginning.Position.{Position}
use Rattle.xml_tokens.specs.declared.beginning.Position.TheVariants.{AtStart, BehindMark, Farther}
use Rattle.xml_state.specs.Namespaces.{Binding, first_bindings, bindings_inside, element_name, attributes_of}

-- An open element: its name as written, and the bindings inside it.
pub record Open : Type 0 where
  pub name : List ℕ
  pub bindings : List Binding

-- where the next place is, the open elements from the innermost, whether the root was seen, whether a text goes on
-- here, how many nodes there are, the document among them, and the distinct names in the order in which they were first
-- seen
pub record State : Type 0 where
  pub position : Position
  pub open_elements : List Open
  pub root_seen : Bool
  pub in_text : Bool
  pub nodes : ℕ
  pub names : List Name

-- before the first token
abbrev pub begin : State
begin = record { position = AtStart; open_elements = []; root_seen = false; in_text = false; nodes = 1; names = [] }

-- No element is open.
abbrev pub is_outside : State → Bool
is_outside s = length s.open_elements == 0

-- what is bound inside the innermost of open elements
abbrev pub bindings_inside_innermost : List Open → List Binding
bindings_inside_innermost elements = elim elements [ [] ↦ first_bindings | (element ∷ outer) ↦ element.bindings ]

-- The innermost of open elements has this name as written.
abbrev pub is_innermost : List Open → List ℕ → Bool
is_innermost elements name = elim elements [ [] ↦ false | (element ∷ outer) ↦ bytes_eq element.name name ]

-- the bindings of the innermost open element
abbrev pub bindings_here : State → List Binding
bindings_here s = bindings_inside_innermost s.open_elements

-- the bindings in a tag: its own before those outside
abbrev pub bindings_in : State → Tag → List Binding
bindings_in s tag = bindings_inside (bindings_here s) tag

-- the expanded name of its element
abbrev pub name_in : State → Tag → Name
name_in s tag = element_name (bindings_in s tag) tag.name

-- its attributes in the tree
abbrev pub attributes_in : State → Tag → List Attribute
attributes_in s tag = attributes_of (bindings_in s tag) tag.attributes

-- the names and further ones, of which each counts where it is new
abbrev pub with_names : List Name → List Name → List Name
with_names names [] = names
with_names names (name ∷ more) = with_names (with_name names name) more

-- the names behind a tag: that of the element before those of its attributes
abbrev pub names_behind : State → Tag → List Name
names_behind s tag = with_names s.names (name_in s tag ∷ map (λ (attribute : Attribute). attribute.name) (attributes_in s tag))

-- behind something that is no character of a text, or that leaves a text as it is
abbrev pub behind_aside : State → State
behind_aside s = record s { position = Farther }

-- Behind characters: inside an element they begin a text, or go on with one.
abbrev pub behind_text : State → State
behind_text s =
    if is_outside s then behind_aside s
    else record s { position = Farther; in_text = true; nodes = if s.in_text then s.nodes else s.nodes + 1 }

-- the open elements behind a start tag in these bindings, whose element is open unless it is empty
abbrev pub elements_behind : List Open → List Binding → Tag → List Open
elements_behind elements bindings tag = if tag.is_empty then elements else record { name = tag.name; bindings = bindings } ∷ elements

-- behind a start tag
abbrev pub behind_start_tag : State → Tag → State
behind_start_tag s tag = record {
  position = Farther;
  open_elements = elements_behind s.open_elements (bindings_in s tag) tag;
  root_seen = true;
  in_text = false;
  nodes = s.nodes + (1 + length (attributes_in s tag));
  names = names_behind s tag;
}

-- behind the end tag of the innermost open element
abbrev pub behind_end_tag : State → State
behind_end_tag s = elim s.open_elements [
  | [] ↦ behind_aside s
  | (element ∷ outer) ↦ record s { position = Farther; open_elements = outer; in_text = false }
]

-- what stands behind one more token
unfoldable pub state_behind : State → Token → State
state_behind s a_mark = record s { position = BehindMark }
state_behind s an_aside = behind_aside s
state_behind s (a_character c) = behind_text s
state_behind s (a_reference c) = behind_text s
state_behind s (a_section text) = if length text == 0 then behind_aside s else behind_text s
state_behind s (a_start_tag tag) = behind_start_tag s tag
state_behind s (an_end_tag name) = behind_end_tag s

-- what characters at a place tell: outside the root nothing
abbrev pub text_events : State → List ℕ → ℕ → List Event
text_events s text place = if is_outside s then [] else has_text text place ∷ []

-- what an attribute tells
abbrev pub attribute_event : List Name → Attribute → Event
attribute_event names attribute = has_attribute (number_of attribute.name names) attribute.value

-- what a start tag tells: the element, its attributes, and its end where it is empty
abbrev pub start_tag_events : State → Tag → ℕ → List Event
start_tag_events s tag place =
    let names = names_behind s tag in
    starts (number_of (name_in s tag) names) place
    ∷ (map (attribute_event names) (attributes_in s tag) ++ (if tag.is_empty then ends ∷ [] else []))

-- what a token at a place tells
unfoldable pub events_of : State → Token → ℕ → List Event
events_of s a_mark place = []
events_of s an_aside place = []
events_of s (a_character c) place = text_events s (c ∷ []) place
events_of s (a_reference c) place = text_events s (c ∷ []) place
events_of s (a_section text) place = if length text == 0 then [] else text_events s text place
events_of s (a_start_tag tag) place = start_tag_events s tag place
events_of s (an_end_tag name) place = ends ∷ []
