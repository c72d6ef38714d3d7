-- The calls of a pen, what each appends by the pen's state, and the calls that write a tree.
use Rattle.std.specs.Prelude.{ℕ, Bool, true, false, ◌&&◌, List, [], ◌∷◌, ◌++◌, flat_map, map, codes, encode_utf8_all}
use Rattle.inv_base.specs.Tree.{Forest, no_more, a_text, an_element, Attribute}
use Rattle.xml_write.specs.declared.pen.PenState.{PenState}
use Rattle.xml_write.specs.declared.pen.PenState.TheVariants.{Fresh, InsideTag, PastTag}
use Rattle.xml_write.specs.Escapes.{in_text}
use Rattle.xml_write.specs.Canonical.{Declaration, declaration_line, attribute_text, declaring_name, attribute_name, element_name}

-- what a start or a text writes first: the first line of the document, or the end of the tag that is open
abbrev pub lead_in : PenState → List ℕ
lead_in Fresh = declaration_line
lead_in InsideTag = 0x3E ∷ []
lead_in PastTag = []

abbrev pub start_text : PenState → List ℕ → List ℕ
start_text state name = lead_in state ++ 0x3C ∷ name

-- an empty text appends nothing
abbrev pub content_text : PenState → List ℕ → List ℕ
content_text state [] = []
content_text state (c ∷ characters) = lead_in state ++ flat_map in_text (c ∷ characters)

abbrev pub end_tag : List ℕ → List ℕ
end_tag name = codes "</" ++ (name ++ 0x3E ∷ [])

-- an element that is still inside its tag has no children
abbrev pub end_text : PenState → List ℕ → List ℕ
end_text Fresh name = end_tag name
end_text InsideTag name = codes "/>"
end_text PastTag name = end_tag name

-- the state behind a text: an empty one leaves it
abbrev pub behind_text : PenState → List ℕ → PenState
behind_text state [] = state
behind_text state (c ∷ characters) = PastTag

-- A call and the texts that it is given: of an attribute its name and its value, of a namespace declaration the prefix, empty for
-- the default namespace, and the namespace name.
pub data Call : Type 0 where
  call_start : List ℕ → Call
  call_attribute : List ℕ → List ℕ → Call
  call_declare : List ℕ → List ℕ → Call
  call_text : List ℕ → Call
  call_end : List ℕ → Call
  call_close : Call

-- what a call appends
abbrev pub appended_by : PenState → Call → List ℕ
appended_by state (call_start name) = start_text state name
appended_by state (call_attribute name value) = attribute_text name value
appended_by state (call_declare prefix uri) = attribute_text (declaring_name prefix) uri
appended_by state (call_text characters) = content_text state characters
appended_by state (call_end name) = end_text state name
appended_by state call_close = 0xA ∷ []

-- the state behind a call
abbrev pub state_behind : PenState → Call → PenState
state_behind state (call_start name) = InsideTag
state_behind state (call_attribute name value) = InsideTag
state_behind state (call_declare prefix uri) = InsideTag
state_behind state (call_text characters) = behind_text state characters
state_behind state (call_end name) = PastTag
state_behind state call_close = PastTag

-- the call may be made in the state
abbrev pub is_allowed : PenState → Call → Bool
is_allowed state (call_start name) = true
is_allowed Fresh (call_attribute name value) = false
is_allowed InsideTag (call_attribute name value) = true
is_allowed PastTag (call_attribute name value) = false
is_allowed Fresh (call_declare prefix uri) = false
is_allowed InsideTag (call_declare prefix uri) = true
is_allowed PastTag (call_declare prefix uri) = false
is_allowed Fresh (call_text characters) = false
is_allowed InsideTag (call_text characters) = true
is_allowed PastTag (call_text characters) = true
is_allowed Fresh (call_end name) = false
is_allowed InsideTag (call_end name) = true
is_allowed PastTag (call_end name) = true
is_allowed Fresh call_close = false
is_allowed InsideTag call_close = false
is_allowed PastTag call_close = true

-- what calls in a row append, the first of them in the state
abbrev pub appended_by_all : PenState → List Call → List ℕ
appended_by_all state [] = []
appended_by_all state (call ∷ calls) = appended_by state call ++ appended_by_all (state_behind state call) calls

-- the state behind calls in a row
abbrev pub behind_all : PenState → List Call → PenState
behind_all state [] = state
behind_all state (call ∷ calls) = behind_all (state_behind state call) calls

-- each of the calls may be made where its turn comes
abbrev pub are_allowed : PenState → List Call → Bool
are_allowed state [] = true
are_allowed state (call ∷ calls) = is_allowed state call && are_allowed (state_behind state call) calls

-- the call with its texts in UTF-8, as the code makes it
abbrev pub encoded : Call → Call
encoded (call_start name) = call_start (encode_utf8_all name)
encoded (call_attribute name value) = call_attribute (encode_utf8_all name) (encode_utf8_all value)
encoded (call_declare prefix uri) = call_declare (encode_utf8_all prefix) (encode_utf8_all uri)
encoded (call_text characters) = call_text (encode_utf8_all characters)
encoded (call_end name) = call_end (encode_utf8_all name)
encoded call_close = call_close

abbrev pub attribute_calls : List Declaration → List Attribute → List Call
attribute_calls declarations attributes = map (λ (a : Attribute). call_attribute (attribute_name declarations a.name) a.value) attributes

-- the calls for what stands inside an element
abbrev pub calls_inside : List Declaration → Forest → List Call
calls_inside declarations no_more = []
calls_inside declarations (a_text characters rest) = call_text characters ∷ calls_inside declarations rest
calls_inside declarations (an_element name attributes inside rest) =
    call_start (element_name declarations name)
    ∷ (attribute_calls declarations attributes
    ++ (calls_inside declarations inside
    ++ call_end (element_name declarations name) ∷ calls_inside declarations rest))

abbrev pub declare_calls : List Declaration → List Call
declare_calls declarations = map (λ (d : Declaration). call_declare d.prefix d.uri) declarations

-- the calls for a document: the root has the declarations before its attributes
abbrev pub calls_of : List Declaration → Forest → List Call
calls_of declarations no_more = []
calls_of declarations (a_text characters rest) = []
calls_of declarations (an_element name attributes inside rest) =
    call_start (element_name declarations name)
    ∷ (declare_calls declarations
    ++ (attribute_calls declarations attributes
    ++ (calls_inside declarations inside
    ++ call_end (element_name declarations name) ∷ call_close ∷ [])))
