-- The outline of a document: a line for each element, attribute and text, indented by two spaces for each level below
-- the root.
use Rattle.std.specs.Prelude.{ℕ, ◌+◌, ◌-◌, ◌*◌, List, [], ◌∷◌, ◌++◌, length, Option, Some, None, option_map, replicate, encode_utf8_all}
use Rattle.inv_base.specs.declared.tree.Kind.{Kind}
use Rattle.inv_base.specs.declared.tree.Kind.TheVariants as kinds
use Rattle.inv_base.specs.Text.{quoted}
use Rattle.inv_base.specs.Tree.{Name, Attribute, Node, Forest, no_more, a_text, an_element}
use Rattle.xml_events.specs.Events.{name_at}
use Rattle.xml_profile.specs.Profile.{tree_of}
use Rattle.node_arena.specs.Document.{Placed}
use Rattle.job_protocol.specs.Protocol.{Protocol, ends, done, document_protocol}

-- a namespace name in braces, where there is one
abbrev pub braced : List ℕ → List ℕ
braced [] = []
braced (c ∷ uri) = 0x7B ∷ ((c ∷ uri) ++ 0x7D ∷ [])

-- a name: its local part, behind the namespace name in braces
abbrev pub name_text : Name → List ℕ
name_text name = braced name.uri ++ name.local

-- a line at a level
abbrev pub line : ℕ → List ℕ → List ℕ
line level text = replicate (2 * level) 0x20 ++ (text ++ 0xA ∷ [])

abbrev pub attribute_text : Name → List ℕ → List ℕ
attribute_text name value = 0x40 ∷ (name_text name ++ (0x3D ∷ quoted value))

abbrev pub outline_attributes : ℕ → List Attribute → List ℕ
outline_attributes level [] = []
outline_attributes level (attribute ∷ attributes) = line level (attribute_text attribute.name attribute.value) ++ outline_attributes level attributes

-- an element before its attributes, these before what is inside it, one level deeper
abbrev pub outline_forest : ℕ → Forest → List ℕ
outline_forest level no_more = []
outline_forest level (a_text characters rest) = line level (quoted characters) ++ outline_forest level rest
outline_forest level (an_element name attributes inside rest) =
    line level (name_text name) ++ (outline_attributes (level + 1) attributes ++ (outline_forest (level + 1) inside ++ outline_forest level rest))

-- the outline of a document, in UTF-8
unfoldable pub outline_text : Forest → List ℕ
outline_text tree = encode_utf8_all (outline_forest 0 tree)

abbrev pub optional_name_text : Option Name → List ℕ
optional_name_text None = []
optional_name_text (Some name) = name_text name

abbrev pub line_of : Kind → ℕ → Option Name → List ℕ → List ℕ
line_of kinds.Document level name text = []
line_of kinds.Element level name text = line level (optional_name_text name)
line_of kinds.Attribute level name text = line level (0x40 ∷ (optional_name_text name ++ (0x3D ∷ quoted text)))
line_of kinds.Text level name text = line level (quoted text)

-- a node's line at its level, which is how many elements it is inside
abbrev pub node_line : Node → List ℕ
node_line node = line_of node.kind (length node.above - 1) node.name node.text

-- the line of a node as if it were of the kind
abbrev pub line_as : Kind → List Name → Placed → List ℕ
line_as kind names node = line_of kind (length node.above - 1) (option_map (name_at names) node.name) node.text

-- the outline of the document's tree
abbrev pub outline_protocol : List ℕ → Protocol
outline_protocol file = document_protocol file (λ found. ends (done (outline_text (tree_of found))))
