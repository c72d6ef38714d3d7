-- Canonical text of a tree: the one way in which `einv` writes XML (1.0, fifth edition) with namespaces (Namespaces in XML
-- 1.0). The choice among the ways that those allow is this project's own. All texts here are lists of characters; what is
-- written is their UTF-8.
use Rattle.std.specs.Prelude.{ℕ, Bool, true, false, not, ◌==◌, List, [], ◌∷◌, ◌++◌, length, filter, flat_map, codes, bytes_eq, if◌then◌else◌}
use Rattle.inv_base.specs.Tree.{Forest, no_more, a_text, an_element, Name, Attribute}
use Rattle.xml_write.specs.Escapes.{in_text, in_value}

-- a namespace declaration: a prefix, empty for the default namespace, and a namespace name
pub record Declaration : Type 0 where
  pub prefix : List ℕ
  pub uri : List ℕ

-- the first line of every document
unfoldable pub declaration_line : List ℕ
declaration_line = codes "<?xml version=\"1.0\" encoding=\"UTF-8\"?>" ++ 0xA ∷ []

-- a local name behind a prefix and a colon, alone where the prefix is empty
abbrev pub qualified : List ℕ → List ℕ → List ℕ
qualified [] local = local
qualified (c ∷ prefix) local = c ∷ (prefix ++ 0x3A ∷ local)

-- the prefix that the list gives a namespace, that of its first declaration there; empty where it declares none
abbrev pub prefix_of : List Declaration → List ℕ → List ℕ
prefix_of [] uri = []
prefix_of (declaration ∷ declarations) uri = if bytes_eq declaration.uri uri then declaration.prefix else prefix_of declarations uri

-- The name of an element as it is written. In no namespace, or in one that the list doesn't declare, it is the local name alone.
abbrev pub element_name : List Declaration → Name → List ℕ
element_name declarations name = qualified (if length name.uri == 0 then [] else prefix_of declarations name.uri) name.local

-- The name of an attribute as it is written. The default namespace doesn't reach attributes (section 6.2 of Namespaces), so
-- only the declarations of a prefix count.
abbrev pub attribute_name : List Declaration → Name → List ℕ
attribute_name declarations name = element_name (filter (λ (d : Declaration). not (length d.prefix == 0)) declarations) name

-- the name of the attribute that declares a prefix, or the default namespace
abbrev pub declaring_name : List ℕ → List ℕ
declaring_name [] = codes "xmlns"
declaring_name (c ∷ prefix) = codes "xmlns:" ++ c ∷ prefix

-- an attribute behind a space, its value between quotes
abbrev pub attribute_text : List ℕ → List ℕ → List ℕ
attribute_text name value = 0x20 ∷ (name ++ 0x3D ∷ 0x22 ∷ (flat_map in_value value ++ 0x22 ∷ []))

abbrev pub declarations_text : List Declaration → List ℕ
declarations_text declarations = flat_map (λ (d : Declaration). attribute_text (declaring_name d.prefix) d.uri) declarations

abbrev pub attributes_text : List Declaration → List Attribute → List ℕ
attributes_text declarations attributes = flat_map (λ (a : Attribute). attribute_text (attribute_name declarations a.name) a.value) attributes

-- an element by its name, the text of its attributes, whether it has no children, and the text of what is inside it
abbrev pub element_text : List ℕ → List ℕ → Bool → List ℕ → List ℕ
element_text name attributes true inside = 0x3C ∷ (name ++ (attributes ++ codes "/>"))
element_text name attributes false inside = 0x3C ∷ (name ++ (attributes ++ 0x3E ∷ (inside ++ (codes "</" ++ (name ++ 0x3E ∷ [])))))

-- Nothing is in the forest but texts without a character, which are no nodes.
abbrev pub is_childless : Forest → Bool
is_childless no_more = true
is_childless (a_text [] rest) = is_childless rest
is_childless (a_text (c ∷ characters) rest) = false
is_childless (an_element name attributes inside rest) = false

-- what stands inside an element
abbrev pub forest_text : List Declaration → Forest → List ℕ
forest_text declarations no_more = []
forest_text declarations (a_text characters rest) = flat_map in_text characters ++ forest_text declarations rest
forest_text declarations (an_element name attributes inside rest) =
    element_text (element_name declarations name) (attributes_text declarations attributes) (is_childless inside) (forest_text declarations inside)
    ++ forest_text declarations rest

-- The canonical text of a document: the first line, the root with all declarations before its attributes, and LF. A forest
-- that doesn't begin with an element is no document and has no text, and nothing that follows the root belongs to the document.
abbrev pub canonical_text : List Declaration → Forest → List ℕ
canonical_text declarations no_more = []
canonical_text declarations (a_text characters rest) = []
canonical_text declarations (an_element name attributes inside rest) =
    declaration_line
    ++ (element_text (element_name declarations name) (declarations_text declarations ++ attributes_text declarations attributes) (is_childless inside)
    (forest_text declarations inside)
    ++ 0xA ∷ [])
