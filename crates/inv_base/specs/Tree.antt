-- The plain tree of a document, after the XML information set: elements with attributes, and texts. Names are expanded
-- (Namespaces in XML 1.0). Texts are lists of characters, by their code points.
use Rattle.std.specs.Prelude.{◌≡◌, ℕ, ◌+◌, Bool, true, false, not, ◌&&◌, ◌||◌, ◌==◌, List, [], ◌∷◌, ◌++◌, length, Option, Some, None, filter, flat_map}
use Rattle.inv_base.specs.declared.tree.Kind.{Kind}
use Rattle.inv_base.specs.declared.tree.Kind.TheVariants as kinds

-- an expanded name: a namespace name, empty for none, and a local name
pub record Name : Type 0 where
  pub uri : List ℕ
  pub local : List ℕ

pub record Attribute : Type 0 where
  pub name : Name
  pub value : List ℕ

-- What stands side by side in an element: nothing, a text and what follows it, or an element with its attributes, what is
-- inside it, and what follows it.
pub data Forest : Type 0 where
  no_more : Forest
  a_text : List ℕ → Forest → Forest
  an_element : Name → List Attribute → Forest → Forest → Forest

-- The forest begins with a text.
abbrev pub begins_with_text : Forest → Bool
begins_with_text no_more = false
begins_with_text (a_text characters rest) = true
begins_with_text (an_element name attributes inside rest) = false

-- No text is empty, and no two texts stand side by side.
abbrev pub is_joined : Forest → Bool
is_joined no_more = true
is_joined (a_text characters rest) = not (length characters == 0) && (not (begins_with_text rest) && is_joined rest)
is_joined (an_element name attributes inside rest) = is_joined inside && is_joined rest

-- The forest is a document: one element, with joined texts.
pub record IsDocument (forest : Forest) : Type 0 where
  pub name : Name
  pub attributes : List Attribute
  pub inside : Forest
  pub root : forest ≡ an_element name attributes inside no_more
  pub joined : is_joined inside ≡ true

-- A node: how many nodes come before it in document order, its kind, its name, the numbers of its ancestors from the
-- nearest to the document's, and its own text: the characters of a text, the value of an attribute, else none. The path of a
-- node is its number before those of its ancestors.
pub record Node : Type 0 where
  pub number : ℕ
  pub kind : Kind
  pub name : Option Name
  pub above : List ℕ
  pub text : List ℕ

-- how many nodes a forest has
abbrev pub size : Forest → ℕ
size no_more = 0
size (a_text characters rest) = 1 + size rest
size (an_element name attributes inside rest) = 1 + (length attributes + (size inside + size rest))

-- The nodes in document order, the first with the number: a node comes before its attributes, these before its children,
-- and siblings in their order.
abbrev pub nodes_of_attributes : List ℕ → ℕ → List Attribute → List Node
nodes_of_attributes above n [] = []
nodes_of_attributes above n (attribute ∷ attributes) =
    record { number = n; kind = kinds.Attribute; name = Some attribute.name; above = above; text = attribute.value } ∷ nodes_of_attributes above
    (n + 1) attributes

abbrev pub nodes_of : List ℕ → ℕ → Forest → List Node
nodes_of above n no_more = []
nodes_of above n (a_text characters rest) =
    record { number = n; kind = kinds.Text; name = None; above = above; text = characters } ∷ nodes_of above (n + 1) rest
nodes_of above n (an_element name attributes inside rest) =
    record { number = n; kind = kinds.Element; name = Some name; above = above; text = [] }
    ∷ (nodes_of_attributes (n ∷ above) (n + 1) attributes
    ++ (nodes_of (n ∷ above) (n + (1 + length attributes)) inside
    ++ nodes_of above (n + (1 + (length attributes + size inside))) rest))

-- all nodes of a document, itself first
abbrev pub document_nodes : Forest → List Node
document_nodes forest = record { number = 0; kind = kinds.Document; name = None; above = []; text = [] } ∷ nodes_of (0 ∷ []) 1 forest

-- The number is among the numbers.
abbrev pub is_among : ℕ → List ℕ → Bool
is_among n [] = false
is_among n (m ∷ numbers) = n == m || is_among n numbers

abbrev pub is_text : Node → Bool
is_text node = elim node.kind [ kinds.Document ↦ false | kinds.Element ↦ false | kinds.Attribute ↦ false | kinds.Text ↦ true ]

-- the string of a node among all nodes: its own text, and then the texts inside it in document order
abbrev pub string_of : List Node → Node → List ℕ
string_of nodes node = node.text ++ flat_map (λ (inner : Node). inner.text) (filter (λ inner. is_text inner && is_among node.number inner.above) nodes)
