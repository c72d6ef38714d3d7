-- The elements of a rule file that count, by what they are (ISO/IEC 19757-3, section 5.4): one scan over the nodes of
-- the document. What an element is follows from what it stands in, its name and its attributes.
use Rattle.std.specs.Prelude.{ℕ, Bool, true, false, ◌&&◌, List, [], ◌∷◌, ◌++◌, slice_index_or, Option, Some, None, is_some, codes, if◌then◌else◌}
use Rattle.std.specs.Str.{bytes_eq}
use Rattle.inv_base.specs.declared.tree.Kind.TheVariants as kinds
use Rattle.inv_base.specs.Tree.{Name, Node}
use Rattle.node_arena.specs.Moves.{is_attribute}
use Rattle.schematron_meaning.specs.declared.attribute.Attribute.TheVariants as a
use Rattle.schematron_meaning.specs.declared.around.Around.{Around}
use Rattle.schematron_meaning.specs.declared.role.Role.{Role}
use Rattle.schematron_meaning.specs.declared.role.Role.TheVariants as r
use Rattle.schematron_meaning.specs.declared.tag.Tag.{Tag}
use Rattle.schematron_meaning.specs.declared.tag.Tag.TheVariants as t
use Rattle.schematron_meaning.specs.Words.{schematron, tag_word, attribute_word}

-- an attribute in no namespace
pub record Given : Type 0 where
  pub name : List ℕ
  pub value : List ℕ

-- An element that counts, or a text of a message: the number of its node, what it is, the number of the element that it
-- stands in, where those that give their texts are left out, its attributes in no namespace, and its characters.
pub record Entry : Type 0 where
  pub number : ℕ
  pub role : Role
  pub parent : ℕ
  pub given : List Given
  pub text : List ℕ

-- Attributes

-- the value of the first of the name
abbrev pub value_of : List ℕ → List Given → Option (List ℕ)
value_of name [] = None
value_of name (given ∷ others) = elim (bytes_eq name given.name) [ true ↦ Some given.value | false ↦ value_of name others ]

-- An attribute counts where it is in no namespace.
abbrev pub given_by : List ℕ → Option Name → List Given
given_by value None = []
given_by value (Some name) = if bytes_eq name.uri [] then record { name = name.local; value = value } ∷ [] else []

-- the attributes of an element, of which the nodes stand right behind its own
abbrev pub given_at : List Node → List Given
given_at [] = []
given_at (node ∷ nodes) = elim (is_attribute node) [ true ↦ given_by node.text node.name ++ given_at nodes | false ↦ [] ]

-- Only an element has some.
abbrev pub given_behind : Node → List Node → List Given
given_behind node nodes = elim node.kind [ kinds.Document ↦ [] | kinds.Element ↦ given_at nodes | kinds.Attribute ↦ [] | kinds.Text ↦ [] ]

-- Roles

abbrev pub in_pattern : List (Tag × Role)
in_pattern = (t.Title, r.Passed) ∷ (t.Paragraph, r.Passed) ∷ (t.Let, r.Let) ∷ (t.Rule, r.Rule) ∷ []

abbrev pub in_rule : List (Tag × Role)
in_rule = (t.Paragraph, r.Passed) ∷ (t.Let, r.Let) ∷ (t.Assert, r.Assert) ∷ (t.Report, r.Report) ∷ (t.Extends, r.Extends) ∷ []

abbrev pub in_message : List (Tag × Role)
in_message = (t.ValueOf, r.ValueOf) ∷ (t.NodeName, r.NodeName) ∷ (t.Emphasis, r.Wording) ∷ (t.Span, r.Wording) ∷ (t.Direction, r.Wording) ∷ []

-- what may stand in an element, by its local name
abbrev pub children : Role → List (Tag × Role)
children r.Schema = (t.Title, r.Passed) ∷ (t.Paragraph, r.Passed) ∷ (t.Namespace, r.Namespace) ∷ (t.Let, r.Let) ∷ (t.Phase, r.Phase)
    ∷ (t.Pattern, r.Pattern) ∷ (t.Diagnostics, r.Passed) ∷ (t.Properties, r.Passed) ∷ []
children r.Phase = (t.Paragraph, r.Passed) ∷ (t.Let, r.Let) ∷ (t.Active, r.Active) ∷ []
children r.Pattern = in_pattern
children r.AbstractPattern = in_pattern
children r.Use = (t.Title, r.Passed) ∷ (t.Paragraph, r.Passed) ∷ (t.Parameter, r.Parameter) ∷ []
children r.Rule = in_rule
children r.AbstractRule = in_rule
children r.Assert = in_message
children r.Report = in_message
children _ = []

abbrev pub role_among : List (Tag × Role) → List ℕ → Role
role_among [] local = r.Misplaced
role_among (entry ∷ entries) local = elim (bytes_eq (tag_word entry.0) local) [ true ↦ entry.1 | false ↦ role_among entries local ]

abbrev pub is_true : Option (List ℕ) → Bool
is_true None = false
is_true (Some value) = bytes_eq value (codes "true")

-- A pattern by whether it is abstract and whether it uses another, which doesn't go together.
abbrev pub pattern_role : Bool → Bool → Role
pattern_role true true = r.Misplaced
pattern_role true false = r.AbstractPattern
pattern_role false true = r.Use
pattern_role false false = r.Pattern

abbrev pub rule_role : Bool → Role
rule_role true = r.AbstractRule
rule_role false = r.Rule

abbrev pub by_attributes : List Given → Role → Role
by_attributes given r.Pattern = pattern_role (is_true (value_of (attribute_word a.Abstract) given)) (is_some (value_of (attribute_word a.IsA) given))
by_attributes given r.Rule = rule_role (is_true (value_of (attribute_word a.Abstract) given))
by_attributes given role = role

abbrev pub root_role : Bool → List ℕ → Role
root_role is_schematron local = if is_schematron && bytes_eq (tag_word t.Schema) local then r.Schema else r.OtherRoot

abbrev pub child_role : Role → Bool → List ℕ → List Given → Role
child_role parent true local given = by_attributes given (role_among (children parent) local)
child_role parent false local given = r.Passed

-- an element in one of the role: what is inside something that doesn't count doesn't, nor does what is in another
-- namespace
abbrev pub element_role : Role → Name → List Given → Role
element_role r.Outside name given = root_role (bytes_eq name.uri schematron) name.local
element_role r.OtherRoot name given = r.Passed
element_role r.Misplaced name given = r.Passed
element_role r.Passed name given = r.Passed
element_role parent name given = child_role parent (bytes_eq name.uri schematron) name.local given

-- a text counts in a message
abbrev pub text_role : Role → Role
text_role r.Assert = r.Characters
text_role r.Report = r.Characters
text_role r.Wording = r.Characters
text_role _ = r.Passed

abbrev pub named_role : Role → Option Name → List Given → Role
named_role parent None given = r.Passed
named_role parent (Some name) given = element_role parent name given

-- a node in one of the role
abbrev pub role_of : Role → Node → List Given → Role
role_of parent node given = elim node.kind [
  | kinds.Document ↦ r.Outside
  | kinds.Element ↦ named_role parent node.name given
  | kinds.Attribute ↦ r.Passed
  | kinds.Text ↦ text_role parent
]

-- The scan

-- the document's own node is in none
abbrev pub outermost : Around
outermost = record { role = r.Passed; number = 0 }

abbrev pub nearest_of : List Around → List ℕ → Around
nearest_of seen [] = outermost
nearest_of seen (n ∷ above) = slice_index_or seen n outermost

-- What gives its texts lends them to the element around it.
abbrev pub around_by : Role → ℕ → ℕ → Around
around_by r.Wording number parent = record { role = r.Wording; number = parent }
around_by role number parent = record { role = role; number = number }

abbrev pub around_of : Around → Node → Role → Around
around_of parent node role = around_by role node.number parent.number

abbrev pub is_listed : Role → Bool
is_listed r.Outside = false
is_listed r.Wording = false
is_listed r.Passed = false
is_listed _ = true

abbrev pub listed : Bool → Entry → List Entry
listed true entry = entry ∷ []
listed false entry = []

abbrev pub entry_of : Around → Node → Role → List Given → Entry
entry_of parent node role given = record { number = node.number; role = role; parent = parent.number; given = given; text = node.text }

-- what the nodes from one on say, where it is known what those before it are
abbrev pub entries_behind : List Around → List Node → List Entry
entries_behind seen [] = []
entries_behind seen (node ∷ nodes) =
    let parent : Around = nearest_of seen node.above in
    let given : List Given = given_behind node nodes in
    let role : Role = role_of parent.role node given in
    listed (is_listed role) (entry_of parent node role given) ++ entries_behind (seen ++ around_of parent node role ∷ []) nodes

-- the entries of a document, in its order
unfoldable pub entries : List Node → List Entry
entries nodes = entries_behind [] nodes
