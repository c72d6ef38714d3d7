-- Which trees canonical text writes so that they are read again, within limits.
use Rattle.std.specs.Prelude.{◌≡◌, ℕ, ◌+◌, ◌≤◌, max, nat_le, Bool, true, false, not, ◌&&◌, ◌||◌, ◌==◌, List, [], ◌∷◌, ◌++◌, map, filter, length, if◌then◌else◌}
use Rattle.std.specs.Prelude.{bytes_eq, encode_utf8_all}
use Rattle.std.specs.List.{list_all}
use Rattle.inv_base.specs.Characters.{is_char}
use Rattle.inv_base.specs.Tree.{Name, Attribute, Forest, no_more, a_text, an_element, IsDocument, size}
use Rattle.xml_tokens.specs.WrittenNames.{is_ncname}
use Rattle.xml_tokens.specs.Beginnings.{greatest_tag}
use Rattle.xml_state.specs.declared.limits.Limits.{Limits}
use Rattle.xml_events.specs.Names.{same_name}
use Rattle.xml_state.specs.Namespaces.{xmlns, is_bad_binding}
use Rattle.xml_state.specs.States.{with_names}
use Rattle.xml_state.specs.Admission.{has_twice}
use Rattle.xml_write.specs.Canonical.{Declaration, prefix_of, element_name, attribute_name, declaring_name, declarations_text, attributes_text, is_childless}
use Rattle.xml_write.specs.Canonical.{canonical_text}

-- the namespace name that a prefix stands for, that of the first declaration of it; empty where there is none
abbrev pub namespace_of : List Declaration → List ℕ → List ℕ
namespace_of [] prefix = []
namespace_of (declaration ∷ declarations) prefix = if bytes_eq declaration.prefix prefix then declaration.uri else namespace_of declarations prefix

-- A declaration that Namespaces in XML 1.0 allows, section 3: of an NCName or the default namespace, to a name of
-- Chars.
abbrev pub is_declarable : Declaration → Bool
is_declarable d =
    (length d.prefix == 0 || is_ncname d.prefix) && (list_all is_char d.uri && not (is_bad_binding (record { prefix = d.prefix; uri = d.uri })))

-- An element's local name is an NCName, and the prefix that is written stands for its namespace: where it is in none,
-- no default namespace is declared (section 6.2).
abbrev pub is_element_name : List Declaration → Name → Bool
is_element_name declarations name =
    is_ncname name.local && bytes_eq (namespace_of declarations (if length name.uri == 0 then [] else prefix_of declarations name.uri)) name.uri

-- the declarations of a prefix, without that of the default namespace
abbrev pub of_prefixes : List Declaration → List Declaration
of_prefixes declarations = filter (λ (d : Declaration). not (length d.prefix == 0)) declarations

-- The same of an attribute, which the default namespace doesn't reach: in no namespace it isn't named `xmlns`, and in
-- another it is written with a prefix.
abbrev pub is_attribute_name : List Declaration → Name → Bool
is_attribute_name declarations name =
    let prefix = prefix_of (of_prefixes declarations) name.uri in
    is_ncname name.local
    && (if length name.uri == 0 then not (bytes_eq name.local xmlns) else not (length prefix == 0) && bytes_eq (namespace_of declarations prefix) name.uri)

-- All elements pass the test, by their names and attributes.
abbrev pub all_elements : (Name → List Attribute → Bool) → Forest → Bool
all_elements test no_more = true
all_elements test (a_text characters rest) = all_elements test rest
all_elements test (an_element name attributes inside rest) = test name attributes && (all_elements test inside && all_elements test rest)

-- All texts pass the test.
abbrev pub all_texts : (List ℕ → Bool) → Forest → Bool
all_texts test no_more = true
all_texts test (a_text characters rest) = test characters && all_texts test rest
all_texts test (an_element name attributes inside rest) = all_texts test inside && all_texts test rest

-- how many elements stand inside one another
abbrev pub depth_of : Forest → ℕ
depth_of no_more = 0
depth_of (a_text characters rest) = depth_of rest
depth_of (an_element name attributes inside rest) = max (1 + depth_of inside) (depth_of rest)

-- the names of elements and attributes in document order, that of an element before those of its attributes
abbrev pub names_in : Forest → List Name
names_in no_more = []
names_in (a_text characters rest) = names_in rest
names_in (an_element name attributes inside rest) = name ∷ (map (λ (a : Attribute). a.name) attributes ++ (names_in inside ++ names_in rest))

-- The name as it is written takes no more bytes than the limit.
abbrev pub is_short : Limits → List ℕ → Bool
is_short limits written = nat_le (length (encode_utf8_all written)) limits.name

-- The tags of an element keep the limit on their bytes, by the name and by what stands in the start tag, in bytes: the
-- one tag `<` .. `/>` of an element that nothing stands inside, else `<` .. `>` and `</` name `>`.
abbrev pub tags_fit : Bool → List ℕ → List ℕ → Bool
tags_fit childless name text =
    if childless then nat_le (length text + 3) greatest_tag else (nat_le (length text + 2) greatest_tag && nat_le (length name + 3) greatest_tag)

-- An element whose start tag has declarations of its own keeps the limits on attributes, which declarations are too, on
-- names as they are written, and on the bytes of its tags.
abbrev pub keeps_limits : Limits → List Declaration → List Declaration → Name → List Attribute → Bool → Bool
keeps_limits limits declarations own name attributes childless =
    let text = element_name declarations name ++ (declarations_text own ++ attributes_text declarations attributes) in
    nat_le (length own + length attributes) limits.attributes
    && (list_all (λ (d : Declaration). is_short limits (declaring_name d.prefix)) own
    && (is_short limits (element_name declarations name)
    && (list_all (λ (a : Attribute). is_short limits (attribute_name declarations a.name)) attributes
    && tags_fit childless (encode_utf8_all (element_name declarations name)) (encode_utf8_all text))))

-- All elements do, where those of the outermost elements have declarations of their own.
abbrev pub keep_limits : Limits → List Declaration → List Declaration → Forest → Bool
keep_limits limits declarations own no_more = true
keep_limits limits declarations own (a_text characters rest) = keep_limits limits declarations own rest
keep_limits limits declarations own (an_element name attributes inside rest) =
    keeps_limits limits declarations own name attributes (is_childless inside) &&
    (keep_limits limits declarations [] inside && keep_limits limits declarations own rest)

-- The canonical text of the tree keeps the limits.
pub record IsWithin (limits : Limits) (declarations : List Declaration) (tree : Forest) : Type 0 where
  pub bytes : length (encode_utf8_all (canonical_text declarations tree)) ≤ limits.bytes
  -- the document is a node too
  pub nodes : size tree + 1 ≤ limits.nodes
  pub depth : depth_of tree ≤ limits.depth
  -- each name counts once
  pub names : length (with_names [] (names_in tree)) ≤ limits.names
  -- the root has the declarations
  pub tags : keep_limits limits declarations declarations tree ≡ true

-- Canonical text writes the tree, with these declarations, as a document within the limits: of Chars (XML 1.0,
-- production 2), with names and declarations as Namespaces in XML 1.0 has them, and attributes that differ (XML 1.0,
-- section 3.1; Namespaces, section 6.3).
pub record IsWritable (limits : Limits) (declarations : List Declaration) (tree : Forest) : Type 0 where
  -- one root, no empty text, and no two texts side by side
  pub document : IsDocument tree
  pub declarable : list_all is_declarable declarations ≡ true
  -- no prefix is declared twice
  pub apart : has_twice (λ (a b : Declaration). bytes_eq a.prefix b.prefix) declarations ≡ false
  pub elements : all_elements (λ name attributes. is_element_name declarations name) tree ≡ true
  pub attributes : all_elements (λ name attributes. list_all (λ (a : Attribute). is_attribute_name declarations a.name) attributes) tree ≡ true
  -- no two attributes of an element have one name
  pub distinct : all_elements (λ name attributes. not (has_twice (λ (a b : Attribute). same_name a.name b.name) attributes)) tree ≡ true
  -- values and texts are Chars
  pub values : all_elements (λ name attributes. list_all (λ (a : Attribute). list_all is_char a.value) attributes) tree ≡ true
  pub texts : all_texts (list_all is_char) tree ≡ true
  pub within : IsWithin limits declarations tree
