-- Namespaces in XML 1.0: which names prefixes stand for, and expanded names.
use Rattle.std.specs.Prelude.{ℕ, Bool, not, ◌&&◌, ◌||◌, ◌==◌, List, [], ◌∷◌, ◌++◌, length, map, filter, Option, Some, None, is_none, if◌then◌else◌, bytes_eq}
use Rattle.std.specs.Prelude.{codes, chars, filter_map}
use Rattle.inv_base.specs.Tree.{Name, Attribute}
use Rattle.xml_tokens.specs.WrittenNames.{prefix_of, local_of}
use Rattle.xml_tokens.specs.Markup.{Written, Tag}

-- A prefix as written, empty for the default namespace, and the namespace name that it stands for, empty for none.
pub record Binding : Type 0 where
  pub prefix : List ℕ
  pub uri : List ℕ

-- the prefix `xml`
abbrev pub xml : List ℕ
xml = codes "xml"

-- the prefix, and the attribute, by which namespaces are declared
abbrev pub xmlns : List ℕ
xmlns = codes "xmlns"

-- the namespace name of `xml`
abbrev pub xml_uri : List ℕ
xml_uri = codes "http://www.w3.org/XML/1998/namespace"

-- the namespace name of `xmlns`
abbrev pub xmlns_uri : List ℕ
xmlns_uri = codes "http://www.w3.org/2000/xmlns/"

-- what is bound outside the root: there is no default namespace, and `xml` has its own
abbrev pub first_bindings : List Binding
first_bindings = record { prefix = []; uri = [] } ∷ record { prefix = xml; uri = xml_uri } ∷ []

-- the prefix that an attribute of this name declares, where it is a declaration
abbrev pub declared_prefix : List ℕ → Option (List ℕ)
declared_prefix name =
    if bytes_eq name xmlns then Some []
    else (if bytes_eq (prefix_of name) xmlns then Some (local_of name) else None)

-- the binding that an attribute declares
abbrev pub declared_binding : Written → Option Binding
declared_binding attribute = elim (declared_prefix attribute.name) [
  | None ↦ None
  | (Some prefix) ↦ Some (record { prefix = prefix; uri = attribute.value })
]

-- the bindings that attributes declare
abbrev pub declared_bindings : List Written → List Binding
declared_bindings attributes = filter_map declared_binding attributes

-- the attributes that are no declarations
abbrev pub undeclaring : List Written → List Written
undeclaring attributes = filter (λ (attribute : Written). is_none (declared_prefix attribute.name)) attributes

-- A binding that may not be declared, section 3: of `xmlns`, of `xml` to another name, of another prefix or the default
-- namespace to its name, to the name of xmlns, or of a prefix to no name.
abbrev pub is_bad_binding : Binding → Bool
is_bad_binding binding =
    bytes_eq binding.prefix xmlns
    || ((if bytes_eq binding.prefix xml then not (bytes_eq binding.uri xml_uri) else bytes_eq binding.uri xml_uri)
    || (bytes_eq binding.uri xmlns_uri || (not (length binding.prefix == 0) && length binding.uri == 0)))

-- the first binding of a prefix
abbrev pub bound_uri : List ℕ → List Binding → Option (List ℕ)
bound_uri prefix [] = None
bound_uri prefix (binding ∷ bindings) = if bytes_eq binding.prefix prefix then Some binding.uri else bound_uri prefix bindings

-- the name that a prefix stands for, none where it isn't bound
abbrev pub uri_of : List Binding → List ℕ → List ℕ
uri_of bindings prefix = elim (bound_uri prefix bindings) [ None ↦ [] | (Some uri) ↦ uri ]

-- The prefix of the name isn't bound.
abbrev pub is_undeclared : List Binding → List ℕ → Bool
is_undeclared bindings name = is_none (bound_uri (prefix_of name) bindings)

-- the expanded name of an element
abbrev pub element_name : List Binding → List ℕ → Name
element_name bindings name = record { uri = uri_of bindings (prefix_of name); local = chars (local_of name) }

-- the name that the prefix of an attribute stands for, which the default namespace doesn't reach
abbrev pub attribute_uri : List Binding → List ℕ → List ℕ
attribute_uri bindings prefix = if length prefix == 0 then [] else uri_of bindings prefix

-- the expanded name of an attribute
abbrev pub attribute_name : List Binding → List ℕ → Name
attribute_name bindings name = record { uri = attribute_uri bindings (prefix_of name); local = chars (local_of name) }

-- the attributes of a tag in the tree
abbrev pub attributes_of : List Binding → List Written → List Attribute
attributes_of bindings attributes =
    map (λ (attribute : Written). record { name = attribute_name bindings attribute.name; value = attribute.value }) (undeclaring attributes)

-- the bindings inside an element, the innermost first
abbrev pub bindings_inside : List Binding → Tag → List Binding
bindings_inside outer tag = declared_bindings tag.attributes ++ outer
