-- Names of the tables beside the names of a document.
use Rattle.std.specs.Prelude.{ℕ, Bool, true, false, List, [], Option, Some, None}
use Rattle.std.specs.Str.{bytes_eq}
use Rattle.inv_base.specs.Tree.{Name, Node}
use Rattle.bind_rows.specs.declared.names.ElementName.{ElementName}
use Rattle.bind_rows.specs.Namespaces.{uri_of}

-- The local names are compared first, since they differ sooner.
abbrev pub is_spelled : List ℕ → List ℕ → Name → Bool
is_spelled uri local name = elim (bytes_eq local name.local) [ true ↦ bytes_eq uri name.uri | false ↦ false ]

abbrev pub is_named : List ℕ → List ℕ → Option Name → Bool
is_named uri local None = false
is_named uri local (Some name) = is_spelled uri local name

-- The node has the expanded name.
abbrev pub has_element_name : ElementName → Node → Bool
has_element_name name node = is_named (uri_of name.namespace) name.local node.name

-- The node has the local name, in no namespace.
abbrev pub has_plain_name : List ℕ → Node → Bool
has_plain_name local node = is_named [] local node.name
