-- Prefixes with the namespaces that they are bound to, and names of variables.
use Rattle.std.specs.Prelude.{ℕ, Bool, true, false, List, [], ◌∷◌, ◌++◌, Option, Some, None, codes, is_some, if◌then◌else◌, map, chars, String, string_bytes}
use Rattle.std.specs.Global.{Global}
use Rattle.std.specs.List.{list_any}
use Rattle.std.specs.Str.{bytes_eq}
use Rattle.xpath_tokens.specs.declared.token.Name.{Name}
use Rattle.xpath_tokens.specs.declared.token.Name.TheVariants as n

pub record Binding : Type 0 where
  pub prefix : List ℕ
  pub uri : List ℕ

-- what is declared outside an expression, in the order in which it was given
pub record Declared : Type 0 where
  pub prefixes : List Binding
  pub variables : List (List ℕ)

abbrev pub functions_uri : List ℕ
functions_uri = codes "http://www.w3.org/2005/xpath-functions"

abbrev pub types_uri : List ℕ
types_uri = codes "http://www.w3.org/2001/XMLSchema"

-- the namespace of the first binding of the prefix
abbrev pub first_uri : List ℕ → List Binding → Option (List ℕ)
first_uri prefix [] = None
first_uri prefix (binding ∷ others) = elim (bytes_eq prefix binding.prefix) [ true ↦ Some binding.uri | false ↦ first_uri prefix others ]

-- `fn` and `xs` are bound in every scope
abbrev pub always_bound : List Binding
always_bound = record { prefix = codes "fn"; uri = functions_uri } ∷ record { prefix = codes "xs"; uri = types_uri } ∷ []

-- the namespace that a prefix is bound to
abbrev pub uri_of : List ℕ → Declared → Option (List ℕ)
uri_of prefix declared = first_uri prefix (always_bound ++ declared.prefixes)

-- one binding more: the first of a prefix counts
abbrev pub with_prefix : Declared → List ℕ → List ℕ → Declared
with_prefix declared prefix uri = if is_some (uri_of prefix declared) then declared else record declared {
  prefixes = declared.prefixes ++
      record { prefix = prefix; uri = uri } ∷ [];
}

abbrev pub declares : Declared → List ℕ → Bool
declares declared name = list_any (bytes_eq name) declared.variables

-- one variable more, unless it is there
abbrev pub with_variable : Declared → List ℕ → Declared
with_variable declared name = if declares declared name then declared else record declared { variables = declared.variables ++ name ∷ [] }

-- The parts of a name

abbrev pub prefix_of : Name → Option (List ℕ)
prefix_of (n.Prefixed prefix local) = Some prefix
prefix_of (n.AnyLocal prefix) = Some prefix
prefix_of _ = None

abbrev pub local_of : Name → List ℕ
local_of (n.Plain local) = local
local_of (n.Prefixed prefix local) = local
local_of (n.AnyLocal prefix) = codes "*"
local_of (n.AnyPrefix local) = local

abbrev pub with_colon : List ℕ → List ℕ → List ℕ
with_colon prefix local = prefix ++ (58 ∷ local)

-- as it is written
abbrev pub written_name : Name → List ℕ
written_name (n.Plain local) = local
written_name (n.Prefixed prefix local) = with_colon prefix local
written_name (n.AnyLocal prefix) = with_colon prefix (codes "*")
written_name (n.AnyPrefix local) = with_colon (codes "*") local

-- the namespace of a name, where a name without prefix is in the default one, and none where the prefix isn't bound
abbrev pub namespace_of : Declared → List ℕ → Name → Option (List ℕ)
namespace_of declared default name = elim (prefix_of name) [ None ↦ Some default | Some prefix ↦ uri_of prefix declared ]

-- What a scope declares

abbrev pub bindings_of : List (String Global × String Global) → List Binding
bindings_of entries = map (λ entry. record { prefix = chars (string_bytes entry.0); uri = chars (string_bytes entry.1) }) entries

abbrev pub declared_by : List (String Global × String Global) → List (String Global) → Declared
declared_by entries names = record { prefixes = bindings_of entries; variables = map (λ name. chars (string_bytes name)) names }
