-- The functions that expressions may call (XQuery 1.0 and XPath 2.0 Functions and Operators, in a subset): what names stand for
-- them, and of what kinds the items of their values are.
use Rattle.std.specs.Prelude.{ℕ, List, [], Option, Some, None, if◌then◌else◌}
use Rattle.std.specs.Str.{bytes_eq}
use Rattle.xpath_tokens.specs.declared.token.Name.{Name}
use Rattle.xpath_grammar.specs.declared.functions.Function.{Function}
use Rattle.xpath_grammar.specs.declared.functions.Function.TheVariants as f
use Rattle.xpath_grammar.specs.Functions.{function_word, functions, types}
use Rattle.xpath_grammar.specs.Grammar.{named_in}
use Rattle.xpath_types.specs.declared.functions.Resolved.{Resolved}
use Rattle.xpath_types.specs.declared.functions.Resolved.TheVariants as n
use Rattle.xpath_types.specs.Kinds.{Kinds, booleans, numbers, strings, dates, atomised, extreme}
use Rattle.xpath_types.specs.Scopes.{Declared, functions_uri, types_uri, namespace_of, local_of}

-- the function of the type of an expanded name
unfoldable pub type_in : List ℕ → List ℕ → Option Function
type_in uri local = if bytes_eq uri types_uri then named_in function_word types local else None

-- the function of an expanded name
unfoldable pub function_in : List ℕ → List ℕ → Option Function
function_in uri local = if bytes_eq uri functions_uri then named_in function_word functions local else type_in uri local

abbrev pub known : Option Function → Resolved
known None = n.Unknown
known (Some function) = n.Known function

-- what a name stands for where a name without prefix is in the default namespace
abbrev pub resolved : Option (List ℕ) → (List ℕ → List ℕ → Option Function) → Name → Resolved
resolved None find name = n.Unbound
resolved (Some uri) find name = known (find uri (local_of name))

-- The function that a name calls. Without prefix it is in the namespace of functions.
abbrev pub function_called : Declared → Name → Resolved
function_called declared name = resolved (namespace_of declared functions_uri name) function_in name

-- The function of the type of a name. Without prefix it is in no namespace.
abbrev pub type_named : Declared → Name → Resolved
type_named declared name = resolved (namespace_of declared [] name) type_in name

-- the kinds of its value, by those of its first argument
abbrev pub value_kinds : Function → Kinds → Kinds
value_kinds f.Reverse argument = argument
value_kinds f.Data argument = atomised argument
value_kinds f.DistinctValues argument = atomised argument
value_kinds f.Min argument = extreme argument
value_kinds f.Max argument = extreme argument
value_kinds f.Position argument = numbers
value_kinds f.Last argument = numbers
value_kinds f.Count argument = numbers
value_kinds f.StringLength argument = numbers
value_kinds f.Abs argument = numbers
value_kinds f.Floor argument = numbers
value_kinds f.Ceiling argument = numbers
value_kinds f.Round argument = numbers
value_kinds f.Sum argument = numbers
value_kinds f.XsDecimal argument = numbers
value_kinds f.XsInteger argument = numbers
value_kinds f.True argument = booleans
value_kinds f.False argument = booleans
value_kinds f.Not argument = booleans
value_kinds f.Boolean argument = booleans
value_kinds f.Exists argument = booleans
value_kinds f.Empty argument = booleans
value_kinds f.Contains argument = booleans
value_kinds f.StartsWith argument = booleans
value_kinds f.EndsWith argument = booleans
value_kinds f.Matches argument = booleans
value_kinds f.XsBoolean argument = booleans
value_kinds f.XsDate argument = dates
value_kinds _ argument = strings
