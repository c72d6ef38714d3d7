-- The functions that expressions may call (XQuery 1.0 and XPath 2.0 Functions and Operators, in a subset): their names, and how many
-- arguments they take.
use Rattle.std.specs.Prelude.{ℕ, Bool, true, ◌&&◌, List, [], ◌∷◌, Option, Some, None, codes, nat_le, ◌≡◌, refl}
use Rattle.std.specs.Str.{chars}
use Rattle.xpath_grammar.specs.declared.functions.Function.{Function}
use Rattle.xpath_grammar.specs.declared.functions.Function.TheVariants as f

-- the local part of its name
abbrev pub function_word : Function → List ℕ
function_word f.True = codes "true"
function_word f.False = codes "false"
function_word f.Position = codes "position"
function_word f.Last = codes "last"
function_word f.Not = codes "not"
function_word f.Boolean = codes "boolean"
function_word f.Exists = codes "exists"
function_word f.Empty = codes "empty"
function_word f.Count = codes "count"
function_word f.Reverse = codes "reverse"
function_word f.Data = codes "data"
function_word f.String = codes "string"
function_word f.Concat = codes "concat"
function_word f.StringJoin = codes "string-join"
function_word f.Substring = codes "substring"
function_word f.StringLength = codes "string-length"
function_word f.NormalizeSpace = codes "normalize-space"
function_word f.UpperCase = codes "upper-case"
function_word f.LowerCase = codes "lower-case"
function_word f.Translate = codes "translate"
function_word f.Contains = codes "contains"
function_word f.StartsWith = codes "starts-with"
function_word f.EndsWith = codes "ends-with"
function_word f.Matches = codes "matches"
function_word f.SubstringBefore = codes "substring-before"
function_word f.SubstringAfter = codes "substring-after"
function_word f.Abs = codes "abs"
function_word f.Floor = codes "floor"
function_word f.Ceiling = codes "ceiling"
function_word f.Round = codes "round"
function_word f.Sum = codes "sum"
function_word f.Min = codes "min"
function_word f.Max = codes "max"
function_word f.DistinctValues = codes "distinct-values"
function_word f.LocalName = codes "local-name"
function_word f.NamespaceUri = codes "namespace-uri"
function_word f.XsString = codes "string"
function_word f.XsDecimal = codes "decimal"
function_word f.XsInteger = codes "integer"
function_word f.XsDate = codes "date"
function_word f.XsBoolean = codes "boolean"

-- those in the namespace of functions
abbrev pub functions : List Function
functions = f.True ∷ f.False ∷ f.Position ∷ f.Last ∷ f.Not ∷ f.Boolean ∷ f.Exists ∷ f.Empty ∷ f.Count ∷ f.Reverse ∷ f.Data
    ∷ f.String ∷ f.Concat ∷ f.StringJoin ∷ f.Substring ∷ f.StringLength ∷ f.NormalizeSpace ∷ f.UpperCase ∷ f.LowerCase
    ∷ f.Translate ∷ f.Contains ∷ f.StartsWith ∷ f.EndsWith ∷ f.Matches ∷ f.SubstringBefore ∷ f.SubstringAfter ∷ f.Abs ∷ f.Floor
    ∷ f.Ceiling ∷ f.Round ∷ f.Sum ∷ f.Min ∷ f.Max ∷ f.DistinctValues ∷ f.LocalName ∷ f.NamespaceUri ∷ []

-- the functions of the types, in the namespace of types
abbrev pub types : List Function
types = f.XsString ∷ f.XsDecimal ∷ f.XsInteger ∷ f.XsDate ∷ f.XsBoolean ∷ []

-- how few arguments it takes
abbrev pub fewest : Function → ℕ
fewest f.True = 0
fewest f.False = 0
fewest f.Position = 0
fewest f.Last = 0
fewest f.String = 0
fewest f.StringLength = 0
fewest f.NormalizeSpace = 0
fewest f.LocalName = 0
fewest f.NamespaceUri = 0
fewest f.Concat = 2
fewest f.StringJoin = 2
fewest f.Substring = 2
fewest f.Contains = 2
fewest f.StartsWith = 2
fewest f.EndsWith = 2
fewest f.Matches = 2
fewest f.SubstringBefore = 2
fewest f.SubstringAfter = 2
fewest f.Translate = 3
fewest _ = 1

-- how many arguments it takes at most, where there is a most
abbrev pub most : Function → Option ℕ
most f.Concat = None
most f.True = Some 0
most f.False = Some 0
most f.Position = Some 0
most f.Last = Some 0
most f.StringJoin = Some 2
most f.Contains = Some 2
most f.StartsWith = Some 2
most f.EndsWith = Some 2
most f.Matches = Some 2
most f.SubstringBefore = Some 2
most f.SubstringAfter = Some 2
most f.Substring = Some 3
most f.Translate = Some 3
most _ = Some 1

abbrev pub is_at_most : ℕ → Option ℕ → Bool
is_at_most n None = true
is_at_most n (Some limit) = nat_le n limit

abbrev pub takes : Function → ℕ → Bool
takes function count = nat_le (fewest function) count && is_at_most count (most function)

-- names of functions are ASCII
pub chars-function_word : (function : Function) → chars (function_word function) ≡ function_word function
unfolding chars
chars-function_word f.True = refl
chars-function_word f.False = refl
chars-function_word f.Position = refl
chars-function_word f.Last = refl
chars-function_word f.Not = refl
chars-function_word f.Boolean = refl
chars-function_word f.Exists = refl
chars-function_word f.Empty = refl
chars-function_word f.Count = refl
chars-function_word f.Reverse = refl
chars-function_word f.Data = refl
chars-function_word f.String = refl
chars-function_word f.Concat = refl
chars-function_word f.StringJoin = refl
chars-function_word f.Substring = refl
chars-function_word f.StringLength = refl
chars-function_word f.NormalizeSpace = refl
chars-function_word f.UpperCase = refl
chars-function_word f.LowerCase = refl
chars-function_word f.Translate = refl
chars-function_word f.Contains = refl
chars-function_word f.StartsWith = refl
chars-function_word f.EndsWith = refl
chars-function_word f.Matches = refl
chars-function_word f.SubstringBefore = refl
chars-function_word f.SubstringAfter = refl
chars-function_word f.Abs = refl
chars-function_word f.Floor = refl
chars-function_word f.Ceiling = refl
chars-function_word f.Round = refl
chars-function_word f.Sum = refl
chars-function_word f.Min = refl
chars-function_word f.Max = refl
chars-function_word f.DistinctValues = refl
chars-function_word f.LocalName = refl
chars-function_word f.NamespaceUri = refl
chars-function_word f.XsString = refl
chars-function_word f.XsDecimal = refl
chars-function_word f.XsInteger = refl
chars-function_word f.XsDate = refl
chars-function_word f.XsBoolean = refl
