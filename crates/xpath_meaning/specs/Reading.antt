-- How texts are read as values of a type (Functions and Operators, section 17.1.1; XML Schema Part 2, section 3.2), and
-- the casts.
use Rattle.std.specs.Prelude.{ℕ, Bool, true, false, not, ◌||◌, List, [], ◌∷◌, reverse, Option, Some, None, Result, Ok, Err, codes, ℤ, pos, ◌*ℤ◌, int_div}
use Rattle.std.specs.Prelude.{unsigned_abs}
use Rattle.std.specs.List.{list_any}
use Rattle.std.specs.Str.{bytes_eq}
use Rattle.inv_base.specs.Characters.{is_white_space}
use Rattle.inv_base.specs.Tree.{Node}
use Rattle.inv_decimal.specs.Number.{unit}
use Rattle.inv_decimal.specs.CivilDay.{CivilDay}
use Rattle.inv_decimal.specs.WrittenNumber.{read_decimal, is_point}
use Rattle.inv_decimal.specs.WrittenDay.{read_dashed_day}
use Rattle.xpath_grammar.specs.declared.functions.Function.{Function}
use Rattle.xpath_grammar.specs.declared.functions.Function.TheVariants as f
use Rattle.xpath_grammar.specs.declared.operators.CastWord.{CastWord}
use Rattle.xpath_grammar.specs.declared.operators.CastWord.TheVariants as c
use Rattle.xpath_items.specs.declared.item.Item.{Item}
use Rattle.xpath_items.specs.declared.item.Item.TheVariants as i
use Rattle.xpath_items.specs.declared.outcome.DynError.{DynError}
use Rattle.xpath_items.specs.declared.outcome.DynError.TheVariants as e
use Rattle.xpath_meaning.specs.Values.{Value, then_, one}
use Rattle.xpath_meaning.specs.Items.{text_of, is_zero}

-- the characters behind the white space at the front
abbrev pub without_leading_space : List ℕ → List ℕ
without_leading_space [] = []
without_leading_space (c ∷ text) = elim (is_white_space c) [ true ↦ without_leading_space text | false ↦ c ∷ text ]

-- the characters between the white space at both ends
abbrev pub trimmed : List ℕ → List ℕ
trimmed text = reverse (without_leading_space (reverse (without_leading_space text)))

-- a text that doesn't have the form of its type
abbrev pub formed : {X : Type 0} → Option X → Result X DynError
formed (Some x) = Ok x
formed None = Err e.FORG0001

-- Deviation: numbers are decimals of at most 18 digits on each side of the point, where XPath 2.0 reads untyped text as
-- a double.
abbrev pub read_number : List ℕ → Result ℤ DynError
read_number text = formed (read_decimal (trimmed text))

abbrev pub has_point : List ℕ → Bool
has_point text = list_any is_point text

-- a sign and digits only
abbrev pub whole_number : List ℕ → Option ℤ
whole_number text = elim (has_point text) [ true ↦ None | false ↦ read_decimal text ]

abbrev pub read_whole_number : List ℕ → Result ℤ DynError
read_whole_number text = formed (whole_number (trimmed text))

abbrev pub read_day : List ℕ → Result CivilDay DynError
read_day text = formed (read_dashed_day (trimmed text))

abbrev pub boolean_in : List ℕ → Option Bool
boolean_in text = elim (bytes_eq text (codes "true") || bytes_eq text (codes "1")) [
  | true ↦ Some true
  | false ↦ elim (bytes_eq text (codes "false") || bytes_eq text (codes "0")) [ true ↦ Some false | false ↦ None ]
]

abbrev pub read_boolean : List ℕ → Result Bool DynError
read_boolean text = formed (boolean_in (trimmed text))

-- Numbers of other items

abbrev pub boolean_number : Bool → ℤ
boolean_number true = pos unit
boolean_number false = pos 0

-- cut towards zero
abbrev pub cut : ℤ → ℤ
cut z = int_div z (pos unit) *ℤ pos unit

-- Items made of what was read

abbrev pub number_item : Result ℤ DynError → Result Item DynError
number_item read = then_ read (λ z. Ok (i.Number z))

abbrev pub boolean_item : Result Bool DynError → Result Item DynError
boolean_item read = then_ read (λ b. Ok (i.Boolean b))

abbrev pub day_item : Result CivilDay DynError → Result Item DynError
day_item read = then_ read (λ day. Ok (i.Date day))

-- The casts of one atomic value (Functions and Operators, section 17.1). Text is trimmed first, but not by xs:string.

abbrev pub as_decimal : Item → Result Item DynError
as_decimal (i.String s) = number_item (read_number s)
as_decimal (i.Untyped s) = number_item (read_number s)
as_decimal (i.Number z) = Ok (i.Number z)
as_decimal (i.Boolean b) = Ok (i.Number (boolean_number b))
as_decimal _ = Err e.XPTY0004

abbrev pub as_integer : Item → Result Item DynError
as_integer (i.String s) = number_item (read_whole_number s)
as_integer (i.Untyped s) = number_item (read_whole_number s)
as_integer (i.Number z) = Ok (i.Number (cut z))
as_integer (i.Boolean b) = Ok (i.Number (boolean_number b))
as_integer _ = Err e.XPTY0004

abbrev pub as_date : Item → Result Item DynError
as_date (i.String s) = day_item (read_day s)
as_date (i.Untyped s) = day_item (read_day s)
as_date (i.Date day) = Ok (i.Date day)
as_date _ = Err e.XPTY0004

abbrev pub as_boolean : Item → Result Item DynError
as_boolean (i.String s) = boolean_item (read_boolean s)
as_boolean (i.Untyped s) = boolean_item (read_boolean s)
as_boolean (i.Number z) = Ok (i.Boolean (not (is_zero (unsigned_abs z))))
as_boolean (i.Boolean b) = Ok (i.Boolean b)
as_boolean _ = Err e.XPTY0004

-- by the function of the type
abbrev pub converted : List Node → Function → Item → Result Item DynError
converted nodes f.XsString item = Ok (i.String (text_of nodes item))
converted nodes f.XsDecimal item = as_decimal item
converted nodes f.XsInteger item = as_integer item
converted nodes f.XsDate item = as_date item
converted nodes f.XsBoolean item = as_boolean item
converted nodes _ item = Err e.XPTY0004

-- the function of a type, at an atomised argument: none gives none
abbrev pub type_called : List Node → Function → List Item → Value
type_called nodes type [] = Ok []
type_called nodes type (x ∷ []) = then_ (converted nodes type x) one
type_called nodes type (x ∷ (y ∷ items)) = Err e.XPTY0004

-- `cast as` (section 3.10.2), at an atomised operand: exactly one item, with `?` perhaps none
abbrev pub cast_to : List Node → Function → Bool → List Item → Value
cast_to nodes type true [] = Ok []
cast_to nodes type false [] = Err e.XPTY0004
cast_to nodes type optional (x ∷ items) = type_called nodes type (x ∷ items)

abbrev pub is_value : Value → Bool
is_value (Ok items) = true
is_value (Err error) = false

-- by its word: `castable as` (section 3.10.3) tells whether the cast has no error
abbrev pub cast_by : List Node → CastWord → Function → Bool → List Item → Value
cast_by nodes c.Cast type optional items = cast_to nodes type optional items
cast_by nodes c.Castable type optional items = one (i.Boolean (is_value (cast_to nodes type optional items)))
