-- Values of business terms: which value a string has by the type of its term (EN 16931-1, section 6.5), and which
-- values fit a type.
use Rattle.std.specs.Prelude.{ℕ, Bool, false, List, [], ◌∷◌, Option, Some, None, bytes_eq, if◌then◌else◌}
use Rattle.std.specs.List.{list_all}
use Rattle.std.specs.Option.{option_map}
use Rattle.inv_base.specs.Characters.{is_char, is_white_space}
use Rattle.code_lists.specs.Codes.{is_code}
use Rattle.std.specs.Ordering.{int_cmp, is_eq}
use Rattle.inv_decimal.specs.CivilDay.{day_cmp}
use Rattle.inv_decimal.specs.WrittenNumber.{read_scaled, scaled_text}
use Rattle.inv_decimal.specs.WrittenDay.{read_dashed_day, dashed_day_text}
use Rattle.term_table.specs.declared.terms.DataType.{DataType}
use Rattle.term_table.specs.declared.terms.DataType.TheVariants as data_types
use Rattle.inv_terms.specs.declared.values.Value.{Value}
use Rattle.inv_terms.specs.declared.values.Value.TheVariants as values

-- The text has no character but white space.
abbrev pub is_blank : List ℕ → Bool
is_blank text = list_all is_white_space text

-- the text without the white space at its beginning, at its end, at both
abbrev pub without_leading : List ℕ → List ℕ
without_leading [] = []
without_leading (c ∷ text) = if is_white_space c then without_leading text else c ∷ text

abbrev pub without_trailing : List ℕ → List ℕ
without_trailing [] = []
without_trailing (c ∷ text) = if is_blank (c ∷ text) then [] else c ∷ without_trailing text

abbrev pub trimmed : List ℕ → List ℕ
trimmed text = without_trailing (without_leading text)

-- a text as it stands, unless it is blank
abbrev pub text_of : List ℕ → Option (List ℕ)
text_of text = if is_blank text then None else Some text

-- an identifier: the trimmed text, unless it is empty
abbrev pub identifier_in : List ℕ → Option (List ℕ)
identifier_in [] = None
identifier_in (c ∷ text) = Some (c ∷ text)

abbrev pub identifier_of : List ℕ → Option (List ℕ)
identifier_of text = identifier_in (trimmed text)

-- a code: the trimmed text, if it may be one
abbrev pub code_of : List ℕ → Option (List ℕ)
code_of text = if is_code (trimmed text) then Some (trimmed text) else None

-- the value by the type
abbrev pub value_by : DataType → List ℕ → Option Value
value_by data_types.T text = option_map values.Text (text_of text)
value_by data_types.I text = option_map values.Identifier (identifier_of text)
value_by data_types.C text = option_map values.Code (code_of text)
value_by data_types.A text = option_map values.Amount (read_scaled (trimmed text))
value_by data_types.Q text = option_map values.Quantity (read_scaled (trimmed text))
value_by data_types.P text = option_map values.Percent (read_scaled (trimmed text))
value_by data_types.D text = option_map values.Date (read_dashed_day (trimmed text))
value_by data_types.B text = option_map values.Base64 (text_of text)

-- The value of a string: a string with a character that XML 1.0 doesn't have, has none.
unfoldable pub value_of : DataType → List ℕ → Option Value
value_of data_type text = if list_all is_char text then value_by data_type text else None

-- ---- values spelled and compared

-- the string that a value is written as
abbrev pub spelled : Value → List ℕ
spelled (values.Text text) = text
spelled (values.Identifier text) = text
spelled (values.Code text) = text
spelled (values.Amount number) = scaled_text number
spelled (values.Quantity number) = scaled_text number
spelled (values.Percent number) = scaled_text number
spelled (values.Date day) = dashed_day_text day
spelled (values.Base64 text) = text

-- Both are of one type and equal as values: 1.0 and 1.00 are.
abbrev pub same_value : Value → Value → Bool
same_value (values.Text a) (values.Text b) = bytes_eq a b
same_value (values.Identifier a) (values.Identifier b) = bytes_eq a b
same_value (values.Code a) (values.Code b) = bytes_eq a b
same_value (values.Amount a) (values.Amount b) = is_eq (int_cmp a.value b.value)
same_value (values.Quantity a) (values.Quantity b) = is_eq (int_cmp a.value b.value)
same_value (values.Percent a) (values.Percent b) = is_eq (int_cmp a.value b.value)
same_value (values.Date a) (values.Date b) = is_eq (day_cmp a b)
same_value (values.Base64 a) (values.Base64 b) = bytes_eq a b
same_value _ _ = false
