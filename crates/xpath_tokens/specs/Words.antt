-- The words of a text: the tokens of XPath 2.0 (appendix A.2) by their characters alone, the longest at each place.
-- Deviations: nothing has to stand between a number and a name; words that the subset lacks are words here.
use Rattle.std.specs.Prelude.{ℕ, zero, suc, Bool, true, false, ◌+◌, ◌||◌, ◌==◌, List, [], ◌∷◌, Option, Some, None, Result, Ok, Err, take, codes, unwrap_or}
use Rattle.std.specs.Prelude.{◌&&◌}
use Rattle.std.specs.List.{list_any}
use Rattle.std.specs.Str.{bytes_eq}
use Rattle.inv_base.specs.Characters.{is_within, is_name_start, is_name_char, is_white_space}
use Rattle.xpath_tokens.specs.Longest.{longest_length, nothing, one_then, many_then, some_then}

-- NCName (Namespaces in XML 1.0, production 4), and then a text of the form
abbrev pub ncname_then : (List ℕ → Bool) → List ℕ → Bool
ncname_then form = one_then is_name_start (many_then is_name_char form)

-- the character, and then a text of the form
abbrev pub char_then : ℕ → (List ℕ → Bool) → List ℕ → Bool
char_then c form = one_then (λ d. d == c) form

-- what stands behind the prefix of a name: nothing, or a colon and an NCName or `*`
abbrev pub is_local_part : List ℕ → Bool
is_local_part text = nothing text || char_then 58 (λ local. ncname_then nothing local || char_then 42 nothing local) text

-- a name token: NCName, `a:b`, `a:*`, `*:b`
abbrev pub is_name : List ℕ → Bool
is_name text = ncname_then is_local_part text || char_then 42 (char_then 58 (ncname_then nothing)) text

abbrev pub is_digit : ℕ → Bool
is_digit c = is_within 48 57 c

-- `e` or `E`
abbrev pub is_exponent_mark : ℕ → Bool
is_exponent_mark c = c == 101 || c == 69

-- `+` or `-`
abbrev pub is_sign : ℕ → Bool
is_sign c = c == 43 || c == 45

-- what stands behind the digits of a number: nothing, or the exponent that makes it a double
abbrev pub is_exponent_part : List ℕ → Bool
is_exponent_part text = nothing text
    || one_then is_exponent_mark (λ digits. some_then is_digit nothing digits || one_then is_sign (some_then is_digit nothing) digits) text

-- a number: digits and at most one point, with a digit on at least one side, and maybe an exponent
abbrev pub is_number : List ℕ → Bool
is_number text = some_then is_digit (λ rest. is_exponent_part rest || char_then 46 (many_then is_digit is_exponent_part) rest) text
    || char_then 46 (some_then is_digit is_exponent_part) text

-- what stands behind the opening quote of a string: each quote is doubled but the last character, which is one.
-- Closed says that the characters so far may be all of it.
unfoldable pub closes : ℕ → Bool → List ℕ → Bool
closes quote closed [] = closed
closes quote false (c ∷ text) = closes quote (c == quote) text
closes quote true (c ∷ text) = elim (c == quote) [ true ↦ closes quote false text | false ↦ false ]

-- a string in `"` or in `'`
abbrev pub is_string : List ℕ → Bool
is_string text = char_then 34 (closes 34 false) text || char_then 39 (closes 39 false) text

-- the signs of one character
abbrev pub is_sign_of_one : ℕ → Bool
is_sign_of_one c = list_any (λ d. c == d) (codes "()[],@$.?*/|+-=<>")

-- the signs of two characters
abbrev pub is_sign_of_two : List ℕ → Bool
is_sign_of_two text = list_any (bytes_eq text)
    (codes "::" ∷ codes ".." ∷ codes "//" ∷ codes "!=" ∷ codes "<=" ∷ codes ">=" ∷ codes "<<" ∷ codes ">>" ∷ [])

unfoldable pub is_symbol : List ℕ → Bool
is_symbol [] = false
is_symbol (c ∷ []) = is_sign_of_one c
is_symbol (c ∷ d ∷ []) = is_sign_of_two (c ∷ d ∷ [])
is_symbol (c ∷ d ∷ e ∷ text) = false

abbrev pub is_word : List ℕ → Bool
is_word text = is_symbol text || (is_name text || (is_number text || is_string text))

-- one more than the number, where there is one
abbrev pub one_more : Option ℕ → Option ℕ
one_more None = None
one_more (Some n) = Some (suc n)

-- Inside a comment, and so many comments round it: how many characters it still has, none where it doesn't end.
-- Comments nest: each `(:` begins one, and each `:)` ends the last begun. Before is the character before, 0 where that
-- is the end of such a sign, or no character of the comment.
unfoldable pub comment_rest : ℕ → ℕ → List ℕ → Option ℕ
comment_rest outer before [] = None
comment_rest outer before (c ∷ text) = elim (before == 40 && c == 58) [
  | true ↦ one_more (comment_rest (suc outer) 0 text)
  | false ↦ elim (before == 58 && c == 41) [
    | true ↦ elim outer [ zero ↦ Some 1 | suc n ↦ one_more (comment_rest n 0 text) ]
    | false ↦ one_more (comment_rest outer c text)
  ]
]

-- the length of the comment at the front of the text, where one is there that ends
unfoldable pub comment_at : List ℕ → Option ℕ
comment_at [] = None
comment_at (c ∷ []) = None
comment_at (c ∷ d ∷ text) = elim (c == 40 && d == 58) [ true ↦ one_more (one_more (comment_rest 0 0 text)) | false ↦ None ]

-- the length of what separates words at the front of the text: a white space, a comment, or 0 where there is neither
unfoldable pub separator_length : List ℕ → ℕ
separator_length [] = 0
separator_length (c ∷ text) = elim (is_white_space c) [ true ↦ 1 | false ↦ unwrap_or (comment_at (c ∷ text)) 0 ]

-- the word before the words
abbrev pub with_word : List ℕ → Result (List (List ℕ)) ℕ → Result (List (List ℕ)) ℕ
with_word word (Ok words) = Ok (word ∷ words)
with_word word (Err place) = Err place

-- The words of a text, or the place of the first character at which no word begins. Place is that of the text's first
-- character, and so many characters more belong to the word or the comment before.
unfoldable pub words_from : ℕ → ℕ → List ℕ → Result (List (List ℕ)) ℕ
words_from place skipped [] = Ok []
words_from place (suc skipped) (c ∷ text) = words_from (place + 1) skipped text
words_from place zero (c ∷ text) = elim (separator_length (c ∷ text)) [
  | suc n ↦ words_from (place + 1) n text
  | zero ↦ elim (longest_length is_word (c ∷ text)) [
    | suc n ↦ with_word (take (suc n) (c ∷ text)) (words_from (place + 1) n text)
    | zero ↦ Err place
  ]
]

abbrev pub words : List ℕ → Result (List (List ℕ)) ℕ
words text = words_from 0 0 text
