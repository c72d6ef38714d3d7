-- The tokens of a text in the subset of XPath 2.0, and the first refusal that they show. Which token a word is depends on
-- the token before it (XPath 1.0, section 3.7) and, for a few names, on the word behind it.
use Rattle.std.specs.Prelude.{ℕ, Bool, true, false, ◌+◌, ◌-◌, ◌*◌, ◌^◌, ◌&&◌, ◌||◌, ◌==◌, not, List, [], ◌∷◌, ◌++◌, Option, Some, None, Result, Ok, Err, nat_lt}
use Rattle.std.specs.Prelude.{nat_le, take, length, codes, is_none, option_map, replicate, if◌then◌else◌, ◌≡◌, Vec}
use Rattle.std.specs.List.{list_any, before_first, after_first}
use Rattle.std.specs.Str.{bytes_eq, chars}
use Rattle.inv_base.specs.Characters.{is_name_start}
use Rattle.xpath_tokens.specs.Words.{is_digit, is_exponent_mark, words}
use Rattle.xpath_tokens.specs.declared.token.Operator.{Operator}
use Rattle.xpath_tokens.specs.declared.token.Operator.TheVariants as o
use Rattle.xpath_tokens.specs.declared.token.Keyword.{Keyword}
use Rattle.xpath_tokens.specs.declared.token.Keyword.TheVariants as k
use Rattle.xpath_tokens.specs.declared.token.Name.{Name}
use Rattle.xpath_tokens.specs.declared.token.Name.TheVariants as n
use Rattle.xpath_tokens.specs.declared.token.Number.{Number}
use Rattle.xpath_tokens.specs.declared.token.Token.{Token}
use Rattle.xpath_tokens.specs.declared.token.Token.TheVariants as t
use Rattle.xpath_tokens.specs.declared.token.Place.{Place}
use Rattle.xpath_tokens.specs.declared.token.Place.TheVariants as p
use Rattle.xpath_tokens.specs.declared.token.SyntaxFault.{SyntaxFault}
use Rattle.xpath_tokens.specs.declared.token.SyntaxFault.TheVariants as f

-- Numbers

-- what a character counts as a digit
abbrev pub digit_of : ℕ → ℕ
digit_of c = if is_digit c then c - 48 else 0

-- the value of the digits, behind digits of the value so far
abbrev pub value_of : ℕ → List ℕ → ℕ
value_of so_far [] = so_far
value_of so_far (c ∷ digits) = value_of (so_far * 10 + digit_of c) digits

-- before and behind the point
abbrev pub whole_digits : List ℕ → List ℕ
whole_digits word = before_first (λ c. c == 46) word

abbrev pub fraction_digits : List ℕ → List ℕ
fraction_digits word = after_first (λ c. c == 46) word

-- what a number below 10^18 is, and none of a greater one
abbrev pub below_limit : ℕ → Option ℕ
below_limit n = if nat_lt n (10 ^ 18) then Some n else None

abbrev pub numbered : Option ℕ → Option ℕ → Option Number
numbered (Some whole) (Some fraction) = Some (record { whole = whole; fraction = fraction })
numbered None fraction = None
numbered (Some whole) None = None

-- The number of the word, whose fraction counts in units of 10^-18, so its digits are filled up with zeros to 18. There is no
-- number where it is too wide: where the whole takes more than 18 digits, leading zeros aside, or where more than 18 digits of the
-- fraction are written.
abbrev pub number_of : List ℕ → Option Number
number_of word = if nat_le (length (fraction_digits word)) 18
    then numbered (below_limit (value_of 0 (whole_digits word)))
    (below_limit (value_of 0 (fraction_digits word ++ replicate (18 - length (fraction_digits word)) 48)))
    else None

-- the word is a number or a double, as its first character that is no point shows
abbrev pub is_numeric : List ℕ → Bool
is_numeric [] = false
is_numeric (c ∷ []) = is_digit c
is_numeric (c ∷ d ∷ word) = is_digit c || (c == 46 && is_digit d)

abbrev pub is_double : List ℕ → Bool
is_double word = list_any is_exponent_mark word

-- a number that is too wide
abbrev pub is_wide : List ℕ → Bool
is_wide word = is_numeric word && (not (is_double word) && is_none (number_of word))

-- Strings

-- the text with each doubled quote once, where half says that the first of two has been passed
abbrev pub undoubled : ℕ → Bool → List ℕ → List ℕ
undoubled quote half [] = []
undoubled quote false (c ∷ text) = c ∷ undoubled quote (c == quote) text
undoubled quote true (c ∷ text) = elim (c == quote) [ true ↦ undoubled quote false text | false ↦ c ∷ undoubled quote false text ]

abbrev pub begins_string : List ℕ → Bool
begins_string [] = false
begins_string (c ∷ text) = c == 34 || c == 39

-- what a string stands for: what is between its quotes, each doubled one once
abbrev pub string_value : List ℕ → List ℕ
string_value [] = []
string_value (quote ∷ text) = undoubled quote false (take (length text - 1) text)

-- Names and words

-- a name token begins with a name, or with `*` and more
abbrev pub begins_name : List ℕ → Bool
begins_name [] = false
begins_name (c ∷ []) = is_name_start c
begins_name (c ∷ d ∷ text) = is_name_start c || c == 42

-- the first entry of the table under the word
abbrev pub entry_of : {X : Type 0} → List (List ℕ × X) → List ℕ → Option X
entry_of [] word = None
entry_of (entry ∷ entries) word = elim (bytes_eq word entry.0) [ true ↦ Some entry.1 | false ↦ entry_of entries word ]

-- the word is one of these
abbrev pub is_one_of : List (List ℕ) → List ℕ → Bool
is_one_of spellings word = list_any (bytes_eq word) spellings

-- the name of a name token
abbrev pub name_of : List ℕ → Name
name_of word = let prefix : List ℕ = before_first (λ c. c == 58) word in
    let local : List ℕ = after_first (λ c. c == 58) word in
    if nat_lt (length prefix) (length word)
    then (if bytes_eq prefix (codes "*") then n.AnyPrefix local else (if bytes_eq local (codes "*") then n.AnyLocal prefix else n.Prefixed prefix local))
    else n.Plain word

-- the operator words between values
abbrev pub value_words : List (List ℕ × Operator)
value_words = (codes "and", o.And) ∷ (codes "or", o.Or) ∷ (codes "div", o.Div) ∷ (codes "idiv", o.Idiv) ∷ (codes "mod", o.Mod)
    ∷ (codes "eq", o.Eq) ∷ (codes "ne", o.Ne) ∷ (codes "lt", o.Lt) ∷ (codes "le", o.Le) ∷ (codes "gt", o.Gt) ∷ (codes "ge", o.Ge)
    ∷ (codes "to", o.To) ∷ (codes "union", o.Union) ∷ (codes "intersect", o.Intersect) ∷ (codes "except", o.Except) ∷ []

-- the operator words inside a clause
abbrev pub clause_words : List (List ℕ × Operator)
clause_words = (codes "in", o.In) ∷ (codes "return", o.Return) ∷ (codes "satisfies", o.Satisfies) ∷ (codes "then", o.Then) ∷ (codes "else", o.Else)
    ∷ (codes "cast", o.Cast) ∷ (codes "castable", o.Castable) ∷ (codes "as", o.As) ∷ []

abbrev pub operator_words : List (List ℕ × Operator)
operator_words = value_words ++ clause_words

-- the signs of one meaning
abbrev pub signs : List (List ℕ × Token)
signs = (codes "(", t.LeftParenthesis) ∷ (codes ")", t.RightParenthesis) ∷ (codes "[", t.LeftBracket) ∷ (codes "]", t.RightBracket)
    ∷ (codes ",", t.Comma) ∷ (codes "@", t.At) ∷ (codes "::", t.DoubleColon) ∷ (codes "$", t.Dollar)
    ∷ (codes ".", t.Dot) ∷ (codes "..", t.DoubleDot) ∷ (codes "?", t.Question)
    ∷ (codes "/", t.Operator o.Slash) ∷ (codes "//", t.Operator o.DoubleSlash) ∷ (codes "|", t.Operator o.Bar)
    ∷ (codes "+", t.Operator o.Plus) ∷ (codes "-", t.Operator o.Minus)
    ∷ (codes "=", t.Operator o.Equal) ∷ (codes "!=", t.Operator o.NotEqual) ∷ (codes "<", t.Operator o.Less)
    ∷ (codes "<=", t.Operator o.LessOrEqual) ∷ (codes ">", t.Operator o.Greater) ∷ (codes ">=", t.Operator o.GreaterOrEqual) ∷ []

-- Which token a word is. Next is the word behind it, and has no characters where there is none.

-- a keyword, by the word behind it
abbrev pub keyword_of : List ℕ → List ℕ → Option Keyword
keyword_of word next = if bytes_eq next (codes "(") && bytes_eq word (codes "if") then Some k.If
    else (if bytes_eq next (codes "$") then entry_of ((codes "for", k.For) ∷ (codes "some", k.Some) ∷ (codes "every", k.Every) ∷ []) word else None)

-- a keyword, or else a name
abbrev pub named : List ℕ → List ℕ → Token
named word next = elim (keyword_of word next) [ Some keyword ↦ t.Keyword keyword | None ↦ t.Name (name_of word) ]

-- where an operand may stand: the axis and the tests that the subset lacks
abbrev pub is_lacking_operand : List ℕ → List ℕ → Bool
is_lacking_operand word next = (bytes_eq next (codes "::") && bytes_eq word (codes "namespace"))
    || (bytes_eq next (codes "(") && is_one_of (codes "comment" ∷ codes "processing-instruction" ∷ codes "schema-element" ∷ codes "schema-attribute" ∷ []) word)

-- where an operator may stand: the operators that the subset lacks
abbrev pub is_lacking_operator : List ℕ → List ℕ → Bool
is_lacking_operator word next = bytes_eq word (codes "is")
    || ((bytes_eq word (codes "instance") && bytes_eq next (codes "of")) || (bytes_eq word (codes "treat") && bytes_eq next (codes "as")))

abbrev pub operand_token : List ℕ → List ℕ → Option Token
operand_token word next = if is_lacking_operand word next then None else Some (named word next)

abbrev pub operator_token : List ℕ → List ℕ → Option Token
operator_token word next = elim (entry_of operator_words word)
    [ Some operator ↦ Some (t.Operator operator) | None ↦ if is_lacking_operator word next then None else Some (t.Name (name_of word)) ]

-- the token of a name
abbrev pub name_token : Place → List ℕ → List ℕ → Option Token
name_token p.Operand word next = operand_token word next
name_token p.Name word next = Some (named word next)
name_token p.As word next = if bytes_eq word (codes "as") then Some (t.Operator o.As) else operand_token word next
name_token p.Operator word next = operator_token word next

-- the token of a sign, of which `<<` and `>>` have none
abbrev pub sign_token : Place → List ℕ → Option Token
sign_token place word = if bytes_eq word (codes "*") then Some (elim place [ p.Operator ↦ t.Operator o.Times | _ ↦ t.Star ]) else entry_of signs word

-- the token of a word, where the subset has it
unfoldable pub token_of : Place → List ℕ → List ℕ → Option Token
token_of place word next = if is_numeric word then (if is_double word then None else option_map t.Number (number_of word))
    else (if begins_string word then Some (t.Literal (string_value word))
    else (if begins_name word then name_token place word next else sign_token place word))

-- what may stand behind a token
abbrev pub place_behind : Token → Place
place_behind token = elim token [
  | t.At ↦ p.Operand
  | t.DoubleColon ↦ p.Operand
  | t.LeftParenthesis ↦ p.Operand
  | t.LeftBracket ↦ p.Operand
  | t.Comma ↦ p.Operand
  | t.Dollar ↦ p.Name
  | (t.Operator operator) ↦ elim operator [ o.As ↦ p.Name | o.Cast ↦ p.As | o.Castable ↦ p.As | _ ↦ p.Operand ]
  | _ ↦ p.Operator
]

-- the first word of the list, or no characters where it has none
abbrev pub first_of : List (List ℕ) → List ℕ
first_of [] = []
first_of (word ∷ behind) = word

abbrev pub with_token : Token → Result (List Token) ℕ → Result (List Token) ℕ
with_token token (Ok tokens) = Ok (token ∷ tokens)
with_token token (Err index) = Err index

-- the tokens of the words, or which word is the first that the subset lacks; the first word has the index
unfoldable pub judged : Place → ℕ → List (List ℕ) → Result (List Token) ℕ
judged place index [] = Ok []
judged place index (word ∷ behind) = elim (token_of place word (first_of behind))
    [ None ↦ Err index | Some token ↦ with_token token (judged (place_behind token) (index + 1) behind) ]

-- The answer for a text

-- the most bytes that a text may have
abbrev pub most_bytes : ℕ
most_bytes = 65536

-- the tokens of the words of a text, or its first refusal
abbrev pub answer_of_words : List (List ℕ) → Result (List Token) SyntaxFault
answer_of_words cut = elim (list_any is_wide cut) [
  | true ↦ Err f.NumberTooWide
  | false ↦ elim (judged p.Operand 0 cut) [ Ok tokens ↦ Ok tokens | Err index ↦ Err (f.Unsupported index) ]
]

unfoldable pub answer_of_characters : List ℕ → Result (List Token) SyntaxFault
answer_of_characters text = elim (words text) [ Err place ↦ Err (f.Lexical place) | Ok cut ↦ answer_of_words cut ]

-- The tokens of a text of these bytes, or its first refusal: too long, else a character at which no token begins, else a number
-- that is too wide, else a token that the subset lacks.
unfoldable pub tokens_of : List ℕ → Result (List Token) SyntaxFault
tokens_of bytes = elim (nat_lt most_bytes (length bytes)) [ true ↦ Err f.TooLong | false ↦ answer_of_characters (chars bytes) ]

-- The call refused the text for this fault, as the answer says, or memory ran out. It refuses no text for its grammar.
abbrev pub Refuses : SyntaxFault → Result (List Token) SyntaxFault → Type 0
Refuses fault answer = elim fault as (λ _. Type 0) [ f.Memory ↦ Unit {0} | f.Syntax ↦ ⊥ | f.TooDeep ↦ ⊥ | _ ↦ answer ≡ Err fault ]

-- The call answered so, unless memory ran out.
abbrev pub Answers : {Z : Type 0} → Result (Vec Token Z) SyntaxFault → Result (List Token) SyntaxFault → Type 0
Answers (Ok tokens) answer = answer ≡ Ok tokens.items
Answers (Err fault) answer = Refuses fault answer
