-- How the words of a text are found by going forward once. Each function here finds the longest front of a form of Words:
-- proofs/ has the law for each.
use Rattle.std.specs.Prelude.{ℕ, suc, pred, Bool, false, ◌+◌, ◌-◌, ◌&&◌, ◌||◌, ◌==◌, List, [], ◌∷◌, Option, Some, None, drop, max, option_map, if◌then◌else◌}
use Rattle.std.specs.Prelude.{◌≡◌, ◌≤◌, ◌<◌, length, slice_index_or, Result, Ok, Err, Vec, map}
use Rattle.std.specs.List.{prefix_len}
use Rattle.std.specs.Borrow.{Bor}
use Rattle.inv_base.specs.Characters.{is_name_start, is_name_char}
use Rattle.xpath_tokens.specs.Longest.{longest}
use Rattle.xpath_tokens.specs.declared.token.Token.{Token}
use Rattle.xpath_tokens.specs.declared.token.SyntaxFault.{SyntaxFault}
use Rattle.xpath_tokens.specs.declared.token.SyntaxFault.TheVariants as f
use Rattle.xpath_tokens.specs.Words.{is_digit, is_exponent_mark, is_sign, is_sign_of_one, is_sign_of_two, closes}

-- the later of two ends
abbrev pub later : Option ℕ → Option ℕ → Option ℕ
later None y = y
later (Some m) None = Some m
later (Some m) (Some n) = Some (max m n)

-- so many characters more
abbrev pub behind : ℕ → Option ℕ → Option ℕ
behind n found = option_map (λ m. n + m) found

unfoldable pub ncname_at : List ℕ → Option ℕ
ncname_at [] = None
ncname_at (c ∷ text) = if is_name_start c then Some (1 + prefix_len is_name_char text) else None

-- behind the colon of a name: an NCName or `*`
unfoldable pub local_at : List ℕ → Option ℕ
local_at [] = None
local_at (c ∷ text) = if c == 42 then Some 1 else ncname_at (c ∷ text)

-- behind the prefix of a name, none where no local part stands there
unfoldable pub local_part_at : List ℕ → Option ℕ
local_part_at [] = None
local_part_at (c ∷ text) = if c == 58 then behind 1 (local_at text) else None

-- behind `*`: a colon and an NCName
unfoldable pub any_prefix_at : List ℕ → Option ℕ
any_prefix_at [] = None
any_prefix_at (c ∷ text) = if c == 58 then behind 1 (ncname_at text) else None

-- so many characters, and as many more as are found there, if any
abbrev pub or_more : ℕ → Option ℕ → ℕ
or_more n None = n
or_more n (Some m) = n + m

unfoldable pub prefixed_at : Option ℕ → List ℕ → Option ℕ
prefixed_at None text = None
prefixed_at (Some n) text = Some (or_more n (local_part_at (drop n text)))

unfoldable pub name_at : List ℕ → Option ℕ
name_at [] = None
name_at (c ∷ text) = if c == 42 then behind 1 (any_prefix_at text) else prefixed_at (ncname_at (c ∷ text)) (c ∷ text)

-- at least one digit
unfoldable pub digits_at : List ℕ → Option ℕ
digits_at text = if prefix_len is_digit text == 0 then None else Some (prefix_len is_digit text)

-- behind the mark of an exponent: digits, and maybe a sign before them
unfoldable pub signed_digits_at : List ℕ → Option ℕ
signed_digits_at [] = None
signed_digits_at (c ∷ text) = if is_sign c then behind 1 (digits_at text) else digits_at (c ∷ text)

unfoldable pub exponent_at : List ℕ → Option ℕ
exponent_at [] = None
exponent_at (c ∷ text) = if is_exponent_mark c then behind 1 (signed_digits_at text) else None

-- so many digits, and maybe an exponent behind them
unfoldable pub with_exponent : ℕ → List ℕ → ℕ
with_exponent n text = or_more n (exponent_at (drop n text))

-- behind so many digits of a number: maybe a point and a fraction, and maybe an exponent
unfoldable pub number_rest_at : ℕ → List ℕ → Option ℕ
number_rest_at whole [] = if whole == 0 then None else Some whole
number_rest_at whole (c ∷ text) = if c == 46
    then (if whole + prefix_len is_digit text == 0 then None else Some (whole + (1 + with_exponent (prefix_len is_digit text) text)))
    else (if whole == 0 then None else Some (or_more whole (exponent_at (c ∷ text))))

unfoldable pub number_at : List ℕ → Option ℕ
number_at text = number_rest_at (prefix_len is_digit text) (drop (prefix_len is_digit text) text)

unfoldable pub string_at : List ℕ → Option ℕ
string_at [] = None
string_at (c ∷ text) = if c == 34 || c == 39 then behind 1 (longest (closes c false) text) else None

unfoldable pub symbol_at : List ℕ → Option ℕ
symbol_at [] = None
symbol_at (c ∷ []) = if is_sign_of_one c then Some 1 else None
symbol_at (c ∷ d ∷ text) = if is_sign_of_two (c ∷ d ∷ []) then Some 2 else (if is_sign_of_one c then Some 1 else None)

unfoldable pub word_at : List ℕ → Option ℕ
word_at text = later (symbol_at text) (later (name_at text) (later (number_at text) (string_at text)))

-- how many comments round the text the `:)` in it would end that end none in it; before is as in comment_rest
unfoldable pub pending : ℕ → List ℕ → ℕ
pending before [] = 0
pending before (c ∷ text) = if before == 40 && c == 58 then pred (pending 0 text) else
    (if before == 58 && c == 41 then suc (pending 0 text) else pending c text)

-- the text begins with `(:`, and with no comment
unfoldable pub is_unclosed : List ℕ → Bool
is_unclosed [] = false
is_unclosed (c ∷ []) = false
is_unclosed (c ∷ d ∷ text) = c == 40 && (d == 58 && pending 0 text == 0)

-- what is pending behind `(:`, given what is behind its first character, and the text behind it
unfoldable pub pending_inside : ℕ → List ℕ → ℕ
pending_inside n [] = n
pending_inside n (c ∷ text) = if c == 41 then n - 1 else n

-- what is pending one character further to the left, given what is behind that
unfoldable pub pending_before : ℕ → List ℕ → ℕ
pending_before n [] = n
pending_before n (c ∷ []) = n
pending_before n (c ∷ d ∷ text) = if c == 40 && d == 58 then pending_inside n text - 1 else (if c == 58 && d == 41 then n + 1 else n)

-- whether a comment begins that doesn't end, given what is pending behind its first character
unfoldable pub unclosed_before : ℕ → List ℕ → Bool
unclosed_before n [] = false
unclosed_before n (c ∷ []) = false
unclosed_before n (c ∷ d ∷ text) = c == 40 && (d == 58 && pending_inside n text == 0)

-- from the place on, each flag says whether a comment begins there that doesn't end
pub record MarksFrom (place : ℕ) (text : List ℕ) (flags : List Bool) : Type 0 where
  pub whole : length flags ≡ length text
  pub each : (k : ℕ) → place ≤ k → k < length text → slice_index_or flags k false ≡ is_unclosed (drop k text)

-- no word begins at the place that the fault tells, unless memory ran out
abbrev pub CutFault : SyntaxFault → Result (List (List ℕ)) ℕ → Type 0
CutFault fault answer = elim fault as (λ _. Type 0) [ f.Memory ↦ Unit {0} | (f.Lexical place) ↦ answer ≡ Err place | _ ↦ ⊥ ]

-- The call cut the text into these words, or found the place where none begins, unless memory ran out.
abbrev pub Cuts : {Z : Type 0} → Result (Vec (Bor (List ℕ)) Z) SyntaxFault → Result (List (List ℕ)) ℕ → Type 0
Cuts (Ok found) answer = answer ≡ Ok (map (λ word. word.now) found.items)
Cuts (Err fault) answer = CutFault fault answer

-- The call found these tokens, or the word that the subset lacks, unless memory ran out.
abbrev pub Judges : {Z : Type 0} → Result (Vec Token Z) SyntaxFault → Result (List Token) ℕ → Type 0
Judges (Ok tokens) answer = answer ≡ Ok tokens.items
Judges (Err fault) answer = elim fault as (λ _. Type 0) [ f.Memory ↦ Unit {0} | (f.Unsupported index) ↦ answer ≡ Err index | _ ↦ ⊥ ]
