-- White space, `=` and quoted values, of which tags and the declaration are made, and what stands behind them.
use Rattle.std.specs.Prelude.{ℕ, Bool, false, ◌&&◌, ◌==◌, List, [], ◌∷◌, drop, Option, Some, None, option_map, option_and_then, if◌then◌else◌, codes}
use Rattle.std.specs.List.{list_any, prefix_len, before_first, after_first}
use Rattle.inv_base.specs.Characters.{is_white_space}
use Rattle.xml_tokens.specs.Searches.{behind_string, is_quote}

-- the bytes without the white space at their front
abbrev pub behind_white_space : List ℕ → List ℕ
behind_white_space bytes = drop (prefix_len is_white_space bytes) bytes

-- The bytes or characters begin with white space.
abbrev pub begins_with_space : List ℕ → Bool
begins_with_space [] = false
begins_with_space (b ∷ bytes) = is_white_space b

-- Eq (production 25): what stands behind `=` with white space on both sides
abbrev pub behind_equals : List ℕ → Option (List ℕ)
behind_equals bytes = option_map behind_white_space (behind_string (codes "=") (behind_white_space bytes))

-- A literal: what stands between two equal quotes, and what is behind them.
pub record Literal : Type 0 where
  pub value : List ℕ
  pub rest : List ℕ

-- the literal that begins with the quote
abbrev pub quoted_literal : List ℕ → Option Literal
quoted_literal [] = None
quoted_literal (quote ∷ bytes) =
    if is_quote quote && list_any (λ b. b == quote) bytes
    then Some (record { value = before_first (λ b. b == quote) bytes; rest = after_first (λ b. b == quote) bytes })
    else None

-- the literal behind `=`
abbrev pub literal_at : List ℕ → Option Literal
literal_at bytes = option_and_then quoted_literal (behind_equals bytes)
