-- Short texts, which are composed of pieces in a buffer of fixed capacity.
use Rattle.std.specs.Prelude.{◌≡◌, ℕ, ◌+◌, ◌≤◌, Bool, not, ◌&&◌, nat_le, List, ◌++◌, length, flat_map}
use Rattle.std.specs.List.{list_any}
use Rattle.arrayvec.specs.ArrayVec.{ArrayVec, array_vec_len}
use Rattle.inv_base.specs.Text.{quoted_character, is_escaped}

-- The piece was put behind what stood there, and has at most so many bytes.
pub record Composes (piece : List ℕ) (most : ℕ) (before after : ArrayVec ℕ) : Type 0 where
  pub items : after.items ≡ before.items ++ piece
  pub room : array_vec_len after ≤ array_vec_len before + most

-- whether a text is short, and none of its bytes is escaped between quotes
abbrev pub is_plain : List ℕ → Bool
is_plain text = nat_le (length text) 72 && not (list_any is_escaped text)

-- A text that is short, and stands for itself between quotes.
pub record IsPlain (text : List ℕ) : Type 0 where
  pub same : flat_map quoted_character text ≡ text
  pub short : length text ≤ 72
