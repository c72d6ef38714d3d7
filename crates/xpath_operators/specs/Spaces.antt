-- What private functions count at the ends of a text.
use Rattle.std.specs.Prelude.{ℕ, suc, List, [], ◌∷◌, true, false}
use Rattle.inv_base.specs.Characters.{is_white_space}

-- how many at the front are white space
abbrev pub leading : List ℕ → ℕ
leading [] = 0
leading (c ∷ text) = elim (is_white_space c) [ true ↦ suc (leading text) | false ↦ 0 ]
