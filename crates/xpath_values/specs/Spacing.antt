-- What one character adds to a text whose runs of white space are single spaces.
use Rattle.std.specs.Prelude.{ℕ, Bool, true, false, List, [], ◌∷◌}
use Rattle.inv_base.specs.Characters.{is_white_space}

abbrev pub spaced_piece : Bool → ℕ → List ℕ
spaced_piece in_run c = elim (is_white_space c) [
  | true ↦ elim in_run [ true ↦ [] | false ↦ 32 ∷ [] ]
  | false ↦ c ∷ []
]
