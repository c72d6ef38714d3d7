-- A text around the first place of a piece.
use Rattle.std.specs.Prelude.{◌≡◌, ℕ, List, Some, length}
use Rattle.xpath_meaning.specs.Texts.{first_place, before, behind}

-- The piece first stands behind the front, and before the back.
pub record IsAround (piece text front back : List ℕ) : Type 0 where
  pub place : first_place piece text ≡ Some (length front)
  pub before : before text piece ≡ front
  pub behind : behind text piece ≡ back
