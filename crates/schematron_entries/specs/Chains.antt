-- Numbers in chains.
use Rattle.std.specs.Prelude.{◌≡◌, ℕ, ◌+◌, ◌<◌, ◌≤◌, nat_eq, List, length, drop, get_or, Option, None}
use Rattle.std.specs.List.{position_from}

-- the place of the next number that is the same as the one at a place
abbrev pub next_of : List ℕ → ℕ → Option ℕ
next_of numbers at = position_from (nat_eq (get_or numbers at 0)) (at + 1) (drop (at + 1) numbers)

-- From a place on the first of each number is known, and from each the next.
pub record AreLinked (from : ℕ) (numbers : List ℕ) (first : ℕ → Option ℕ) (next : List (Option ℕ)) : Type 0 where
  pub within : from ≤ length numbers
  pub firsts : (n : ℕ) → first n ≡ position_from (nat_eq n) from (drop from numbers)
  pub long : length next ≡ length numbers
  pub nexts : (at : ℕ) → from ≤ at → at < length numbers → get_or next at None ≡ next_of numbers at
