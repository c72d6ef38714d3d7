-- How the occurrences of a group are numbered: by their places, from 1 in document order, among all elements that are
-- occurrences of it in one outer context.
use Rattle.std.specs.Prelude.{ℕ, ◌+◌, nat_lt, Bool, true, ◌&&◌, List, [], ◌∷◌, length, filter}
use Rattle.std.specs.List.{list_all}

-- Each number is below all that follow it.
abbrev pub rises : List ℕ → Bool
rises [] = true
rises (n ∷ ns) = list_all (nat_lt n) ns && rises ns

-- how many of the numbers that are so come before a number
abbrev pub how_many_before : (ℕ → Bool) → List ℕ → ℕ → ℕ
how_many_before is_so ns n = length (filter (λ m. nat_lt m n && is_so m) ns)

abbrev pub place_among : (ℕ → Bool) → List ℕ → ℕ → ℕ
place_among is_so ns n = 1 + how_many_before is_so ns n
