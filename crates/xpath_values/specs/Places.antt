-- Places of a text, from 1 on, as numbers of characters.
use Rattle.std.specs.Prelude.{ℕ, ◌-◌, ℤ, pos, negsuc, max}

-- the number of an integer, none below zero
abbrev pub at_least_none : ℤ → ℕ
at_least_none (pos n) = n
at_least_none (negsuc n) = 0

-- how many characters come before the place
abbrev pub skipped : ℤ → ℕ
skipped start = at_least_none start - 1

-- how many places from 1 on lie from the start up to the end
abbrev pub kept : ℤ → ℤ → ℕ
kept start end = at_least_none end - max (at_least_none start) 1
