-- What a number is that is written with at most 18 digits before the point and 18 behind it.
use Rattle.std.specs.Prelude.{ℕ}

-- so much, exactly: the whole, and how many times 10^-18 there is beside it
pub record Amount : Type 0 where
  pub whole : ℕ
  pub fraction : ℕ
