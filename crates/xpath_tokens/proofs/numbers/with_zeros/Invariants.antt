use Rattle.std.proofs.Common.{◌≡◌, ℕ, ◌-◌, ◌<◌, replicate}
use Rattle.xpath_tokens.specs.Tokens.{value_of}
use Rattle.xpath_tokens.proofs.numbers.with_zeros.Given as goal

pub record Known (value zeros filled i : ℕ) : Type 0 where
  pub small : filled < 1000000000000000000
  pub same : value_of filled (replicate (zeros - i) 48) ≡ value_of value (replicate zeros 48)

abbrev pub invariant-zeros : goal.invariant-zeros
invariant-zeros l = Known l.value l.zeros l.filled l.i
