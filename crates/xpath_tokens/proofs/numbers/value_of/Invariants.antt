use Rattle.std.proofs.Common.{◌≡◌, ℕ, ◌<◌, List, drop}
use Rattle.xpath_tokens.specs.Tokens.{value_of}
use Rattle.xpath_tokens.proofs.numbers.value_of.Given as goal

pub record Known (digits : List ℕ) (value i : ℕ) : Type 0 where
  pub small : value < 1000000000000000000
  pub same : value_of value (drop i digits) ≡ value_of 0 digits

abbrev pub invariant-digits : goal.invariant-digits
invariant-digits l = Known l.digits l.value l.i
