use Rattle.std.proofs.Common.{◌≡◌, ◌+◌, drop}
use Rattle.xpath_operators.specs.Spaces.{leading}
use Rattle.xpath_operators.proofs.spaces.leading_white.Given as goal

abbrev pub invariant-bytes : goal.invariant-bytes
invariant-bytes l = l.n + leading (drop l.n l.bytes) ≡ leading l.bytes
