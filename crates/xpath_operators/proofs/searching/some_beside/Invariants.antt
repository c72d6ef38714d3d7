use Rattle.std.proofs.Common.{◌≡◌, drop}
use Rattle.xpath_meaning.specs.Comparing.{any_of, compare}
use Rattle.xpath_operators.proofs.searching.some_beside.Given as goal

abbrev pub invariant-xs : goal.invariant-xs
invariant-xs l = any_of (λ x. compare l.op x l.y) (drop l.x-index l.xs) ≡ any_of (λ x. compare l.op x l.y) l.xs
