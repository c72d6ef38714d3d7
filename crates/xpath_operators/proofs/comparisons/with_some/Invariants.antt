use Rattle.std.proofs.Common.{◌≡◌, drop}
use Rattle.xpath_meaning.specs.Comparing.{any_of, compare}
use Rattle.xpath_operators.proofs.comparisons.with_some.Given as goal

abbrev pub invariant-ys : goal.invariant-ys
invariant-ys l = any_of (λ y. compare l.op l.x y) (drop l.y-index l.ys) ≡ any_of (λ y. compare l.op l.x y) l.ys
