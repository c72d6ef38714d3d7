use Rattle.std.proofs.Common.{◌≡◌, false, drop}
use Rattle.xpath_operators.specs.Calculations.{turned}
use Rattle.xpath_operators.proofs.numbers.turns_sign.Given as goal

abbrev pub invariant-signs : goal.invariant-signs
invariant-signs l = turned l.turned (drop l.sign-index l.signs) ≡ turned false l.signs
