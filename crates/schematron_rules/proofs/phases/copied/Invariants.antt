use Rattle.std.proofs.Common.{◌≡◌, take}
use Rattle.schematron_rules.proofs.phases.copied.Given as goal

abbrev pub invariant-numbers : goal.invariant-numbers
invariant-numbers l = l.copy ≡ take l.n-index l.numbers
