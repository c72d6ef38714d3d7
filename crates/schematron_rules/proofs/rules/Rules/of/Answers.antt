use Rattle.std.proofs.Common.{arith}
use Rattle.schematron_rules.proofs.rules.Rules.of.Goals as goal

pub invariant_of-result : goal.invariant_of-result
invariant_of-result c = record { of_a_file = c.requires; few = omega arith }
