use Rattle.schematron_rules.proofs.PhaseLemmas.{numbers_more}
use Rattle.schematron_rules.proofs.phases.numbers_below.Goals as goal

pub numbers-preserved : goal.numbers-preserved
numbers-preserved c = numbers_more c.numbers.numbers c.push.new.self c.numbers.n c.numbers.invariant c.in_ok-push.ensures.ok
