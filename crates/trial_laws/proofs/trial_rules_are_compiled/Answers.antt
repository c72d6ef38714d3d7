use Rattle.trial_laws.proofs.Compiled.{rules-ready}
use Rattle.trial_laws.proofs.trial_rules_are_compiled.Goals as goal

pub returns : goal.returns
returns c = rules-ready
