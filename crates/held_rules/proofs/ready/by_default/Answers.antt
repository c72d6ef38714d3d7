use Rattle.std.proofs.Common.{chars}
use Rattle.schematron_meaning.specs.Phases.{the_default}
use Rattle.schematron_rules.specs.Seen.{seen_rules, seen_active}
use Rattle.held_rules.proofs.RuleLemmas.{active-ready, nothing-ready, are-ready, none-ready}
use Rattle.held_rules.proofs.ready.by_default.Goals as goal

pub returns-in-Ok-clause-said : goal.returns-in-Ok-clause-said
returns-in-Ok-clause-said c = active-ready (seen_rules c.args.rules) (seen_active c.in-Ok.active) c.in-Ok.ensures

pub returns-in-Ok-clause-ready : goal.returns-in-Ok-clause-ready
returns-in-Ok-clause-ready c =
    are-ready (record { rules = c.args.rules; active = c.in-Ok.active }) (record { name = chars the_default; is = c.in-Ok.ensures })

pub returns-in-Err-NoPhase-clause-said : goal.returns-in-Err-NoPhase-clause-said
returns-in-Err-NoPhase-clause-said c = nothing-ready (seen_rules c.args.rules) (rw c.in-Err-NoPhase.field-0-is at c.in-Err-NoPhase.ensures)

pub returns-in-Err-NoPhase-clause-ready : goal.returns-in-Err-NoPhase-clause-ready
returns-in-Err-NoPhase-clause-ready c = none-ready
