use Rattle.std.proofs.Common.{refl}
use Rattle.schematron_meaning.specs.Rules.{assertions_among}
use Rattle.schematron_meaning.specs.Written.{lets_among}
use Rattle.schematron_entries.specs.Seen.{seen_entry}
use Rattle.schematron_rules.specs.declared.rules.Rule.{Rule}
use Rattle.schematron_expansion.specs.Seen.{seen_instance}
use Rattle.schematron_compile.specs.Lent.{lent_puts}
use Rattle.schematron_compile.proofs.BuiltLemmas.{rule_is}
use Rattle.schematron_compile.proofs.ScopeLemmas.{cut_back}
use Rattle.schematron_compile.proofs.rules.rule_with.Goals as goal

pub returns-in-Ok-clause-rule : goal.returns-in-Ok-clause-rule
returns-in-Ok-clause-rule c =
    let rule : Rule = record { context = c.in_ok-context.context; lets = c.in-Ok.lets; assertions = c.in-Ok.assertions } in
    rule_is c.args.file.now (seen_instance c.args.instance.now) c.args.scope.now (seen_entry c.args.e.now) rule (lent_puts c.args.inclusions.now)
    (lets_among (lent_puts c.args.inclusions.now)) (assertions_among (lent_puts c.args.inclusions.now)) c.lets_and_assertions.new.scope
    c.requires refl refl c.in-Ok.ensures.scope c.in_ok-context.ensures c.in-Ok.ensures.lets c.in-Ok.ensures.assertions

pub returns-in-Ok-clause-scope : goal.returns-in-Ok-clause-scope
returns-in-Ok-clause-scope c =
    cut_back c.args.instance.now.params c.args.scope.now c.lets_and_assertions.new.scope c.truncate.new.self
    (lets_among (lent_puts c.args.inclusions.now)) c.count-count.result
    c.count-count.ensures c.in-Ok.ensures.scope c.truncate.ensures
