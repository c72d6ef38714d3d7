use Rattle.std.proofs.Common.{◌∙◌, ap, map}
use Rattle.schematron_meaning.specs.Lookup.{is_own_rule, inside}
use Rattle.schematron_meaning.specs.Rules.{rule_of}
use Rattle.schematron_expansion.specs.Seen.{seen_instance}
use Rattle.schematron_compile.proofs.patterns.lets_and_rules.Goals as goal

pub returns-in-Ok-clause-rules : goal.returns-in-Ok-clause-rules
returns-in-Ok-clause-rules c =
    c.in-Ok.ensures.rules
    ∙ ap (λ s. map (rule_of c.args.file.now (seen_instance c.args.instance.now) s) (inside is_own_rule c.args.file.now.entries c.args.instance.now.body))
    c.in_ok-lets.ensures.scope

pub returns-in-Ok-clause-scope : goal.returns-in-Ok-clause-scope
returns-in-Ok-clause-scope c = c.in-Ok.ensures.scope ∙ c.in_ok-lets.ensures.scope
