use Rattle.std.proofs.Common.{◌∙◌, refl}
use Rattle.schematron_meaning.specs.Lookup.{is_let, inside}
use Rattle.schematron_meaning.specs.Written.{pattern_scope}
use Rattle.schematron_expansion.specs.Seen.{seen_instance}
use Rattle.schematron_compile.proofs.BuiltLemmas.{pattern_is}
use Rattle.schematron_compile.proofs.ScopeLemmas.{cut_back}
use Rattle.schematron_compile.proofs.patterns.pattern_of.Goals as goal

pub returns-in-Ok-clause-pattern : goal.returns-in-Ok-clause-pattern
returns-in-Ok-clause-pattern c =
    pattern_is c.args.file.now c.args.scope.now (seen_instance c.args.instance.now) _ (inside is_let c.args.file.now.entries c.args.instance.now.body)
    (pattern_scope c.args.file.now.entries c.args.scope.now (seen_instance c.args.instance.now)) refl refl
    (c.in_ok-id.ensures ∙ c.attribute.ensures) c.in-Ok.ensures.lets c.in-Ok.ensures.rules

pub returns-in-Ok-clause-scope : goal.returns-in-Ok-clause-scope
returns-in-Ok-clause-scope c =
    cut_back c.args.instance.now.params c.args.scope.now c.lets_and_rules.new.scope c.truncate.new.self
    (inside is_let c.args.file.now.entries c.args.instance.now.body) c.count-count.result
    c.count-count.ensures c.in-Ok.ensures.scope c.truncate.ensures
