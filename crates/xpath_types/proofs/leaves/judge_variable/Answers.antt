use Rattle.std.proofs.Common.{sym, ap, ◌∙◌}
use Rattle.std.specs.Str.{chars}
use Rattle.xpath_types.specs.Scopes.{declares}
use Rattle.xpath_types.proofs.LeafLemmas.{bound-facts, bound-first, free-facts, free-first}
use Rattle.xpath_types.proofs.leaves.judge_variable.Goals as goal

pub returns-in-Some-clause-facts : goal.returns-in-Some-clause-facts
returns-in-Some-clause-facts c = c.of.ensures ∙ bound-facts c.args.scope.now _ c.args.name.now (chars c.as_str.result.now)
    (ap chars c.as_str.ensures.value ∙ c.in_ok-name.ensures) c.in-Some.reading c.in-Some.ensures _ c.refuse_prefix-unbound.ensures.told

pub returns-in-Some-clause-first : goal.returns-in-Some-clause-first
returns-in-Some-clause-first c = bound-first c.args.scope.now _ c.args.name.now (chars c.as_str.result.now)
    (ap chars c.as_str.ensures.value ∙ c.in_ok-name.ensures) c.in-Some.reading c.in-Some.ensures _ _ _ c.refuse_prefix-unbound.ensures.first

pub returns-clause-facts : goal.returns-clause-facts
returns-clause-facts c = c.of-in-None.ensures ∙ free-facts c.args.scope.now _ c.args.name.now (chars c.as_str.result.now)
    (ap chars c.as_str.ensures.value ∙ c.in_ok-name.ensures) c.in-None.ensures _
    (c.declares-is_declared.ensures ∙ ap (λ text. declares c.args.scope.now (chars text)) (c.as_str-in-None.ensures.value ∙ sym c.as_str.ensures.value)) _ _
    c.refuse_prefix-unbound.ensures.told c.refuse_unless-undeclared.ensures.told

pub returns-clause-first : goal.returns-clause-first
returns-clause-first c = free-first c.args.scope.now _ c.args.name.now (chars c.as_str.result.now)
    (ap chars c.as_str.ensures.value ∙ c.in_ok-name.ensures) c.in-None.ensures _
    (c.declares-is_declared.ensures ∙ ap (λ text. declares c.args.scope.now (chars text)) (c.as_str-in-None.ensures.value ∙ sym c.as_str.ensures.value)) _ _ _ _
    c.refuse_prefix-unbound.ensures.first c.refuse_unless-undeclared.ensures.first
