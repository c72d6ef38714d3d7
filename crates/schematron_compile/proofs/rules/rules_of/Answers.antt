use Rattle.std.proofs.Common.{◌≡◌, ◌∙◌, refl, sym, ap, map, length}
use Rattle.schematron_meaning.specs.Rules as spec
use Rattle.schematron_entries.specs.Seen.{seen_entry}
use Rattle.schematron_expansion.specs.Seen.{seen_instance}
use Rattle.schematron_rules.specs.Seen.{seen_rule}
use Rattle.schematron_compile.proofs.BuiltLemmas.{map_begun, map_on, map_over, less}
use Rattle.schematron_compile.proofs.rules.rules_of.Goals as goal

pub rules-init : goal.rules-init
rules-init c =
    let gives = c.into_iter-e-iterator.ensures.into_iter_gives in (
      map_begun seen_rule (λ e. seen_entry e.now) (spec.rule_of c.args.file.now (seen_instance c.args.instance.now) c.args.scope.now) _ _ _ _
          c.new-rules.ensures gives.0
          (ap (map (spec.rule_of c.args.file.now (seen_instance c.args.instance.now) c.args.scope.now)) c.in_ok-inside.ensures),
      gives.1 ∙ (c.in_ok-inside.inside.ok.0 ∙ sym (ap length gives.0)),
      refl,
    )

pub rules-preserved : goal.rules-preserved
rules-preserved c = (
  map_on seen_rule (λ e. seen_entry e.now) (spec.rule_of c.args.file.now (seen_instance c.args.instance.now) c.args.scope.now) _ _ _ _ _ _ _
      c.in-Some.ensures.steps.0 c.in_ok-push.ensures.ok
      (c.in_ok-rule_of.ensures.rule ∙ ap (λ s. spec.rule_of c.args.file.now (seen_instance c.args.instance.now) s (seen_entry c.in-Some.e.now))
      c.rules.invariant.2) c.rules.invariant.0,
  less _ _ _ _ _ c.in-Some.ensures.steps.0 c.in-Some.ensures.steps.1 c.rules.invariant.1,
  c.in_ok-rule_of.ensures.scope ∙ c.rules.invariant.2,
)

pub returns-clause-rules : goal.returns-clause-rules
returns-clause-rules c = map_over seen_rule (λ e. seen_entry e.now) (spec.rule_of c.args.file.now (seen_instance c.args.instance.now) c.args.scope.now) _ _ _ _
    c.in-None.ensures.steps.0 c.rules.invariant.1 c.rules.invariant.0

pub returns-clause-scope : goal.returns-clause-scope
returns-clause-scope c = c.rules.invariant.2
