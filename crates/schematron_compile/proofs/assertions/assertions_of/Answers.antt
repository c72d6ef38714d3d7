use Rattle.std.proofs.Common.{◌∙◌, refl, sym, ap, length}
use Rattle.schematron_meaning.specs.Rules as spec
use Rattle.schematron_entries.specs.Seen.{seen_entry}
use Rattle.schematron_rules.specs.Seen.{seen_assertion}
use Rattle.schematron_compile.proofs.BuiltLemmas.{map_begun, map_on, map_over, less}
use Rattle.schematron_compile.proofs.assertions.assertions_of.Goals as goal

pub entries-init : goal.entries-init
entries-init c =
    let gives = c.into_iter-e-iterator.ensures.into_iter_gives in (
      map_begun seen_assertion (λ e. seen_entry e.now) (spec.assertion_of c.args.file.now.entries c.args.params.now c.args.scope.now) _ _ _ _
          c.new-found.ensures gives.0 refl,
      gives.1 ∙ (c.args.entries.ok.0 ∙ sym (ap length gives.0)),
    )

pub entries-preserved : goal.entries-preserved
entries-preserved c = (
  map_on seen_assertion (λ e. seen_entry e.now) (spec.assertion_of c.args.file.now.entries c.args.params.now c.args.scope.now) _ _ _ _ _ _ _
      c.in-Some.ensures.steps.0 c.in_ok-push.ensures.ok c.in_ok-assertion_of.ensures c.entries.invariant.0,
  less _ _ _ _ _ c.in-Some.ensures.steps.0 c.in-Some.ensures.steps.1 c.entries.invariant.1,
)

pub returns : goal.returns
returns c = map_over seen_assertion (λ e. seen_entry e.now) (spec.assertion_of c.args.file.now.entries c.args.params.now c.args.scope.now) _ _ _ _
    c.in-None.ensures.steps.0 c.entries.invariant.1 c.entries.invariant.0
