use Rattle.std.proofs.Common.{◌∙◌, sym, ap, length}
use Rattle.schematron_compile.proofs.BuiltLemmas.{less}
use Rattle.schematron_compile.proofs.PlaceLemmas.{active_begun, active_on, active_over}
use Rattle.schematron_compile.proofs.places.places_active.Goals as goal

pub actives-init : goal.actives-init
actives-init c =
    let gives = c.into_iter-e-iterator.ensures.into_iter_gives in
    ((λ ids known. active_begun ids c.args.actives.items _ _ c.new-found.ensures.items gives.0), gives.1 ∙ (c.args.actives.ok.0 ∙ sym (ap length gives.0)))

pub actives-preserved : goal.actives-preserved
actives-preserved c = (
  (λ ids known. active_on ids _ _ _ _ _ _ _ c.in-Some.ensures.steps.0 (c.in_ok-push_places.ensures ids known) c.attribute.ensures
      (c.actives.invariant.0 ids known)),
  less _ _ _ _ _ c.in-Some.ensures.steps.0 c.in-Some.ensures.steps.1 c.actives.invariant.1,
)

pub returns : goal.returns
returns c = λ ids known. active_over ids _ _ _ _ c.in-None.ensures.steps.0 c.actives.invariant.1 (c.actives.invariant.0 ids known)
