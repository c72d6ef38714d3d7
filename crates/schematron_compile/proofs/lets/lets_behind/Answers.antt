use Rattle.std.proofs.Common.{◌∙◌, sym, ap, length}
use Rattle.schematron_compile.proofs.BuiltLemmas.{less}
use Rattle.schematron_compile.proofs.ScopeLemmas.{lets_begun, lets_on, lets_over}
use Rattle.schematron_compile.proofs.lets.lets_behind.Goals as goal

pub lets-init : goal.lets-init
lets-init c =
    let gives = c.into_iter-e-iterator.ensures.into_iter_gives in
    (lets_begun c.args.params.now c.args.lets.items _ c.args.scope.now _ c.new-found.ensures gives.0, gives.1 ∙ (c.args.lets.ok.0 ∙ sym (ap length gives.0)))

pub lets-preserved : goal.lets-preserved
lets-preserved c = (
  lets_on _ _ _ _ _ _ _ _ _ _ _ c.in-Some.ensures.steps.0 c.in_ok-push.ensures.ok c.in_ok-declared_let.ensures.found c.in_ok-declared_let.ensures.scope
      c.lets.invariant.0,
  less _ _ _ _ _ c.in-Some.ensures.steps.0 c.in-Some.ensures.steps.1 c.lets.invariant.1,
)

pub returns-clause-lets : goal.returns-clause-lets
returns-clause-lets c = (lets_over _ _ _ _ _ _ _ c.in-None.ensures.steps.0 c.lets.invariant.1 c.lets.invariant.0).0

pub returns-clause-scope : goal.returns-clause-scope
returns-clause-scope c = (lets_over _ _ _ _ _ _ _ c.in-None.ensures.steps.0 c.lets.invariant.1 c.lets.invariant.0).1
