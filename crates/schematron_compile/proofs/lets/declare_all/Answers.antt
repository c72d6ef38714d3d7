use Rattle.std.proofs.Common.{◌∙◌, sym, ap, length}
use Rattle.schematron_meaning.specs.Written.{with_lets}
use Rattle.schematron_compile.specs.Lent.{lent_entries}
use Rattle.schematron_compile.proofs.BuiltLemmas.{less}
use Rattle.schematron_compile.proofs.ScopeLemmas.{declared_on, declared_over}
use Rattle.schematron_compile.proofs.lets.declare_all.Goals as goal

pub lets-init : goal.lets-init
lets-init c =
    let gives = c.into_iter-one-iterator.ensures.into_iter_gives in
    (ap (λ xs. with_lets c.args.params.now c.args.scope.now (lent_entries xs)) gives.0, gives.1 ∙ (c.args.lets.ok.0 ∙ sym (ap length gives.0)))

pub lets-preserved : goal.lets-preserved
lets-preserved c = (
  declared_on _ _ _ _ _ _ _ c.in-Some.ensures.steps.0 c.in_ok-declare_let.ensures c.lets.invariant.0,
  less _ _ _ _ _ c.in-Some.ensures.steps.0 c.in-Some.ensures.steps.1 c.lets.invariant.1,
)

pub returns : goal.returns
returns c = declared_over _ _ _ _ _ c.in-None.ensures.steps.0 c.lets.invariant.1 c.lets.invariant.0
