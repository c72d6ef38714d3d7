use Rattle.std.proofs.Common.{◌∙◌, refl, sym, ap, length}
use Rattle.schematron_compile.proofs.BuiltLemmas.{phases_begun, phases_on, phases_ended, less}
use Rattle.schematron_compile.proofs.phases.phases_of.Goals as goal

pub phases-init : goal.phases-init
phases-init c =
    let gives = c.into_iter-e-iterator.ensures.into_iter_gives in (
      phases_begun c.args.file.now.entries c.args.phases.items _ c.new-found.result c.new-found.ensures gives.0,
      gives.1 ∙
          (c.args.phases.ok.0 ∙ sym (ap length gives.0)),
      refl,
    )

pub phase_of-requires-clause-scope : goal.phase_of-requires-clause-scope
phase_of-requires-clause-scope c = c.phases.invariant.2 ∙ c.requires.scope

pub phases-preserved : goal.phases-preserved
phases-preserved c = (
  phases_on c.args.file.now.entries _ _ _ c.phases.found c.push.new.self c.in_ok-phase_of.field-0 _ c.in-Some.ensures.steps.0 c.in_ok-push.ensures.ok
      c.in_ok-phase_of.ensures.phase c.phases.invariant.0,
  less _ _ _ _ _ c.in-Some.ensures.steps.0 c.in-Some.ensures.steps.1 c.phases.invariant.1,
  c.in_ok-phase_of.ensures.scope ∙ c.phases.invariant.2,
)

pub returns-clause-phases : goal.returns-clause-phases
returns-clause-phases c = phases_ended c.args.file.now.entries _ c.phases.found _ _ c.in-None.ensures.steps.0 c.phases.invariant.1 c.phases.invariant.0

pub returns-clause-scope : goal.returns-clause-scope
returns-clause-scope c = c.phases.invariant.2
