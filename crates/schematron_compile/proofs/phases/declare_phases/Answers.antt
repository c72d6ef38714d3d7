use Rattle.std.proofs.Common.{◌∙◌, [], sym, ap, length}
use Rattle.schematron_meaning.specs.Lookup.{is_let, inside}
use Rattle.schematron_meaning.specs.Written.{with_lets}
use Rattle.schematron_compile.specs.Lent.{lent_entries}
use Rattle.schematron_compile.proofs.BuiltLemmas.{less}
use Rattle.schematron_compile.proofs.ScopeLemmas.{lets_of_phases, phase_declared, phases_over}
use Rattle.schematron_compile.proofs.phases.declare_phases.Goals as goal

pub phases-init : goal.phases-init
phases-init c =
    let gives = c.into_iter-e-iterator.ensures.into_iter_gives in (
      ap (λ xs. with_lets [] c.args.scope.now (lets_of_phases c.args.file.now.entries (lent_entries xs))) gives.0,
      gives.1 ∙
          (c.args.phases.ok.0 ∙ sym (ap length gives.0)),
    )

pub phases-preserved : goal.phases-preserved
phases-preserved c = (
  phase_declared c.args.file.now.entries _ _ _ _ _ _ _ c.in-Some.ensures.steps.0
      (c.in_ok-lets.ensures ∙ ap (inside is_let c.args.file.now.entries) c.number.ensures)
      (c.in_ok-declare_all.ensures ∙ ap (λ p. with_lets p c.phases.scope (lent_entries c.in_ok-lets.lets.items)) c.new-none.ensures) c.phases.invariant.0,
  less _ _ _ _ _ c.in-Some.ensures.steps.0 c.in-Some.ensures.steps.1 c.phases.invariant.1,
)

pub returns : goal.returns
returns c =
    phases_over c.args.file.now.entries _ _ _ _ c.in-None.ensures.steps.0 c.phases.invariant.1 c.phases.invariant.0
    ∙ ap (λ xs. with_lets [] c.args.scope.now (lets_of_phases c.args.file.now.entries xs)) c.requires
