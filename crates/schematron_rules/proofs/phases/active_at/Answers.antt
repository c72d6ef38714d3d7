use Rattle.std.proofs.Common.{Some, subst}
use Rattle.schematron_rules.specs.Answers.{PhaseAnswers}
use Rattle.schematron_rules.proofs.phases.active_at.Goals as goal

pub returns-in-Ok : goal.returns-in-Ok
returns-in-Ok c =
    subst (λ n. PhaseAnswers c.active_in.result (Some (record { phase = Some n; patterns = c.args.phase.now.patterns }))) c.in-Ok.ensures c.active_in.ensures
