use Rattle.std.proofs.Common.{ap, sym, ◌∙◌}
use Rattle.schematron_rules.specs.Seen.{seen_lets, seen_phases}
use Rattle.schematron_run.specs.Judging as spec
use Rattle.schematron_run.proofs.LetLemmas.{phase_lets}
use Rattle.schematron_run.proofs.lets.lets_of.Goals as goal

pub returns-in-Some : goal.returns-in-Some
returns-in-Some c = ap seen_lets c.all_lets.ensures ∙
    (phase_lets c.args.rules.now.phases c.in-Some.n ∙ ap (spec.lets_of (seen_phases c.args.rules.now.phases)) (sym c.in-Some.is))
