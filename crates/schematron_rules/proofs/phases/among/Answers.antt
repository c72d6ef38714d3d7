use Rattle.std.proofs.Common.{◌∙◌, sym, chars}
use Rattle.schematron_meaning.specs.Phases as phases
use Rattle.schematron_rules.specs.Seen.{seen_phases}
use Rattle.schematron_rules.proofs.PhaseLemmas.{phase_found, phase_on}
use Rattle.schematron_rules.proofs.phases.among.Goals as goal

pub returns-then-has_id : goal.returns-then-has_id
returns-then-has_id c = phase_found (chars c.args.name.now) c.args.all.now c.phases.n c.index-all-n.result c.active_at.result
    (phases.phase_from (chars c.args.name.now) 0 (seen_phases c.args.all.now))
    c.phases-test.true c.index-all-n.is (sym c.has_id.ensures ∙ c.if-has_id.true) c.phases.invariant c.active_at.ensures

pub phases-preserved : goal.phases-preserved
phases-preserved c =
    phase_on (chars c.args.name.now) c.args.all.now c.phases.n c.index-all-n.result (phases.phase_from (chars c.args.name.now) 0 (seen_phases c.args.all.now))
    c.phases-test.true c.index-all-n.is (sym c.has_id.ensures ∙ c.if-has_id.false) c.phases.invariant
