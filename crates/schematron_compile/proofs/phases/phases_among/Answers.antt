use Rattle.schematron_compile.specs.Lent.{lent_entries}
use Rattle.schematron_compile.proofs.BuiltLemmas.{phase_picked}
use Rattle.schematron_compile.proofs.phases.phases_among.Goals as goal

pub entries-preserved : goal.entries-preserved
entries-preserved c = phase_picked c.args.entries.now c.entries.e-index c.e-item.result c.is_phase.result (lent_entries c.entries.found.items)
    (lent_entries c.push_if.new.found.items) c.entries-test.true c.e-item.is
    c.is_phase.ensures c.entries.invariant c.in_ok-push_if.ensures
