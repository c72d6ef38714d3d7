use Rattle.std.proofs.Common.{ap, ◌∙◌}
use Rattle.schematron_entries.specs.Seen.{seen_entry}
use Rattle.schematron_faults.specs.Phases.{written_phases_of}
use Rattle.schematron_faults.proofs.LoopLemmas.{phases_turn}
use Rattle.schematron_faults.proofs.SearchLemmas.{goes_end, seen_next, seen_done}
use Rattle.schematron_faults.proofs.phases.judge_phases.Goals as goal

pub entries-preserved : goal.entries-preserved
entries-preserved c = record {
  goes = phases_turn c.args.search.now c.entries.search c.judge_phase.new.search _ c.args.file.now.entries c.entries.scope c.judge_phase.new.scope
      (seen_entry c.e-item.result) _ _
      (seen_next seen_entry c.entries-entries.result.now c.entries.e-index c.e-item.result c.e-item.is c.entries-test.true) c.in_ok-judge_phase.ensures.scope
      c.in_ok-judge_phase.ensures.goes c.entries.invariant.goes;
  scope = c.in_ok-judge_phase.ensures.scope ∙ c.entries.invariant.scope;
}

pub returns : goal.returns
returns c = goes_end c.args.search.now c.entries.search _ _
    (ap (written_phases_of c.args.file.now.entries c.entries.scope) (seen_done seen_entry c.entries-entries.result.now c.entries.e-index c.entries-test.false))
    c.entries.invariant.goes
