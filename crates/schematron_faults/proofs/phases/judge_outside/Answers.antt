use Rattle.schematron_entries.specs.Seen.{seen_entries}
use Rattle.schematron_faults.proofs.GoneLemmas.{goes_outside}
use Rattle.schematron_faults.proofs.phases.judge_outside.Goals as goal

pub returns : goal.returns
returns c = goes_outside c.args.file.now.entries (seen_entries c.entries.result.now) c.args.search.now c.judge_lets.new.search c.judge_phases.new.search _
    c.judge_lets.new.scope c.judge_phases.result
    c.in_ok-scope.ensures c.entries.ensures c.in_ok-judge_lets.ensures.scope c.in_ok-judge_lets.ensures.goes c.judge_phases.ensures
