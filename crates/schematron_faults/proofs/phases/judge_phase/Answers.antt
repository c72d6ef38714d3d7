use Rattle.std.proofs.Common.{[]}
use Rattle.schematron_meaning.specs.Lookup.{is_let, inside}
use Rattle.schematron_faults.proofs.RuleLemmas.{cut_lets}
use Rattle.schematron_faults.proofs.phases.judge_phase.Goals as goal

pub returns-clause-scope : goal.returns-clause-scope
returns-clause-scope c = cut_lets c.args.scope.now c.judge_lets.new.scope c.truncate.new.self c.count-count.result []
    (inside is_let c.args.file.now.entries c.number.result) c.count-count.ensures c.in_ok-judge_lets.ensures.scope c.truncate.ensures
