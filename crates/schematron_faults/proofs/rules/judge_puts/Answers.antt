use Rattle.std.proofs.Common.{ap}
use Rattle.schematron_meaning.specs.Written.{written_puts}
use Rattle.schematron_expansion.specs.Seen.{seen_put}
use Rattle.schematron_faults.proofs.LoopLemmas.{puts_turn, puts_scope_turn}
use Rattle.schematron_faults.proofs.SearchLemmas.{goes_end, seen_next, seen_done}
use Rattle.schematron_faults.proofs.rules.judge_puts.Goals as goal

pub inclusions-preserved : goal.inclusions-preserved
inclusions-preserved c = record {
  goes = puts_turn c.args.search.now c.inclusions.search c.judge_put.new.search _ c.args.file.now.entries c.args.params.now c.args.all.now c.inclusions.before
      c.judge_put.new.before (seen_put c.inclusion-item.result) _ _
      (seen_next seen_put c.args.inclusions.now c.inclusions.inclusion-index c.inclusion-item.result c.inclusion-item.is c.inclusions-test.true)
      c.in_ok-judge_put.ensures.before
      c.in_ok-judge_put.ensures.goes c.inclusions.invariant.goes;
  before = puts_scope_turn c.args.params.now c.inclusions.before c.judge_put.new.before _ (seen_put c.inclusion-item.result) _ _
      (seen_next seen_put c.args.inclusions.now c.inclusions.inclusion-index c.inclusion-item.result c.inclusion-item.is c.inclusions-test.true)
      c.in_ok-judge_put.ensures.before
      c.inclusions.invariant.before;
}

pub returns-clause-goes : goal.returns-clause-goes
returns-clause-goes c = goes_end c.args.search.now c.inclusions.search _ _
    (ap (written_puts c.args.file.now.entries c.args.params.now c.args.all.now c.inclusions.before)
    (seen_done seen_put c.args.inclusions.now c.inclusions.inclusion-index c.inclusions-test.false)) c.inclusions.invariant.goes
