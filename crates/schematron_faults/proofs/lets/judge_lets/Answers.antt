use Rattle.std.proofs.Common.{ap}
use Rattle.std.specs.Vec.Iter.{into_iter_items, into_iter_len}
use Rattle.schematron_entries.specs.Seen.{seen_entry}
use Rattle.schematron_meaning.specs.Written.{written_lets}
use Rattle.schematron_faults.proofs.LoopLemmas.{lets_turn, plain_scope_turn}
use Rattle.schematron_faults.proofs.SearchLemmas.{goes_end}
use Rattle.schematron_faults.proofs.SeenLemmas.{seen_items, seen_none, fewer}
use Rattle.schematron_faults.proofs.lets.judge_lets.Goals as goal

pub lets-preserved : goal.lets-preserved
lets-preserved c = record {
  goes = lets_turn c.args.search.now c.lets.search c.judge_let.new.search _ _ c.lets.scope c.judge_let.new.scope
      (seen_entry c.in-Some.e.now) _ _ c.new-params.ensures
      (seen_items (into_iter_items c.lets.e-iterator) (into_iter_items c.next.new.self) c.in-Some.e c.in-Some.ensures.steps.0) c.in_ok-judge_let.ensures.scope
      c.in_ok-judge_let.ensures.goes c.lets.invariant.goes;
  scope = plain_scope_turn _ c.lets.scope c.judge_let.new.scope _ (seen_entry c.in-Some.e.now) _ _ c.new-params.ensures
      (seen_items (into_iter_items c.lets.e-iterator) (into_iter_items c.next.new.self) c.in-Some.e c.in-Some.ensures.steps.0) c.in_ok-judge_let.ensures.scope
      c.lets.invariant.scope;
  count = fewer (into_iter_items c.lets.e-iterator) (into_iter_items c.next.new.self) c.in-Some.e (into_iter_len c.lets.e-iterator)
      (into_iter_len c.next.new.self) c.in-Some.ensures.steps.0 c.in-Some.ensures.steps.1 c.lets.invariant.count;
}

pub returns-clause-goes : goal.returns-clause-goes
returns-clause-goes c = goes_end c.args.search.now c.lets.search _ _
    (ap (written_lets c.lets.scope) (seen_none (into_iter_items c.lets.e-iterator)
    (into_iter_len c.lets.e-iterator) c.lets.invariant.count c.in-None.ensures.steps.0)) c.lets.invariant.goes
