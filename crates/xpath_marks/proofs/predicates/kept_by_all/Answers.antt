use Rattle.xpath_parts.proofs.SlotLemmas.{placed_at}
use Rattle.xpath_marks.proofs.TurnLemmas.{all_next, all_done}
use Rattle.xpath_marks.proofs.predicates.kept_by_all.Goals as goal

pub predicates-preserved : goal.predicates-preserved
predicates-preserved g c = record {
  within = c.in_ok-nodes.ensures.within;
  held = c.in_ok-nodes.ensures.held;
  goes = all_next c.args.dynamic.now c.args.predicates.now c.predicates.predicate-index c.predicate-item.result c.predicates.nodes.items
      c.in_ok-nodes.nodes.items
      c.predicate-item.is c.predicates-test.true c.in_ok-nodes.ensures.kept c.predicates.invariant.goes;
}

pub returns-clause-kept : goal.returns-clause-kept
returns-clause-kept g c = all_done c.args.dynamic.now c.args.predicates.now c.predicates.predicate-index c.predicates.nodes.items
    c.predicates-test.false c.predicates.invariant.goes

pub kept_by-requires-clause-placed : goal.kept_by-requires-clause-placed
kept_by-requires-clause-placed g c = placed_at c.args.dynamic.now c.args.predicates.now c.predicates.predicate-index c.predicate-item.result
    c.predicates-test.true c.predicate-item.is c.requires.placed
