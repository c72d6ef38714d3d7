use Rattle.std.proofs.Common.{ap}
use Rattle.std.specs.Vec.Iter.{into_iter_items, into_iter_len}
use Rattle.schematron_entries.specs.Seen.{seen_entry}
use Rattle.schematron_faults.specs.Things.{written_parts}
use Rattle.schematron_faults.proofs.LoopLemmas.{parts_turn}
use Rattle.schematron_faults.proofs.SearchLemmas.{goes_end}
use Rattle.schematron_faults.proofs.SeenLemmas.{seen_items, seen_none, fewer}
use Rattle.schematron_faults.proofs.rules.judge_parts.Goals as goal

pub parts-preserved : goal.parts-preserved
parts-preserved c = record {
  goes = parts_turn c.args.search.now c.parts.search c.judge.new.search _ c.args.stand c.args.params.now c.args.all.now (seen_entry c.in-Some.part.now) _ _
      (seen_items (into_iter_items c.parts.part-iterator) (into_iter_items c.next.new.self) c.in-Some.part c.in-Some.ensures.steps.0) c.in_ok-judge.ensures
      c.parts.invariant.goes;
  count = fewer (into_iter_items c.parts.part-iterator) (into_iter_items c.next.new.self) c.in-Some.part (into_iter_len c.parts.part-iterator)
      (into_iter_len c.next.new.self) c.in-Some.ensures.steps.0 c.in-Some.ensures.steps.1 c.parts.invariant.count;
}

pub returns : goal.returns
returns c = goes_end c.args.search.now c.parts.search _ _
    (ap (written_parts c.args.stand c.args.params.now c.args.all.now)
    (seen_none (into_iter_items c.parts.part-iterator) (into_iter_len c.parts.part-iterator) c.parts.invariant.count c.in-None.ensures.steps.0))
    c.parts.invariant.goes
