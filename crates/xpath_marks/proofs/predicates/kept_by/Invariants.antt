use Rattle.std.proofs.Common.{◌≡◌, ◌++◌, length, drop, ◌+◌}
use Rattle.xpath_meaning.specs.Patterns.{kept_nodes}
use Rattle.xpath_plan.specs.Plans.{seen}
use Rattle.xpath_parts.specs.Slots.{AreHeld}
use Rattle.xpath_marks.specs.Marking.{AreNodes, judged, kept_by}
use Rattle.xpath_marks.proofs.predicates.kept_by.Given as goal

abbrev pub invariant-nodes : goal.invariant-nodes
invariant-nodes g l = record {
  within : AreNodes l.dynamic l.kept.items;
  held : AreHeld l.dynamic l.slots;
  goes : l.kept.items ++ kept_nodes (judged l.dynamic (seen l.dynamic.names.now l.predicate)) (length l.fn.nodes.items) (l.k + 1) (drop l.k l.fn.nodes.items)
      ≡ kept_by l.dynamic (seen l.dynamic.names.now l.predicate) l.fn.nodes.items;
}
