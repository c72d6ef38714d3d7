use Rattle.std.proofs.Common.{◌≡◌, drop}
use Rattle.xpath_parts.specs.Contexts.{operands_of}
use Rattle.xpath_parts.specs.Slots.{AreHeld}
use Rattle.xpath_marks.specs.Marking.{AreNodes, kept_by_all}
use Rattle.xpath_marks.proofs.predicates.kept_by_all.Given as goal

abbrev pub invariant-predicates : goal.invariant-predicates
invariant-predicates g l = record {
  within : AreNodes l.dynamic l.nodes.items;
  held : AreHeld l.dynamic l.slots;
  goes : kept_by_all l.dynamic (operands_of l.dynamic.names.now (drop l.predicate-index l.predicates)) l.nodes.items
      ≡ kept_by_all l.dynamic (operands_of l.dynamic.names.now l.predicates) l.fn.nodes.items;
}
