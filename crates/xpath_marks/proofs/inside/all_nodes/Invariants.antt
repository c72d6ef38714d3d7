use Rattle.std.proofs.Common.{◌≡◌, ◌++◌, ◌-◌, ◌<◌, None, Some, IfSome}
use Rattle.xpath_parts.specs.Contexts.{count}
use Rattle.xpath_walks.specs.Walks.{node_numbers, from_on}
use Rattle.xpath_marks.specs.Marking.{AreNodes, nodes_of}
use Rattle.xpath_marks.proofs.inside.all_nodes.Given as goal

abbrev pub invariant-nodes : goal.invariant-nodes
invariant-nodes g l = record {
  next : IfSome l.next (λ n. n < count l.dynamic);
  within : AreNodes l.dynamic l.all.items;
  left : l.all.items ++ node_numbers (from_on l.next (nodes_of l.dynamic)) ≡ node_numbers (nodes_of l.dynamic);
}

abbrev pub decreases-nodes : goal.decreases-nodes
decreases-nodes g l = elim l.next [ None ↦ 0 | Some n ↦ count l.dynamic - n ]
