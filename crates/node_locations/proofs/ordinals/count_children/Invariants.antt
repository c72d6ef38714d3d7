use Rattle.std.proofs.Common.{◌≡◌, ◌-◌, length, None, Some}
use Rattle.node_locations.proofs.CountingLemmas.{IsCounting}
use Rattle.node_locations.proofs.ordinals.count_children.Given as goal

abbrev pub invariant-children : goal.invariant-children
invariant-children g l = record {
  counting : IsCounting l.doc l.parent l.table l.counts l.next;
  table : length l.table ≡ length l.initial.table;
  long : length l.counts ≡ length l.initial.counts;
}

abbrev pub decreases-children : goal.decreases-children
decreases-children g l = elim l.next [ None ↦ 0 | Some n ↦ length l.doc.nodes - n ]
