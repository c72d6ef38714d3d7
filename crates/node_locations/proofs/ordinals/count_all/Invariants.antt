use Rattle.std.proofs.Common.{◌≡◌, ℕ, ◌<◌, ◌≤◌, ◌-◌, length, IfSome, None, Some}
use Rattle.node_locations.specs.Counting.{seen, reach, AreCounted}
use Rattle.node_locations.proofs.ordinals.count_all.Given as goal

abbrev pub invariant-parents : goal.invariant-parents
invariant-parents g l = record {
  within : IfSome l.next (λ n. n < length l.doc.nodes);
  fresh : (p k : ℕ) → reach (length l.doc.nodes) l.next ≤ p → seen l.table p k ≡ 0;
  counted : AreCounted l.doc (reach (length l.doc.nodes) l.next) l.counts;
  table : length l.table ≡ length l.initial.table;
  long : length l.counts ≡ length l.initial.counts;
}

abbrev pub decreases-parents : goal.decreases-parents
decreases-parents g l = elim l.next [ None ↦ 0 | Some n ↦ length l.doc.nodes - n ]
