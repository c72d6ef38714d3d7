use Rattle.std.proofs.Common.{◌≡◌, length}
use Rattle.node_arena.specs.Keys.{keys}
use Rattle.node_arena.specs.Slots.{kept}
use Rattle.node_arena.proofs.ChainLemmas.{IsLinking}
use Rattle.node_arena.proofs.chains.link.Given as goal

abbrev pub invariant-nodes : goal.invariant-nodes
invariant-nodes l = record {
  linking : IsLinking (keys l.family (kept l.nodes)) l.initial.next l.first l.next l.n;
  long : length l.first ≡ length l.initial.first;
}

abbrev pub decreases-nodes : goal.decreases-nodes
decreases-nodes l = l.n
