use Rattle.node_arena.specs.Slots.{IsGrowing}
use Rattle.node_arena.proofs.growing.close_all.Given as goal

abbrev pub invariant-open : goal.invariant-open
invariant-open l = IsGrowing l.nodes l.ends l.current

abbrev pub decreases-open : goal.decreases-open
decreases-open l = l.current
