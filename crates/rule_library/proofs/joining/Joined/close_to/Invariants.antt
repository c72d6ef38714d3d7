use Rattle.std.proofs.Common.{◌-◌, ◌≡◌, ◌<◌, length}
use Rattle.rule_library.specs.Joining.{ended_times}
use Rattle.rule_library.proofs.joining.Joined.close_to.Given as goal

-- What is to be closed yet leads to the same.
abbrev pub invariant-ends : goal.invariant-ends
invariant-ends l = record {
  depth : l.self-inside.depth ≡ length l.self-inside.builder.open_nodes;
  some : 0 < l.self-inside.depth;
  names : l.self-inside.names ≡ l.fn.self.names;
  same : ended_times (l.self-inside.depth - l.n) l.self-inside.builder ≡ ended_times (length l.fn.self.built.open_nodes - l.n) l.fn.self.built;
}

abbrev pub decreases-ends : goal.decreases-ends
decreases-ends l = l.self-inside.depth - l.n
