use Rattle.std.proofs.Common.{◌≡◌, ◌+◌, ◌<◌, length}
use Rattle.node_arena.specs.Document.{node_at}
use Rattle.rule_library.proofs.moves.level_by.Given as goal

-- what was passed, and what is still around
abbrev pub invariant-levels : goal.invariant-levels
invariant-levels g l = record {
  within : l.at < length l.doc.nodes;
  level : l.level + length (node_at l.doc.nodes l.at).above ≡ length (node_at l.doc.nodes l.fn.n).above;
}

abbrev pub decreases-levels : goal.decreases-levels
decreases-levels g l = l.at
