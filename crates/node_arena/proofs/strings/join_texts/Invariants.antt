use Rattle.std.proofs.Common.{◌≡◌, ◌+◌, ◌++◌, drop, chars}
use Rattle.node_arena.specs.Strings.{texts_of}
use Rattle.node_arena.proofs.strings.join_texts.Given as goal

-- What was joined stands before the texts that are left.
abbrev pub invariant-nodes : goal.invariant-nodes
invariant-nodes g l = record {
  joined : l.string ++ texts_of (drop l.node-index l.nodes) ≡ chars l.first ++ texts_of l.nodes;
  counted : l.steps ≡ l.initial.steps + l.node-index;
}
