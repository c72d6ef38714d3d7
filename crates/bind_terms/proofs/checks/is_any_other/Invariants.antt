use Rattle.std.proofs.Common.{◌≡◌, drop}
use Rattle.std.specs.List.{list_any}
use Rattle.node_arena.specs.Moves.{tree_nodes}
use Rattle.bind_terms.specs.Kinds.{is_other_at}
use Rattle.bind_terms.proofs.checks.is_any_other.Given as goal

abbrev pub invariant-found : goal.invariant-found
invariant-found g l = list_any (is_other_at (tree_nodes l.doc)) (drop l.m-index l.found) ≡ list_any (is_other_at (tree_nodes l.doc)) l.found
