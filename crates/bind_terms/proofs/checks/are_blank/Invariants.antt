use Rattle.std.proofs.Common.{◌≡◌, drop}
use Rattle.std.specs.Prelude.{not}
use Rattle.std.specs.List.{list_any}
use Rattle.node_arena.specs.Moves.{tree_nodes}
use Rattle.bind_meaning.specs.Elements.{is_blank_at}
use Rattle.bind_terms.proofs.checks.are_blank.Given as goal

abbrev pub invariant-found : goal.invariant-found
invariant-found g l = list_any (λ m. not (is_blank_at (tree_nodes l.doc) m)) (drop l.m-index l.found)
    ≡ list_any (λ m. not (is_blank_at (tree_nodes l.doc) m)) l.found
