use Rattle.std.proofs.Common.{◌≡◌, drop, map}
use Rattle.node_arena.specs.Moves.{tree_nodes}
use Rattle.bind_meaning.specs.Currencies.{first_full}
use Rattle.bind_terms.specs.Kinds.{trimmed_at}
use Rattle.bind_terms.proofs.currency.is_other_currency.Given as goal

abbrev pub invariant-found : goal.invariant-found
invariant-found g l = first_full (map (trimmed_at (tree_nodes l.doc)) (drop l.m-index l.found)) ≡ first_full (map (trimmed_at (tree_nodes l.doc)) l.found)
