use Rattle.std.specs.Prelude.{◌≡◌, map, take}
use Rattle.node_arena.specs.Moves.{tree_nodes}
use Rattle.document_jobs.specs.Checks.{chosen_of, all_found}
use Rattle.document_jobs.proofs.checks.judge_all.Given as goal

-- what the first files find
abbrev pub invariant-files : goal.invariant-files
invariant-files g l = l.found.items ≡ all_found (tree_nodes l.doc) (map chosen_of (take l.file-index l.chosen))
