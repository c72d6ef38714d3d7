use Rattle.std.proofs.Common.{◌++◌, ◌∷◌, [], ap, sym, ◌∙◌}
use Rattle.node_arena.specs.Moves.{tree_nodes}
use Rattle.document_jobs.proofs.CheckLemmas.{found_more, found_none, came_at}
use Rattle.document_jobs.proofs.checks.judge_all.Goals as goal

pub files-init : goal.files-init
files-init g c = c.new-found.ensures.items ∙ sym (found_none (tree_nodes c.args.doc.now))

pub files-preserved : goal.files-preserved
files-preserved g c =
    c.in_ok-push.ensures.items
    ∙ (ap (λ found. found ++ c.in_ok-judge.field-0 ∷ []) c.files.invariant
    ∙ found_more (tree_nodes c.args.doc.now) c.args.chosen.now c.files.file-index c.file-item.result c.in_ok-judge.field-0 c.files-test.true c.file-item.is
    c.in_ok-judge.ensures)

pub judge-requires : goal.judge-requires
judge-requires g c = came_at c.args.chosen.now c.files.file-index c.file-item.result c.files-test.true c.file-item.is c.requires
