use Rattle.std.proofs.Common.{ap, ◌∙◌}
use Rattle.node_arena.specs.Moves.{tree_nodes}
use Rattle.bind_run.specs.Reading.{earlier, first_of}
use Rattle.bind_run.proofs.LossLemmas.{first-lost}
use Rattle.bind_run.proofs.gathering.first_lost.Goals as goal

pub returns-clause-lost : goal.returns-clause-lost
returns-clause-lost g c =
    let passed = c.first_of.ensures ∙ ap first_of (c.as_slice.ensures.value ∙ c.requires.passed_over) in
    let unread = c.first_of-2.ensures ∙ ap first_of (c.as_slice-2.ensures.value ∙ c.in_ok-losses.ensures.unread) in
    c.earlier-first.ensures
    ∙ ((λ i. earlier (passed i) (unread i))
    ∙ first-lost (tree_nodes c.args.doc.now) c.args.table.now (c.numbers_of_nodes_rise.ensures.document c.args.doc.now c.is_of_a_tree.ensures.tree))
