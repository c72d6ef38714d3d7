use Rattle.std.proofs.Common.{subst}
use Rattle.node_arena.specs.Moves.{tree_nodes}
use Rattle.bind_terms.specs.Reading.{Answers}
use Rattle.bind_terms.proofs.Within.{document-first}
use Rattle.bind_terms.proofs.judging.judge.Goals as goal

pub returns-in-Ok-Fault-clause-memory : goal.returns-in-Ok-Fault-clause-memory
returns-in-Ok-Fault-clause-memory g c = λ memory.
    absurd ((document-first c.args.input.now.doc.now c.is_of_a_tree.ensures.numbers c.is_of_a_tree.ensures.rooted c.args.input.now.lists.now
    c.args.input.now.table.now c.in-Ok-Fault.fault
    (subst (Answers (tree_nodes c.args.input.now.doc.now) c.args.input.now.lists.now c.args.input.now.table.now) c.in-Ok-Fault.field-0-is
    c.in-Ok-Fault.ensures)).1 memory)
