use Rattle.bind_said.proofs.said.said_nodes.Goals as goal

pub mark_said-requires : goal.mark_said-requires
mark_said-requires g c = c.marks_are_said.ensures.within c.args.table.now c.args.terms.now c.requires.terms
