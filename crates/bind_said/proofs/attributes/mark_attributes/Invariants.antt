use Rattle.node_arena.specs.Moves.{is_attribute_of}
use Rattle.bind_walk.specs.Chains.{still}
use Rattle.bind_said.specs.Saying.{named}
use Rattle.bind_said.proofs.LoopLemmas.{Marking}
use Rattle.bind_said.proofs.attributes.mark_attributes.Given as goal

abbrev pub invariant-attributes : goal.invariant-attributes
invariant-attributes g l = Marking (is_attribute_of l.fn.n) l.input.doc.now (named l.input.doc.now l.name) l.initial.marks.items l.at l.marks.items

abbrev pub decreases-attributes : goal.decreases-attributes
decreases-attributes g l = still l.input.doc.now l.at
