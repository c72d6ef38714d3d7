use Rattle.node_arena.specs.Moves.{tree_nodes}
use Rattle.xpath_parts.proofs.linking.ahead_of.Goals as goal

pub returns-in-Error-clause-ahead : goal.returns-in-Error-clause-ahead
returns-in-Error-clause-ahead g c = rw c.in-Error.is (c.after_error.ensures.ahead (tree_nodes c.args.dynamic.now.doc.now))

pub returns-in-Error-clause-within : goal.returns-in-Error-clause-within
returns-in-Error-clause-within g c = c.after_error.ensures.within _
