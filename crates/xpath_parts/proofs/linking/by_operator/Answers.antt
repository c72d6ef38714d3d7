use Rattle.node_arena.specs.Moves.{tree_nodes}
use Rattle.xpath_parts.proofs.linking.by_operator.Goals as goal

pub returns-in-And-clause-ahead : goal.returns-in-And-clause-ahead
returns-in-And-clause-ahead g c = rw c.in-And.is (c.unless_decided.ensures.ahead (tree_nodes c.args.dynamic.now.doc.now))

pub returns-in-And-clause-within : goal.returns-in-And-clause-within
returns-in-And-clause-within g c = c.unless_decided.ensures.within _ c.requires.within

pub returns-in-Or-clause-ahead : goal.returns-in-Or-clause-ahead
returns-in-Or-clause-ahead g c = rw c.in-Or.is (c.unless_decided-in-Or.ensures.ahead (tree_nodes c.args.dynamic.now.doc.now))

pub returns-in-Or-clause-within : goal.returns-in-Or-clause-within
returns-in-Or-clause-within g c = c.unless_decided-in-Or.ensures.within _ c.requires.within
