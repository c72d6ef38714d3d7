use Rattle.rule_library.proofs.NodeLemmas.{next_rest, next_within}
use Rattle.rule_library.proofs.moves.next_by.Goals as goal

pub returns : goal.returns
returns g c = record {
  rest = next_rest c.next_node.result c.args.n c.args.doc.now.nodes c.next_node.ensures.node;
  within = next_within c.next_node.result c.args.n c.args.doc.now.nodes c.next_node.ensures.node;
}
