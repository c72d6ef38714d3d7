use Rattle.std.proofs.Common.{◌≡◌, IfOk, length, subst}
use Rattle.node_arena.specs.Moves.{tree_nodes}
use Rattle.xpath_steps.proofs.NodeLemmas.{order_among, among_within}
use Rattle.xpath_steps.proofs.nodes.reordered.Goals as goal

pub returns : goal.returns
returns c = λ within.
    let items = c.args.items.now in
    let inside = among_within (length c.args.doc.now.nodes) items c.in_ok-nodes.nodes.items c.in_ok-nodes.ensures within in
    subst (λ xs. IfOk c.ordered.result (λ found. found ≡ xs))
    (order_among (tree_nodes c.args.doc.now) items c.in_ok-nodes.nodes.items c.in_ok-nodes.ensures) (c.ordered.ensures inside)
