use Rattle.std.proofs.Common.{◌≡◌, ◌+◌, ◌<◌, length, Option, None, ap, sym, ◌∙◌, arith}
use Rattle.std.proofs.lemmas.List.{length-map}
use Rattle.node_arena.specs.Moves.{node_of, nearest, tree_nodes, tree_node, last_inside}
use Rattle.bind_said.proofs.marks.count_nodes.Goals as goal

pub returns : goal.returns
returns g c =
    let d = c.args.doc.now in
    let of = c.is_of_a_tree.ensures in
    let outermost : nearest (tree_node (tree_nodes d) 0).above ≡ None = ap (λ nodes. nearest (tree_node nodes 0).above) of.tree.has_nodes in
    ap (λ n. n + 1) (c.number.ensures ∙ (c.last_inside-last.ensures.node ∙ ap (last_inside (tree_nodes d)) c.document.ensures.number))
    ∙ ((c.moves_lead_on.ensures d of.tree.tree of.tree.has_nodes 0 (let some = of.rooted in omega arith)).whole outermost
    ∙ length-map d.nodes (node_of d.names))
