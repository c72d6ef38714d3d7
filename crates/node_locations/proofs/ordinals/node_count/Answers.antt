use Rattle.std.proofs.Common.{◌≡◌, ◌∙◌, ◌+◌, List, None, arith, ap}
use Rattle.std.proofs.lemmas.List.{length-map}
use Rattle.inv_base.specs.Tree.{Node}
use Rattle.node_arena.specs.Moves.{tree_nodes, tree_node, node_of, nearest, parent, last_inside}
use Rattle.node_locations.proofs.ordinals.node_count.Goals as goal

pub returns : goal.returns
returns g c =
    let doc = c.args.doc.now in
    let t = c.is_of_a_tree.ensures in
    let none : parent (tree_nodes doc) 0 ≡ None = ap (λ (nodes : List Node). nearest (tree_node nodes 0).above) t.tree.has_nodes in
    let whole = (c.moves_lead_on.ensures doc t.tree.tree t.tree.has_nodes 0 (omega (arith, t.rooted))).whole none in
    let long = length-map doc.nodes (node_of doc.names) in
    let is = c.number.ensures ∙ (c.last_inside.ensures.node ∙ ap (last_inside (tree_nodes doc)) c.document.ensures.number) in
    ap (λ k. k + 1) is ∙ (whole ∙ long)
