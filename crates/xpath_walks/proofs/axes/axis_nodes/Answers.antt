use Rattle.node_arena.specs.Moves.{tree_nodes}
use Rattle.xpath_walks.specs.Walks.{found, axis_numbers}
use Rattle.xpath_walks.proofs.ForwardLemmas.{adds_same, found_is}
use Rattle.xpath_walks.proofs.axes.axis_nodes.Goals as goal

pub returns : goal.returns
returns g c =
    let nodes = tree_nodes c.args.doc.now in
    let axis = c.args.step.now.axis in
    adds_same c.args.doc.now c.args.step.now c.by_axis.result c.args.out.now.items c.by_axis.new.out.items (found axis nodes c.args.from)
    (axis_numbers nodes axis c.args.from) (found_is nodes axis c.args.from) c.by_axis.ensures
