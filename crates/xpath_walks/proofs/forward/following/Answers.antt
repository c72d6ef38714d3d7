use Rattle.std.proofs.Common.{◌<◌, length, subst, sym}
use Rattle.node_arena.specs.Moves.{tree_nodes}
use Rattle.xpath_grammar.specs.declared.step.Axis.TheVariants as a
use Rattle.xpath_walks.specs.declared.walk.Way.TheVariants as w
use Rattle.xpath_walks.specs.Walks.{walked, found_on}
use Rattle.xpath_walks.proofs.ForwardLemmas.{adds_same, most, following_is}
use Rattle.xpath_walks.proofs.WalkLemmas.{next_all}
use Rattle.xpath_walks.proofs.forward.following.Goals as goal

pub returns : goal.returns
returns g c =
    let nodes = tree_nodes c.args.doc.now in
    let doc = c.documents_are_walkable.ensures in
    let n = c.args.from in
    let h : n < length nodes = subst (λ k. n < k) (sym doc.long) c.requires in
    let axis = c.args.step.now.axis in
    adds_same c.args.doc.now c.args.step.now c.walk.result c.args.out.now.items c.walk.new.out.items
    (walked w.All nodes c.next_node-begin.result 4294967295 axis) (found_on a.Following axis nodes n)
    (λ test. following_is nodes doc.walkable n h axis test c.next_node-begin.result c.last_inside-last.result 4294967295 c.last_inside-last.ensures.node
    c.last_inside-last.ensures.within.0 (most nodes doc.walkable)
    (next_all nodes c.last_inside-last.result (length c.args.doc.now.nodes) c.next_node-begin.result doc.long doc.walkable.counted
    c.next_node-begin.ensures.node)) c.walk.ensures
