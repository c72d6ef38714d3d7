use Rattle.std.proofs.Common.{◌<◌, length, subst, sym}
use Rattle.node_arena.specs.Moves.{tree_nodes}
use Rattle.xpath_grammar.specs.declared.step.Axis.TheVariants as a
use Rattle.xpath_walks.specs.declared.walk.Way.TheVariants as w
use Rattle.xpath_walks.specs.Walks.{walked, found_on}
use Rattle.xpath_walks.proofs.ForwardLemmas.{adds_same, most, child_is}
use Rattle.xpath_walks.proofs.WalkLemmas.{first_is_on}
use Rattle.xpath_walks.proofs.forward.children.Goals as goal

pub walk-requires-clause-on : goal.walk-requires-clause-on
walk-requires-clause-on g c =
    first_is_on (w.Children c.args.from) (tree_nodes c.args.doc.now) 0 c.first_child-begin.result c.documents_are_walkable.ensures.walkable.counted
    c.first_child-begin.ensures.node

pub returns : goal.returns
returns g c =
    let nodes = tree_nodes c.args.doc.now in
    let doc = c.documents_are_walkable.ensures in
    let n = c.args.from in
    let h : n < length nodes = subst (λ k. n < k) (sym doc.long) c.requires in
    let axis = c.args.step.now.axis in
    adds_same c.args.doc.now c.args.step.now c.walk.result c.args.out.now.items c.walk.new.out.items
    (walked (w.Children n) nodes c.first_child-begin.result 4294967295 axis) (found_on a.Child axis nodes n)
    (λ test. child_is nodes doc.walkable n h axis test c.first_child-begin.result 4294967295 (most nodes doc.walkable) c.first_child-begin.ensures.node)
    c.walk.ensures
