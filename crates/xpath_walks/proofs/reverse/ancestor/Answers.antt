use Rattle.std.proofs.Common.{◌<◌, length, subst, sym}
use Rattle.node_arena.specs.Moves.{tree_nodes, tree_node}
use Rattle.xpath_grammar.specs.declared.step.Axis.TheVariants as a
use Rattle.xpath_walks.specs.Walks.{passing, found_on}
use Rattle.xpath_walks.proofs.ForwardLemmas.{adds_same}
use Rattle.xpath_walks.proofs.ReverseLemmas.{ancestor_is}
use Rattle.xpath_walks.proofs.reverse.ancestor.Goals as goal

pub returns : goal.returns
returns g c =
    let nodes = tree_nodes c.args.doc.now in
    let doc = c.documents_are_walkable.ensures in
    let n = c.args.from in
    let h : n < length nodes = subst (λ k. n < k) (sym doc.long) c.requires in
    let axis = c.args.step.now.axis in
    adds_same c.args.doc.now c.args.step.now c.climb.result c.args.out.now.items c.climb.new.out.items
    (passing axis nodes (tree_node nodes n).above) (found_on a.Ancestor axis nodes n) (λ test. ancestor_is nodes doc.walkable n h axis test) c.climb.ensures
