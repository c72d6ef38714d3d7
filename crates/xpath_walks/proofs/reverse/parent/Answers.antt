use Rattle.std.proofs.Common.{◌<◌, length, subst, sym, arith}
use Rattle.std.specs.declared.alloc.AllocError.{AllocError}
use Rattle.node_arena.specs.Moves.{tree_nodes, tree_node}
use Rattle.xpath_grammar.specs.declared.step.Axis.TheVariants as a
use Rattle.xpath_walks.specs.Tests.{is_passed}
use Rattle.xpath_walks.specs.Walks.{if_so, found_on}
use Rattle.xpath_walks.proofs.ForwardLemmas.{adds_same, adds_none}
use Rattle.xpath_walks.proofs.ReverseLemmas.{parent_is, no_parent}
use Rattle.xpath_walks.proofs.reverse.parent.Goals as goal

pub returns-in-Some : goal.returns-in-Some
returns-in-Some g c =
    let nodes = tree_nodes c.args.doc.now in
    let doc = c.documents_are_walkable.ensures in
    let n = c.args.from in
    let h : n < length nodes = subst (λ k. n < k) (sym doc.long) c.requires in
    let axis = c.args.step.now.axis in
    let p = c.in-Some.around in
    let to : p < n = c.in-Some.ensures.before in
    adds_same c.args.doc.now c.args.step.now c.take_passing.result c.args.out.now.items c.take_passing.new.out.items
    (λ test. if_so (is_passed axis test (tree_node nodes p)) p) (found_on a.Parent axis nodes n)
    (λ test. parent_is nodes doc.walkable n h axis test p (omega (arith, to, h)) (sym c.in-Some.ensures.node)) c.take_passing.ensures

pub returns-in-None : goal.returns-in-None
returns-in-None g c =
    let nodes = tree_nodes c.args.doc.now in
    let doc = c.documents_are_walkable.ensures in
    let n = c.args.from in
    let h : n < length nodes = subst (λ k. n < k) (sym doc.long) c.requires in
    let axis = c.args.step.now.axis in
    adds_none {X = Unit {0}} AllocError c.args.doc.now c.args.step.now tt c.args.out.now.items (found_on a.Parent axis nodes n)
    (λ test. no_parent nodes doc.walkable n h axis test (sym c.in-None.ensures.node))
