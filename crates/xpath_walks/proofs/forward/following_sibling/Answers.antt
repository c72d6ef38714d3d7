use Rattle.std.proofs.Common.{◌<◌, None, length, subst, sym}
use Rattle.std.specs.declared.alloc.AllocError.{AllocError}
use Rattle.node_arena.specs.Moves.{tree_nodes}
use Rattle.xpath_grammar.specs.declared.step.Axis.TheVariants as a
use Rattle.xpath_walks.specs.declared.walk.Way.TheVariants as w
use Rattle.xpath_walks.specs.Walks.{walked, found_on}
use Rattle.xpath_walks.proofs.ForwardLemmas.{adds_same, adds_none, most, following_sibling_is, no_siblings, sibling_on}
use Rattle.xpath_walks.proofs.forward.following_sibling.Goals as goal

pub walk-requires-clause-on : goal.walk-requires-clause-on
walk-requires-clause-on g c =
    let nodes = tree_nodes c.args.doc.now in
    let doc = c.documents_are_walkable.ensures in
    let n = c.args.from in
    let h : n < length nodes = subst (λ k. n < k) (sym doc.long) c.requires in
    let axis = c.args.step.now.axis in
    sibling_on nodes doc.walkable n h axis None c.next_sibling-begin.result c.in-Some.around (sym c.in-Some.ensures.node) c.next_sibling-begin.ensures.node

pub returns-in-Some : goal.returns-in-Some
returns-in-Some g c =
    let nodes = tree_nodes c.args.doc.now in
    let doc = c.documents_are_walkable.ensures in
    let n = c.args.from in
    let h : n < length nodes = subst (λ k. n < k) (sym doc.long) c.requires in
    let axis = c.args.step.now.axis in
    adds_same c.args.doc.now c.args.step.now c.walk.result c.args.out.now.items c.walk.new.out.items
    (walked (w.Children c.in-Some.around) nodes c.next_sibling-begin.result 4294967295 axis) (found_on a.FollowingSibling axis nodes n)
    (λ test. following_sibling_is nodes doc.walkable n h axis test c.next_sibling-begin.result c.in-Some.around 4294967295 (sym c.in-Some.ensures.node)
    (most nodes doc.walkable) c.next_sibling-begin.ensures.node) c.walk.ensures

pub returns-in-None : goal.returns-in-None
returns-in-None g c =
    let nodes = tree_nodes c.args.doc.now in
    let doc = c.documents_are_walkable.ensures in
    let n = c.args.from in
    let h : n < length nodes = subst (λ k. n < k) (sym doc.long) c.requires in
    let axis = c.args.step.now.axis in
    adds_none {X = Unit {0}} AllocError c.args.doc.now c.args.step.now tt c.args.out.now.items (found_on a.FollowingSibling axis nodes n)
    (λ test. no_siblings nodes doc.walkable n h axis test (sym c.in-None.ensures.node))
