use Rattle.std.proofs.Common.{◌<◌, ◌++◌, ap, length, subst, sym, arith}
use Rattle.node_arena.specs.Moves.{tree_nodes, tree_node}
use Rattle.xpath_plan.specs.Plans.{test_seen}
use Rattle.xpath_walks.specs.Tests.{is_passed}
use Rattle.xpath_walks.specs.Walks.{passing, from_up, if_so}
use Rattle.xpath_walks.proofs.ReverseLemmas.{up_is, climbed}
use Rattle.xpath_walks.proofs.WalkLemmas.{at_some, then_some, put_on}
use Rattle.xpath_walks.proofs.reverse.climb.Goals as goal

pub around-init : goal.around-init
around-init g c =
    let nodes = tree_nodes c.args.doc.now in
    let doc = c.documents_are_walkable.ensures in
    let n = c.args.from in
    let h : n < length nodes = subst (λ k. n < k) (sym doc.long) c.requires in
    let next = c.parent-next.result in
    record {
      within = then_some (λ m. m < n) (λ m. m < length c.args.doc.now.nodes) next c.parent-next.ensures.before (λ m l. omega (arith, l, c.requires));
      left = λ names is. ap (λ ns. c.args.out.now.items ++ passing c.args.step.now.axis nodes ns (test_seen names c.args.step.now.test.now))
          (up_is nodes doc.walkable n h next (sym c.parent-next.ensures.node));
    }

pub around-preserved : goal.around-preserved
around-preserved g c =
    let nodes = tree_nodes c.args.doc.now in
    let doc = c.documents_are_walkable.ensures in
    let n = c.in-Some.n in
    let in_it : n < length c.args.doc.now.nodes = at_some (λ m. m < length c.args.doc.now.nodes) c.around.next n c.in-Some.is c.around.invariant.within in
    let h : n < length nodes = subst (λ k. n < k) (sym doc.long) in_it in
    let axis = c.args.step.now.axis in
    let next = c.parent-next-in-Some.result in
    record {
      within = then_some (λ m. m < n) (λ m. m < length c.args.doc.now.nodes) next c.parent-next-in-Some.ensures.before (λ m l. omega (arith, l, in_it));
      left = λ names is.
          let test = test_seen names c.args.step.now.test.now in
          put_on (c.args.out.now.items ++ passing axis nodes (tree_node nodes c.args.from).above test) c.around.out.items c.take_passing.new.out.items
          (if_so (is_passed axis test (tree_node nodes n)) n) (passing axis nodes (from_up c.around.next nodes) test)
          (passing axis nodes (from_up next nodes) test) (c.in_ok-take_passing.ensures names is)
          (climbed axis nodes doc.walkable n h c.around.next next test c.in-Some.is c.parent-next-in-Some.ensures.node) (c.around.invariant.left names is);
    }
