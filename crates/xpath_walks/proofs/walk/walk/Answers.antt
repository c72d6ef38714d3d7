use Rattle.std.proofs.Common.{◌≡◌, ◌<◌, ◌≤◌, ◌+◌, ◌++◌, ◌∙◌, ap, true, length, arith, subst, sym}
use Rattle.node_arena.specs.Moves.{tree_nodes, tree_node}
use Rattle.xpath_plan.specs.Plans.{test_seen}
use Rattle.xpath_walks.specs.Walks.{is_on_way, is_taken, walked, if_so}
use Rattle.xpath_walks.proofs.WalkLemmas.{at_some, then_some, past_last, first_is_on, walked_step, put_on}
use Rattle.xpath_walks.proofs.walk.walk.Goals as goal

pub returns-then-number-last : goal.returns-then-number-last
returns-then-number-last g c = λ names is.
    past_last c.args.way.now (tree_nodes c.args.doc.now) c.args.last c.args.step.now.axis
    (test_seen names c.args.step.now.test.now) c.in-Some.n c.nodes.next c.nodes.out.items
    (c.args.out.now.items ++ walked c.args.way.now (tree_nodes c.args.doc.now) c.args.begin c.args.last c.args.step.now.axis
    (test_seen names c.args.step.now.test.now))
    c.documents_are_walkable.ensures.walkable.counted (omega arith) c.in-Some.is (c.nodes.invariant.left names is)

pub nodes-preserved : goal.nodes-preserved
nodes-preserved g c =
    let way = c.args.way.now in
    let nodes = tree_nodes c.args.doc.now in
    let doc = c.documents_are_walkable.ensures in
    let n = c.in-Some.n in
    let axis = c.args.step.now.axis in
    let next = c.next_on-next.result in
    let within : n < length nodes = subst (λ k. n < k) (sym doc.long)
    (at_some (λ m. m < length c.args.doc.now.nodes) c.nodes.next n c.in-Some.is c.nodes.invariant.within) in
    let on = at_some (λ m. is_on_way way (tree_node nodes m) ≡ true) c.nodes.next n c.in-Some.is c.nodes.invariant.on in
    let to : n ≤ c.args.last = omega arith in
    record {
      within = then_some (λ m. (n < m) × (m < length c.args.doc.now.nodes)) (λ m. m < length c.args.doc.now.nodes) next c.next_on-next.ensures.within
          (λ m h. h.1);
      on = first_is_on way nodes (n + 1) next doc.walkable.counted c.next_on-next.ensures.next;
      left = λ names is.
          let test = test_seen names c.args.step.now.test.now in
          put_on (c.args.out.now.items ++ walked way nodes c.args.begin c.args.last axis test) c.nodes.out.items c.take.new.out.items
          (if_so (is_taken way nodes axis test (tree_node nodes n)) n) (walked way nodes c.nodes.next c.args.last axis test)
          (walked way nodes next c.args.last axis test) (c.in_ok-take.ensures names is)
          (ap (λ o. walked way nodes o c.args.last axis test) c.in-Some.is
          ∙ walked_step way nodes c.args.last axis test n next doc.walkable.counted within on to c.next_on-next.ensures.next)
          (c.nodes.invariant.left names is);
    }
