use Rattle.std.proofs.Common.{◌<◌, ◌∙◌, length, arith, sym}
use Rattle.node_arena.specs.Moves.{tree_nodes}
use Rattle.xpath_plan.specs.declared.plan_node.StepTest.TheVariants as t
use Rattle.xpath_plan.specs.Plans.{test_seen}
use Rattle.xpath_walks.specs.Walks.{has_wanted}
use Rattle.xpath_walks.proofs.WalkLemmas.{then_some}
use Rattle.xpath_walks.proofs.BehindLemmas.{at_first, is_behind, none_ahead, none_here, none_past, found_here, least_left, goes_on}
use Rattle.xpath_walks.proofs.behind.first_named_behind.Goals as goal

pub returns-then-number-clause-node : goal.returns-then-number-clause-node
returns-then-number-clause-node g c = λ names is.
    is_behind (has_wanted (test_seen names (t.Named c.args.k))) c.args.from c.chain.here c.chain.ahead c.args.steps.now c.chain.steps
    (tree_nodes c.args.doc.now)
    c.documents_are_walkable.ensures.walkable.counted (c.chain.invariant.ahead names is) c.in-Some.m c.in-Some.is (omega arith)

pub returns-in_default-next_node-clause-node : goal.returns-in_default-next_node-clause-node
returns-in_default-next_node-clause-node g c = λ names is.
    none_here (has_wanted (test_seen names (t.Named c.args.k))) c.args.from c.chain.here c.chain.ahead c.args.steps.now c.chain.steps
    (tree_nodes c.args.doc.now)
    c.documents_are_walkable.ensures.walkable.counted (c.chain.invariant.ahead names is) c.args.last
    (omega (arith, c.in_default-next_node.ensures.node, c.documents_are_walkable.ensures.long))

pub returns-in_default-next_node-clause-cost : goal.returns-in_default-next_node-clause-cost
returns-in_default-next_node-clause-cost g c = λ names is.
    omega (
      arith,
      c.next_node.ensures.step,
      least_left (has_wanted (test_seen names (t.Named c.args.k))) c.args.from c.chain.here c.chain.ahead c.args.steps.now c.chain.steps
          (tree_nodes c.args.doc.now)
          c.documents_are_walkable.ensures.walkable.counted (c.chain.invariant.ahead names is) c.in-Some.m c.in-Some.is (omega arith),
    )

pub returns-then-number-last-clause-node : goal.returns-then-number-last-clause-node
returns-then-number-last-clause-node g c = λ names is.
    none_past (has_wanted (test_seen names (t.Named c.args.k))) c.args.from c.chain.here c.chain.ahead c.args.steps.now c.chain.steps
    (tree_nodes c.args.doc.now)
    c.documents_are_walkable.ensures.walkable.counted (c.chain.invariant.ahead names is) c.args.last c.in-Some-next_node.n c.in-Some-next_node.ensures.node.1
    (omega arith)

pub returns-then-number-last-clause-cost : goal.returns-then-number-last-clause-cost
returns-then-number-last-clause-cost g c = λ names is.
    omega (
      arith,
      c.next_node.ensures.step,
      least_left (has_wanted (test_seen names (t.Named c.args.k))) c.args.from c.chain.here c.chain.ahead c.args.steps.now c.chain.steps
          (tree_nodes c.args.doc.now)
          c.documents_are_walkable.ensures.walkable.counted (c.chain.invariant.ahead names is) c.in-Some.m c.in-Some.is (omega arith),
    )

pub returns-then-is_of_name-clause-node : goal.returns-then-is_of_name-clause-node
returns-then-is_of_name-clause-node g c = λ names is.
    found_here (has_wanted (test_seen names (t.Named c.args.k))) c.args.from c.chain.here c.chain.ahead c.args.steps.now c.chain.steps
    (tree_nodes c.args.doc.now)
    c.documents_are_walkable.ensures.walkable.counted (c.chain.invariant.ahead names is) c.in-Some-next_node.n
    (c.in-Some-next_node.ensures.node.1) c.chain.invariant.long
    (omega (arith, c.in-Some-next_node.ensures.node, c.documents_are_walkable.ensures.long)) (sym (c.is_of_name.ensures names is) ∙ c.if-is_of_name.true)

pub returns-then-is_of_name-clause-cost : goal.returns-then-is_of_name-clause-cost
returns-then-is_of_name-clause-cost g c = λ names is.
    omega (
      arith,
      c.next_node.ensures.step,
      least_left (has_wanted (test_seen names (t.Named c.args.k))) c.args.from c.chain.here c.chain.ahead c.args.steps.now c.chain.steps
          (tree_nodes c.args.doc.now)
          c.documents_are_walkable.ensures.walkable.counted (c.chain.invariant.ahead names is) c.in-Some.m c.in-Some.is (omega arith),
    )

pub chain-preserved : goal.chain-preserved
chain-preserved g c =
    let nodes = tree_nodes c.args.doc.now in
    let counted = c.documents_are_walkable.ensures.walkable.counted in
    let next = c.next_named-ahead in
    record {
      long = omega (arith, c.in-Some-next_node.ensures.node, c.chain.invariant.long);
      within = omega (arith, c.in-Some-next_node.ensures.node);
      node = then_some (λ m. (c.in-Some.m < m) × (m < length c.args.doc.now.nodes)) (λ m. m < length c.args.doc.now.nodes) next.result next.ensures.within
          (λ m h. h.1);
      ahead = λ names is.
          let so = has_wanted (test_seen names (t.Named c.args.k)) in
          let a = c.chain.invariant.ahead names is in
          goes_on so c.args.from c.chain.here c.chain.ahead c.args.steps.now c.chain.steps nodes counted a
          c.in-Some.m c.in-Some-next_node.n next.result next.new.steps c.in-Some.is (omega arith) c.in-Some-next_node.ensures.node.1
          (sym (c.is_of_name.ensures names is) ∙ c.if-is_of_name.false)
          (next.ensures.next (test_seen names (t.Named c.args.k))
          (at_first so c.args.from c.chain.here c.chain.ahead c.args.steps.now c.chain.steps nodes counted a c.in-Some.m c.in-Some.is).is)
          (omega (arith, c.next_node.ensures.step, next.ensures.cost));
    }

pub returns-clause-node : goal.returns-clause-node
returns-clause-node g c = λ names is.
    none_ahead (has_wanted (test_seen names (t.Named c.args.k))) c.args.from c.chain.here c.chain.ahead c.args.steps.now c.chain.steps
    (tree_nodes c.args.doc.now)
    c.documents_are_walkable.ensures.walkable.counted (c.chain.invariant.ahead names is) c.args.last c.in_default.is
