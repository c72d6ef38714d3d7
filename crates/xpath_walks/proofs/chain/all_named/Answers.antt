use Rattle.std.proofs.Common.{◌≡◌, ◌<◌, ◌++◌, ◌∙◌, ◌+◌, None, ap, true, length, arith, subst, sym}
use Rattle.node_arena.specs.Moves.{tree_nodes, tree_node, parent, first_that}
use Rattle.xpath_grammar.specs.declared.step.Axis.TheVariants as a
use Rattle.xpath_plan.specs.Plans.{test_seen}
use Rattle.xpath_walks.specs.declared.walk.Way.TheVariants as w
use Rattle.xpath_walks.specs.Walks.{is_taken, if_so, found_on, has_wanted, taken_from, chain_from}
use Rattle.xpath_walks.proofs.FilterLemmas.{first_so}
use Rattle.xpath_walks.proofs.WalkLemmas.{at_some, then_some, put_on}
use Rattle.xpath_walks.proofs.ChainLemmas.{is_of_name, chain_step, all_is, chain_first, chain_more}
use Rattle.xpath_walks.proofs.chain.all_named.Goals as goal

pub chain-init : goal.chain-init
chain-init g c =
    let nodes = tree_nodes c.args.doc.now in
    let doc = c.documents_are_walkable.ensures in
    let of = c.is_of_a_tree.ensures in
    let step = c.args.step.now in
    let first = c.first_named-next in
    let rooted : 0 < length nodes = omega (arith, of.rooted, doc.long) in
    let nameless : (tree_node nodes 0).name ≡ None = ap (λ ns. (tree_node ns 0).name) of.tree.has_nodes in
    let alone : parent nodes 0 ≡ None = ap (λ ns. parent ns 0) of.tree.has_nodes in
    record {
      within = first.ensures.within;
      on = λ names is.
          first_so (has_wanted (test_seen names step.test.now)) 0 nodes first.result doc.walkable.counted
          (first.ensures.node names is ∙ ap (λ test. first_that (has_wanted (test_seen names test)) nodes) (sym c.requires));
      left = λ names is.
          ap (λ ns. c.args.out.now.items ++ ns)
          (all_is nodes doc.walkable step.axis (test_seen names step.test.now) (is_of_name names c.args.k step.axis step.test.now c.requires) first.result
          rooted nameless alone
          (first.ensures.node names is ∙ ap (λ test. first_that (has_wanted (test_seen names test)) nodes) (sym c.requires)));
      most = λ names is. omega (
        arith,
        first.ensures.cost.1,
        chain_first nodes doc.walkable (test_seen names step.test.now) first.result
            (first.ensures.node names is ∙ ap (λ test. first_that (has_wanted (test_seen names test)) nodes) (sym c.requires)),
      );
      least = λ names is. omega (
        arith,
        first.ensures.cost.0,
        chain_first nodes doc.walkable (test_seen names step.test.now) first.result
            (first.ensures.node names is ∙ ap (λ test. first_that (has_wanted (test_seen names test)) nodes) (sym c.requires)),
      );
    }

pub chain-preserved : goal.chain-preserved
chain-preserved g c =
    let nodes = tree_nodes c.args.doc.now in
    let doc = c.documents_are_walkable.ensures in
    let step = c.args.step.now in
    let n = c.in-Some.n in
    let next = c.next_named-next in
    let within : n < length nodes = subst (λ k. n < k) (sym doc.long)
    (at_some (λ m. m < length c.args.doc.now.nodes) c.chain.next n c.in-Some.is c.chain.invariant.within) in
    record {
      within = then_some (λ m. (n < m) × (m < length c.args.doc.now.nodes)) (λ m. m < length c.args.doc.now.nodes) next.result next.ensures.within (λ m h. h.1);
      on = λ names is.
          let test = test_seen names step.test.now in
          first_so (has_wanted test) (n + 1) nodes next.result doc.walkable.counted
          (next.ensures.next test (at_some (λ m. has_wanted test (tree_node nodes m) ≡ true) c.chain.next n c.in-Some.is (c.chain.invariant.on names is)));
      left = λ names is.
          let test = test_seen names step.test.now in
          put_on (c.args.out.now.items ++ found_on a.Descendant step.axis nodes 0 test) c.chain.out.items c.take_element.new.out.items
          (if_so (is_taken w.All nodes step.axis test (tree_node nodes n)) n) (taken_from nodes c.chain.next step.axis test)
          (taken_from nodes next.result step.axis test) (c.in_ok-take_element.ensures names is)
          (ap (λ o. taken_from nodes o step.axis test) c.in-Some.is
          ∙ chain_step nodes doc.walkable step.axis test (is_of_name names c.args.k step.axis step.test.now c.requires) n next.result within
          (next.ensures.next test (at_some (λ m. has_wanted test (tree_node nodes m) ≡ true) c.chain.next n c.in-Some.is (c.chain.invariant.on names is))))
          (c.chain.invariant.left names is);
      most = λ names is.
          let test = test_seen names step.test.now in
          let so = at_some (λ m. has_wanted test (tree_node nodes m) ≡ true) c.chain.next n c.in-Some.is (c.chain.invariant.on names is) in
          omega (
            arith,
            c.chain.invariant.most names is,
            next.ensures.cost,
            ap (λ o. length (chain_from nodes o test)) c.in-Some.is,
            chain_more nodes doc.walkable test n next.result within so (next.ensures.next test so),
          );
      least = λ names is.
          let test = test_seen names step.test.now in
          let so = at_some (λ m. has_wanted test (tree_node nodes m) ≡ true) c.chain.next n c.in-Some.is (c.chain.invariant.on names is) in
          omega (
            arith,
            c.chain.invariant.least names is,
            next.ensures.cost,
            ap (λ o. length (chain_from nodes o test)) c.in-Some.is,
            chain_more nodes doc.walkable test n next.result within so (next.ensures.next test so),
          );
    }
