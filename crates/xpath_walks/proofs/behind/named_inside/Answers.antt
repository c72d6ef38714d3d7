use Rattle.std.proofs.Common.{◌≡◌, ◌<◌, ◌≤◌, ◌++◌, ◌∙◌, ◌+◌, ap, true, List, length, arith, subst, sym}
use Rattle.inv_base.specs.Tree.{Name}
use Rattle.node_arena.specs.Moves.{tree_nodes, tree_node}
use Rattle.xpath_grammar.specs.declared.step.Axis.TheVariants as a
use Rattle.xpath_plan.specs.Plans.{test_seen}
use Rattle.xpath_walks.specs.Tests.{numbers_of}
use Rattle.xpath_walks.specs.declared.walk.Way.TheVariants as w
use Rattle.xpath_walks.specs.Walks.{LeadsInside, is_taken, if_so, found_on, has_wanted, walked, chain_from, chain_up_to}
use Rattle.xpath_walks.proofs.FilterLemmas.{first_so}
use Rattle.xpath_walks.proofs.WalkLemmas.{at_some, then_some, put_on, past_last}
use Rattle.xpath_walks.proofs.ChainLemmas.{is_of_name, chain_more}
use Rattle.xpath_walks.proofs.InsideLemmas.{first_is_so, parts_within, inside_is, inside_step}
use Rattle.xpath_walks.proofs.behind.named_inside.Goals as goal

pub chain-init : goal.chain-init
chain-init g c =
    let nodes = tree_nodes c.args.doc.now in
    let doc = c.documents_are_walkable.ensures in
    let step = c.args.step.now in
    let n = c.args.from in
    let first = c.first_named_behind-next in
    let last = c.number-last.result in
    let leads : (names : List Name) → step.numbers.now ≡ numbers_of c.args.doc.now.names names
    → LeadsInside (has_wanted (test_seen names step.test.now)) n last nodes first.result =
    λ names is. subst (λ test. LeadsInside (has_wanted (test_seen names test)) n last nodes first.result) (sym c.requires.named)
    (first.ensures.node names is) in
    record {
      within = then_some (λ m. (n < m) × (m < length c.args.doc.now.nodes)) (λ m. m < length c.args.doc.now.nodes) first.result first.ensures.within
          (λ m h. h.1);
      on = λ names is. first_is_so nodes doc.walkable (test_seen names step.test.now) n last first.result (leads names is);
      left = λ names is.
          ap (λ ns. c.args.out.now.items ++ ns)
          (inside_is nodes doc.walkable step.axis (test_seen names step.test.now) (is_of_name names c.args.k step.axis step.test.now c.requires.named) last
          n first.result (subst (λ k. n < k) (sym doc.long) c.requires.within) (c.number-last.ensures ∙ c.last_inside.ensures.node) (leads names is));
      cost = λ names is. omega (
        arith,
        c.last_inside.ensures.step,
        first.ensures.cost names is,
        ap (λ test. length (chain_up_to n nodes (test_seen names test))) c.requires.named,
        parts_within nodes doc.walkable (test_seen names step.test.now) n last first.result (leads names is),
      );
    }

pub returns-then-number-last-clause-found : goal.returns-then-number-last-clause-found
returns-then-number-last-clause-found g c = λ names is.
    let nodes = tree_nodes c.args.doc.now in
    let step = c.args.step.now in
    past_last w.All nodes c.number-last.result step.axis (test_seen names step.test.now) c.in-Some.n c.chain.next c.chain.out.items
    (c.args.out.now.items ++ found_on a.Descendant step.axis nodes c.args.from (test_seen names step.test.now))
    c.documents_are_walkable.ensures.walkable.counted (omega arith) c.in-Some.is (c.chain.invariant.left names is)

pub chain-preserved : goal.chain-preserved
chain-preserved g c =
    let nodes = tree_nodes c.args.doc.now in
    let doc = c.documents_are_walkable.ensures in
    let step = c.args.step.now in
    let n = c.in-Some.n in
    let last = c.number-last.result in
    let next = c.next_named-next in
    let within : n < length nodes = subst (λ k. n < k) (sym doc.long)
    (at_some (λ m. m < length c.args.doc.now.nodes) c.chain.next n c.in-Some.is c.chain.invariant.within) in
    let to : n ≤ last = omega arith in
    record {
      within = then_some (λ m. (n < m) × (m < length c.args.doc.now.nodes)) (λ m. m < length c.args.doc.now.nodes) next.result next.ensures.within (λ m h. h.1);
      on = λ names is.
          let test = test_seen names step.test.now in
          first_so (has_wanted test) (n + 1) nodes next.result doc.walkable.counted
          (next.ensures.next test (at_some (λ m. has_wanted test (tree_node nodes m) ≡ true) c.chain.next n c.in-Some.is (c.chain.invariant.on names is)));
      left = λ names is.
          let test = test_seen names step.test.now in
          put_on (c.args.out.now.items ++ found_on a.Descendant step.axis nodes c.args.from test) c.chain.out.items c.take_element.new.out.items
          (if_so (is_taken w.All nodes step.axis test (tree_node nodes n)) n) (walked w.All nodes c.chain.next last step.axis test)
          (walked w.All nodes next.result last step.axis test) (c.in_ok-take_element.ensures names is)
          (ap (λ o. walked w.All nodes o last step.axis test) c.in-Some.is
          ∙ inside_step nodes doc.walkable step.axis test (is_of_name names c.args.k step.axis step.test.now c.requires.named) last n next.result within to
          (next.ensures.next test (at_some (λ m. has_wanted test (tree_node nodes m) ≡ true) c.chain.next n c.in-Some.is (c.chain.invariant.on names is))))
          (c.chain.invariant.left names is);
      cost = λ names is.
          let test = test_seen names step.test.now in
          let so = at_some (λ m. has_wanted test (tree_node nodes m) ≡ true) c.chain.next n c.in-Some.is (c.chain.invariant.on names is) in
          omega (
            arith,
            c.chain.invariant.cost names is,
            next.ensures.cost,
            ap (λ o. length (chain_from nodes o test)) c.in-Some.is,
            chain_more nodes doc.walkable test n next.result within so (next.ensures.next test so),
          );
    }
