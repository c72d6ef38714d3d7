use Rattle.std.proofs.Common.{◌≡◌, ◌<◌, ◌≤◌, ◌+◌, ◌++◌, ◌∙◌, ap, true, refl, length, arith, subst, sym}
use Rattle.node_arena.specs.Moves.{tree_nodes, tree_node}
use Rattle.xpath_grammar.specs.declared.step.Axis.TheVariants as a
use Rattle.xpath_plan.specs.declared.plan_node.StepTest.TheVariants as t
use Rattle.xpath_plan.specs.Plans.{test_seen}
use Rattle.xpath_walks.specs.declared.walk.Way.TheVariants as w
use Rattle.xpath_walks.specs.Walks.{is_on_way, is_taken, walked, if_so, axis_numbers}
use Rattle.xpath_walks.specs.Order.{node_items}
use Rattle.xpath_walks.proofs.ChildLemmas.{put_items_on}
use Rattle.xpath_walks.proofs.ForwardLemmas.{most, child_is, found_is}
use Rattle.xpath_walks.proofs.WalkLemmas.{at_some, then_some, first_is_on, walked_step, on_children}
use Rattle.xpath_walks.proofs.children.numbered_items.Goals as goal

pub children-init : goal.children-init
children-init g c =
    let from = c.args.from in
    let nodes = tree_nodes c.args.doc.now in
    let doc = c.documents_are_walkable.ensures in
    let first = c.first_child-next in
    let h : from < length nodes = subst (λ k. from < k) (sym doc.long) c.requires.within in
    record {
      within = then_some (λ m. (from < m) × (m < length c.args.doc.now.nodes)) (λ m. m < length c.args.doc.now.nodes) first.result first.ensures.behind
          (λ m h. h.1);
      on = first_is_on (w.Children from) nodes 0 first.result doc.walkable.counted first.ensures.node;
      left = λ names is.
          let test = test_seen names (t.Named c.args.k) in
          ap (λ ns. c.args.out.now.items ++ node_items ns)
          (child_is nodes doc.walkable from h a.Child test first.result 4294967295 (most nodes doc.walkable) first.ensures.node ∙
          found_is nodes a.Child from test);
    }

pub children-preserved : goal.children-preserved
children-preserved g c =
    let way = w.Children c.args.from in
    let nodes = tree_nodes c.args.doc.now in
    let doc = c.documents_are_walkable.ensures in
    let n = c.in-Some.n in
    let next = c.next_sibling-next in
    let within : n < length nodes = subst (λ k. n < k) (sym doc.long)
    (at_some (λ m. m < length c.args.doc.now.nodes) c.children.next n c.in-Some.is c.children.invariant.within) in
    let on = at_some (λ m. is_on_way way (tree_node nodes m) ≡ true) c.children.next n c.in-Some.is c.children.invariant.on in
    let to : n ≤ 4294967295 = omega (arith, within, doc.walkable.few) in
    let leads = on_children way c.args.from nodes n next.result refl on next.ensures.node in
    record {
      within = then_some (λ m. (n < m) × (m < length c.args.doc.now.nodes)) (λ m. m < length c.args.doc.now.nodes) next.result next.ensures.behind (λ m h. h.1);
      on = first_is_on way nodes (n + 1) next.result doc.walkable.counted leads;
      left = λ names is.
          let test = test_seen names (t.Named c.args.k) in
          put_items_on (c.args.out.now.items ++ node_items (axis_numbers nodes a.Child c.args.from test)) c.children.out.items c.put_numbered.new.out.items
          (if_so (is_taken way nodes a.Child test (tree_node nodes n)) n) (walked way nodes c.children.next 4294967295 a.Child test)
          (walked way nodes next.result 4294967295 a.Child test) (c.in_ok-put_numbered.ensures names is)
          (ap (λ o. walked way nodes o 4294967295 a.Child test) c.in-Some.is
          ∙ walked_step way nodes 4294967295 a.Child test n next.result doc.walkable.counted within on to leads)
          (c.children.invariant.left names is);
    }
