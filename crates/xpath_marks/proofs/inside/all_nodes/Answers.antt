use Rattle.std.proofs.Common.{◌∙◌, ap, sym, subst, ◌+◌, ◌<◌, ◌∷◌, ◌++◌, [], SomeIff}
use Rattle.xpath_parts.specs.Contexts.{count}
use Rattle.xpath_walks.specs.Walks.{node_numbers, from_on}
use Rattle.xpath_walks.proofs.WalkLemmas.{at_some}
use Rattle.xpath_marks.specs.Marking.{AreNodes, nodes_of}
use Rattle.xpath_marks.proofs.TurnLemmas.{nodes_append}
use Rattle.xpath_marks.proofs.InsideLemmas.{every_next, next_within}
use Rattle.xpath_marks.proofs.inside.all_nodes.Goals as goal

pub nodes-preserved : goal.nodes-preserved
nodes-preserved g c =
    let base = c.args.dynamic.now in
    let n = c.in-Some.n in
    let doc = c.documents_are_walkable.ensures in
    let within : n < count base = at_some (λ m. m < count base) c.nodes.next n c.in-Some.is c.nodes.invariant.next in
    record {
      next = next_within (count base) n c.next_node-next.result c.next_node-next.ensures.node;
      within = subst (AreNodes base) (sym c.in_ok-push.ensures.items) (nodes_append base c.nodes.all.items (n ∷ []) c.nodes.invariant.within (within, tt));
      left = every_next (nodes_of base) n c.next_node-next.result c.nodes.all.items c.push.new.self.items doc.walkable.counted
          (subst (λ k. n < k) (sym doc.long) within)
          (subst (λ k. SomeIff c.next_node-next.result (n + 1 < k) (n + 1)) (sym doc.long) c.next_node-next.ensures.node) c.in_ok-push.ensures.items
          (ap (λ o. c.nodes.all.items ++ node_numbers (from_on o (nodes_of base))) (sym c.in-Some.is) ∙ c.nodes.invariant.left);
    }
