use Rattle.std.proofs.Common.{◌<◌, ◌++◌, ◌∙◌, ap, refl, sym, subst, get_or, None}
use Rattle.std.proofs.lemmas.List.{length-map, append-nil}
use Rattle.node_arena.specs.Moves.{tree_nodes, node_of}
use Rattle.xpath_grammar.specs.declared.step.Axis.TheVariants as a
use Rattle.xpath_plan.specs.declared.plan_node.StepTest.TheVariants as t
use Rattle.xpath_plan.specs.Plans.{test_seen}
use Rattle.xpath_walks.specs.Order.{node_items}
use Rattle.xpath_walks.proofs.ForwardLemmas.{found_is}
use Rattle.xpath_walks.proofs.ChainLemmas.{none_of_name, none_found, is_of_name}
use Rattle.xpath_walks.proofs.children.child_items.Goals as goal

pub returns-in-None : goal.returns-in-None
returns-in-None g c = λ names is.
    let d = c.args.doc.now in
    let nodes = tree_nodes d in
    let of = c.is_of_a_tree.ensures in
    let doc = c.documents_are_walkable.ensures in
    let test = test_seen names (t.Named c.args.k) in
    let none = none_of_name d names c.args.k
    (λ name n h. c.names_are_found_by_number.ensures d name n of.distinct of.named (subst (λ k. n < k) (length-map d.nodes (node_of d.names)) h))
    (sym c.in-None.is ∙ (c.number_at.ensures ∙ ap (λ ns. get_or ns c.args.k None) is)) in
    sym (append-nil c.args.out.now.items)
    ∙ ap (λ ns. c.args.out.now.items ++ node_items ns)
    (sym (sym (found_is nodes a.Child c.args.from test)
    ∙ none_found nodes a.Child c.args.from test doc.walkable.counted (is_of_name names c.args.k a.Child (t.Named c.args.k) refl) none))
