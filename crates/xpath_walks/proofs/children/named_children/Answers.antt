use Rattle.std.proofs.Common.{◌<◌, ◌++◌, ◌∙◌, ap, sym, subst, get_or, None}
use Rattle.std.proofs.lemmas.List.{length-map, append-nil}
use Rattle.node_arena.specs.Moves.{tree_nodes, node_of, first_that}
use Rattle.xpath_plan.specs.Plans.{test_seen}
use Rattle.xpath_walks.specs.Walks.{has_wanted}
use Rattle.xpath_walks.proofs.ChainLemmas.{none_of_name, none_found, is_of_name}
use Rattle.xpath_walks.proofs.children.named_children.Goals as goal

pub returns-in-None : goal.returns-in-None
returns-in-None g c = λ names is.
    let d = c.args.doc.now in
    let nodes = tree_nodes d in
    let of = c.is_of_a_tree.ensures in
    let doc = c.documents_are_walkable.ensures in
    let step = c.args.step.now in
    let test = test_seen names step.test.now in
    let none = none_of_name d names c.args.k
    (λ name n h. c.names_are_found_by_number.ensures d name n of.distinct of.named (subst (λ k. n < k) (length-map d.nodes (node_of d.names)) h))
    (sym c.in-None.is ∙ (c.number_at.ensures ∙ ap (λ ns. get_or ns c.args.k None) is)) in
    sym (append-nil c.args.out.now.items)
    ∙ ap (λ ns. c.args.out.now.items ++ ns)
    (sym (none_found nodes step.axis c.args.from test doc.walkable.counted (is_of_name names c.args.k step.axis step.test.now c.requires.named)
    (none ∙ ap (λ x. first_that (has_wanted (test_seen names x)) nodes) (sym c.requires.named))))
