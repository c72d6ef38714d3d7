use Rattle.std.proofs.Common.{◌≡◌, ◌∙◌, ap, sym, Ok, true, rules}
use Rattle.std.specs.List.{list_all}
use Rattle.node_arena.specs.Moves.{tree_nodes}
use Rattle.xpath_meaning.specs.Steps.{is_node}
use Rattle.xpath_plan.specs.Plans.{test_seen}
use Rattle.xpath_steps.specs.Steps.{numbers_over}
use Rattle.xpath_walks.specs.Order.{node_items}
use Rattle.xpath_steps.proofs.NodeLemmas.{order_within}
use Rattle.xpath_steps.proofs.PathLemmas.{path_of_steps, path_of_stepped}
use Rattle.xpath_steps.proofs.stepping.steps_over.Goals as goal

pub returns-clause-value : goal.returns-clause-value
returns-clause-value g c = λ names is.
    let are : list_all is_node c.args.items.now ≡ true = search rules in
    path_of_steps (tree_nodes c.args.doc.now) c.args.step.now.axis (test_seen names c.args.step.now.test.now) c.args.items.now are
    ∙ ap Ok (sym (c.in_ok-found.ensures names is))

pub returns-clause-stepped : goal.returns-clause-stepped
returns-clause-stepped g c = λ names is.
    let are : list_all is_node c.args.items.now ≡ true = search rules in
    path_of_stepped (tree_nodes c.args.doc.now) c.args.step.now.axis (test_seen names c.args.step.now.test.now) c.args.items.now are
    ∙ ap Ok (sym (c.in_ok-found.ensures names is))

pub returns-clause-within : goal.returns-clause-within
returns-clause-within g c = λ names is.
    order_within c.args.doc.now (node_items (numbers_over (tree_nodes c.args.doc.now) c.args.step.now.axis
    (test_seen names c.args.step.now.test.now) c.args.items.now))
    c.in_ok-found.found c.documents_are_walkable.ensures (c.in_ok-found.ensures names is)
