use Rattle.std.proofs.Common.{◌++◌, ◌∙◌, ap, sym}
use Rattle.node_arena.specs.Moves.{tree_nodes}
use Rattle.xpath_grammar.specs.declared.step.Axis.TheVariants as a
use Rattle.xpath_plan.specs.declared.plan_node.StepTest.TheVariants as t
use Rattle.xpath_plan.specs.Plans.{test_seen}
use Rattle.xpath_walks.specs.Order.{node_items}
use Rattle.xpath_walks.specs.Walks.{axis_numbers}
use Rattle.xpath_steps.proofs.children.named_children.Goals as goal

pub returns : goal.returns
returns g c = λ names is.
    let nodes = tree_nodes c.args.doc.now in
    c.of_items.ensures ∙ (c.in_ok-child_items.ensures names is
    ∙ (ap (λ xs. xs ++ node_items (axis_numbers nodes a.Child c.args.from (test_seen names (t.Named c.args.k)))) c.new-items.ensures.items
    ∙ (ap (λ axis. node_items (axis_numbers nodes axis c.args.from (test_seen names (t.Named c.args.k)))) (sym c.requires.child)
    ∙ ap (λ test. node_items (axis_numbers nodes c.args.step.now.axis c.args.from (test_seen names test))) (sym c.requires.named))))
