use Rattle.std.proofs.Common.{◌≡◌, ◌++◌, ◌∙◌, OnOk, ap, subst, sym}
use Rattle.node_arena.specs.Moves.{tree_nodes}
use Rattle.xpath_plan.specs.declared.plan_node.StepTest.TheVariants as t
use Rattle.xpath_plan.specs.Plans.{test_seen}
use Rattle.xpath_steps.specs.Numbers.{at_number}
use Rattle.xpath_walks.specs.Order.{node_items}
use Rattle.xpath_walks.specs.Walks.{axis_numbers}
use Rattle.xpath_steps.proofs.children.take_children.Goals as goal

pub returns-in-Node : goal.returns-in-Node
returns-in-Node g c = λ names is.
    let nodes = tree_nodes c.args.doc.now in
    let n = c.in-Node.from in
    subst (λ ns. OnOk c.child_items.result (c.child_items.new.out.items ≡ c.args.out.now.items ++ node_items ns))
    (ap (λ axis. axis_numbers nodes axis n (test_seen names (t.Named c.args.k))) (sym c.requires.child)
    ∙ (ap (λ test. axis_numbers nodes c.args.step.now.axis n (test_seen names test)) (sym c.requires.named)
    ∙ ap (at_number (λ m. axis_numbers nodes c.args.step.now.axis m (test_seen names c.args.step.now.test.now))) (sym c.in-Node.is)))
    (c.child_items.ensures names is)
