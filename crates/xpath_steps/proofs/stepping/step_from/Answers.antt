use Rattle.std.proofs.Common.{◌∙◌, ap, sym, subst, Ok, length}
use Rattle.node_arena.specs.Moves.{tree_nodes}
use Rattle.xpath_operators.specs.Nodes.{AreWithin}
use Rattle.xpath_plan.specs.Plans.{test_seen}
use Rattle.xpath_steps.specs.Steps.{step_seen}
use Rattle.xpath_steps.proofs.NodeLemmas.{document_below}
use Rattle.xpath_steps.proofs.PathLemmas.{step_at_node, axis_within}
use Rattle.xpath_steps.proofs.stepping.step_from.Goals as goal

pub returns-in_ok-items-in-Node-clause-value : goal.returns-in_ok-items-in-Node-clause-value
returns-in_ok-items-in-Node-clause-value g c = λ names is.
    let nodes = tree_nodes c.args.doc.now in
    let axis = c.args.step.now.axis in
    let test = test_seen names c.args.step.now.test.now in
    ap (step_seen nodes axis test) c.in-Node.is ∙ (step_at_node nodes axis test c.in-Node.from ∙ ap Ok (sym (c.in_ok-items-in-Node.ensures names is)))

pub returns-in_ok-items-in-Node-clause-within : goal.returns-in_ok-items-in-Node-clause-within
returns-in_ok-items-in-Node-clause-within g c = λ names is.
    let count = length c.args.doc.now.nodes in
    subst (AreWithin count) (sym (c.in_ok-items-in-Node.ensures names is))
    (axis_within count (tree_nodes c.args.doc.now) c.args.step.now.axis (test_seen names c.args.step.now.test.now) c.in-Node.from
    (document_below c.args.doc.now c.documents_are_walkable.ensures))
