use Rattle.std.proofs.Common.{◌∙◌, subst, sym}
use Rattle.node_arena.specs.Moves.{tree_nodes}
use Rattle.xpath_items.specs.Faults.{Gives}
use Rattle.xpath_meaning.specs.Comparing as comparing
use Rattle.xpath_meaning.specs.Items.{atomised}
use Rattle.xpath_steps.proofs.RiseLemmas.{plain_atoms}
use Rattle.xpath_steps.proofs.operating.comparing.Goals as goal

pub returns-else-any_node-clause-value : goal.returns-else-any_node-clause-value
returns-else-any_node-clause-value c =
    let nodes = tree_nodes c.args.doc.now in
    subst (λ xs. Gives c.comparing_with.result (comparing.compared c.args.op xs (atomised nodes c.args.ys.now)))
    (sym (plain_atoms nodes c.args.xs.now (sym c.any_node.ensures ∙ c.if-any_node.false))) c.comparing_with.ensures
