use Rattle.std.proofs.Common.{◌∙◌, subst, sym}
use Rattle.node_arena.specs.Moves.{tree_nodes}
use Rattle.xpath_items.specs.Faults.{Gives}
use Rattle.xpath_meaning.specs.Comparing as comparing
use Rattle.xpath_steps.proofs.RiseLemmas.{plain_atoms}
use Rattle.xpath_steps.proofs.operating.comparing_with.Goals as goal

pub returns-else-any_node : goal.returns-else-any_node
returns-else-any_node c =
    subst (λ ys. Gives c.compared.result (comparing.compared c.args.op c.args.xs.now ys))
    (sym (plain_atoms (tree_nodes c.args.doc.now) c.args.ys.now (sym c.any_node.ensures ∙ c.if-any_node.false))) c.compared.ensures
