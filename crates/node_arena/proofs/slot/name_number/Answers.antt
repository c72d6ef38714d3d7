use Rattle.std.proofs.Common.{Some, ap, sym, ◌∙◌}
use Rattle.node_arena.specs.Document.{Placed}
use Rattle.node_arena.proofs.KeptLemmas.{kept-at}
use Rattle.node_arena.proofs.slot.name_number.Goals as goal

pub returns-in-Some : goal.returns-in-Some
returns-in-Some c =
    sym (ap (λ (node : Placed). node.name) (kept-at c.args.nodes.now c.args.n c.index-nodes-n.result c.requires c.index-nodes-n.is)
    ∙ (c.in-Some.is ∙ ap Some (sym c.number.ensures)))

pub returns-in-None : goal.returns-in-None
returns-in-None c =
    sym (ap (λ (node : Placed). node.name) (kept-at c.args.nodes.now c.args.n c.index-nodes-n.result c.requires c.index-nodes-n.is)
    ∙ c.in-None.is)
