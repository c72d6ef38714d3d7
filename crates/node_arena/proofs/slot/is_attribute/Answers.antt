use Rattle.std.proofs.Common.{ap, sym, ◌∙◌, ⊎_elim}
use Rattle.node_arena.specs.Document.{Placed}
use Rattle.node_arena.specs.Keys.{is_attribute_kind}
use Rattle.node_arena.proofs.KeptLemmas.{kept-at}
use Rattle.node_arena.proofs.slot.is_attribute.Goals as goal

pub returns-in-Attribute : goal.returns-in-Attribute
returns-in-Attribute c =
    sym (ap (λ (node : Placed). is_attribute_kind node.kind) (kept-at c.args.nodes.now c.args.n c.index-nodes-n.result c.requires c.index-nodes-n.is)
    ∙ ap is_attribute_kind c.in-Attribute.is)

pub returns-in-Document : goal.returns-in-Document
returns-in-Document c =
    sym (ap (λ (node : Placed). is_attribute_kind node.kind) (kept-at c.args.nodes.now c.args.n c.index-nodes-n.result c.requires c.index-nodes-n.is)
    ∙ ⊎_elim (ap is_attribute_kind) (⊎_elim (ap is_attribute_kind) (ap is_attribute_kind)) c.in-Document.is)
