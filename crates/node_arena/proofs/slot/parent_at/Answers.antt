use Rattle.std.proofs.Common.{ap, sym, ⊎_elim}
use Rattle.node_arena.specs.Moves.{nearest}
use Rattle.node_arena.specs.Slots.{is_inner}
use Rattle.node_arena.proofs.KeptLemmas.{above_at, above_document, parent_before}
use Rattle.node_arena.proofs.slot.parent_at.Goals as goal

pub returns-in-Document : goal.returns-in-Document
returns-in-Document c =
    let around = above_document c.args.nodes.now c.args.n c.index-nodes-n.result c.requires.within c.index-nodes-n.is (ap is_inner c.in-Document.is) in
    record { parent = ap nearest (sym around); around = around; before = tt }

pub returns-in-Element : goal.returns-in-Element
returns-in-Element c =
    let inner = ⊎_elim (ap is_inner) (⊎_elim (ap is_inner) (ap is_inner)) c.in-Element.is in
    let around = above_at c.args.nodes.now c.args.n c.index-nodes-n.result c.requires.below c.requires.within c.index-nodes-n.is inner in
    record {
      parent = ap nearest (sym around);
      around = around;
      before = parent_before c.args.nodes.now c.args.n c.index-nodes-n.result c.requires.below c.requires.within c.index-nodes-n.is inner;
    }
