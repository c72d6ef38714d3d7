use Rattle.std.proofs.Common.{ap, sym, ◌∙◌}
use Rattle.node_arena.specs.declared.slot.Slot.{Slot}
use Rattle.node_arena.proofs.BuilderLemmas.{last_place-kept}
use Rattle.node_arena.proofs.builder.last_place.Goals as goal

pub returns : goal.returns
returns c =
    let is = c.index-nodes-nodes.is in
    ap (λ (slot : Slot). slot.place.byte) (sym is) ∙ last_place-kept c.args.nodes.now c.index-nodes-nodes.result c.requires is
