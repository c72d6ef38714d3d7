use Rattle.xpath_parts.proofs.SlotLemmas.{part_here, placed_parts}
use Rattle.xpath_parts.proofs.at_hand.unkept_here.Goals as goal

pub returns-else-is_light-clause-kept : goal.returns-else-is_light-clause-kept
returns-else-is_light-clause-kept c = λ base placed.
    part_here base c.args.kind.now c.args.parts.now c.args.focus.now c.args.bound.now c.in_ok-slot.slot c.in_ok-part.part.now c.in_ok-slot.ensures.once
    c.in_ok-slot.ensures.node (c.in_ok-part.ensures.some base.names.now) placed
    (c.in_ok-part.ensures.placed base (placed_parts base c.args.kind.now c.args.parts.now placed))
