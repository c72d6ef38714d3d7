use Rattle.std.proofs.Common.{drop, ap, ◌∙◌}
use Rattle.inv_base.proofs.BufferingLemmas.{handed_on}
use Rattle.inv_base.proofs.buffered.Buffered.hand_on.Goals as goal

pub pieces-preserved : goal.pieces-preserved
pieces-preserved g c =
    handed_on _ _ _ _ _ _ (c.split_at.ensures.back ∙ ap (drop c.pieces.self.sent) c.deref.ensures.value) c.in-Ok.ensures.told c.in-Ok.ensures.faults ∙
    c.pieces.invariant
