use Rattle.std.proofs.Common.{[], ◌∷◌}
use Rattle.node_locations.proofs.PutLemmas.{HasFront-more, HasFront-append, Puts-append, Puts-at_err}
use Rattle.node_locations.proofs.texts.push_bracketed.Goals as goal

pub returns-in_err-push_plain : goal.returns-in_err-push_plain
returns-in_err-push_plain c = Puts-at_err _ _ _ _ c.from_residual.ensures.0 (HasFront-more (0x5B ∷ []) _ _ _ c.in_err-push_plain.ensures)

pub returns-in_err-push_plain-2 : goal.returns-in_err-push_plain-2
returns-in_err-push_plain-2 c =
    rw (← c.format.ensures.text)
    (Puts-at_err _ _ _ _ c.from_residual-in_err-push_plain-2.ensures.0
    (HasFront-append (0x5B ∷ []) _ _ _ _ c.in_ok-push_plain.ensures (HasFront-more _ (0x5D ∷ []) _ _ c.in_err-push_plain-2.ensures)))

pub returns : goal.returns
returns c =
    rw (← c.format.ensures.text)
    (Puts-append _ (0x5B ∷ []) _ _ _ _ c.in_ok-push_plain.ensures
    (Puts-append _ _ (0x5D ∷ []) _ _ _ c.in_ok-push_plain-2.ensures c.push_plain-3.ensures))
