use Rattle.std.proofs.Common.{subst, inr, refl}
use Rattle.std.specs.Prelude.{MatchBool}
use Rattle.job_protocol.specs.Outside.{IsAccepted}
use Rattle.held_output.proofs.Protocols.{handed_over}
use Rattle.held_output.proofs.handing.hand_over.Goals as goal

pub returns-then-is_accepted-clause-handed : goal.returns-then-is_accepted-clause-handed
returns-then-is_accepted-clause-handed g c =
    handed_over _ _ _ _ _ _ (subst (λ b. MatchBool b (IsAccepted c.args.status) (IsAccepted c.args.status → ⊥)) c.if-is_accepted.true c.is_accepted.ensures)
    c.status_behind.ensures c.finish-lent.ensures.hands

pub returns-else-is_accepted-clause-handed : goal.returns-else-is_accepted-clause-handed
returns-else-is_accepted-clause-handed g c =
    inr (inr (
      subst (λ b. MatchBool b (IsAccepted c.args.status) (IsAccepted c.args.status → ⊥)) c.if-is_accepted.false c.is_accepted.ensures,
      refl,
      c.into_sink.ensures.front,
    ))
