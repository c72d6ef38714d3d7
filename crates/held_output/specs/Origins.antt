-- What became of an output since bytes began to be held back in front of it.
use Rattle.std.specs.Prelude.{◌≡◌, ℕ, ◌≤◌, List, take, length, Some, Result, MatchResult}
use Rattle.std.proofs.Common.{◌⊎◌}
use Rattle.job_protocol.specs.declared.status.Status.{Status}
use Rattle.job_protocol.specs.declared.status.Status.TheVariants as statuses
use Rattle.job_protocol.specs.Outside.{IsAccepted}
use Rattle.inv_base.specs.Counts.{Rose}
use Rattle.inv_base.specs.Outside.{SinkView, appended}

-- Nothing that was told at the start is lost, and the count of faults never fell.
pub record IsSince (start now : SinkView) : Type 0 where
  pub told : (first whole : List ℕ) → start.told ≡ Some first → now.told ≡ Some whole → take (length first) whole ≡ first
  pub rises : start.faults ≤ now.faults

-- Of what was shown as taken, the output has a front, in which all stands that it had at the start; the rest is lost.
pub record TakesFront (start shown now : SinkView) : Type 0 where
  pub rest : List ℕ
  pub whole : appended rest now.told ≡ shown.told
  pub since : IsSince start now
  pub faults : now.faults ≡ shown.faults

-- The output has all that was shown as taken; or it failed, and has a front of it.
pub record HasFailed (start shown now : SinkView) : Type 0 where
  pub rest : List ℕ
  pub whole : appended rest now.told ≡ shown.told
  pub since : IsSince start now
  pub began : start.faults ≤ shown.faults
  pub rises : shown.faults ≤ now.faults
  pub rose : Rose shown.faults now.faults

abbrev pub Hands : {T E : Type 0} → Result T E → SinkView → SinkView → SinkView → Type 0
Hands result start shown now = MatchResult result (λ _. now ≡ shown) (λ _. HasFailed start shown now)

-- A job that has answered keeps its status where all was handed on, and ends with a write fault where that failed; every other job keeps its
-- status, and no more of what it wrote is handed on.
abbrev pub HandedOver : Status → Status → SinkView → SinkView → SinkView → Type 0
HandedOver status status' start shown now =
    (IsAccepted status × (status' ≡ status) × (now ≡ shown))
    ⊎ ((IsAccepted status × (status' ≡ statuses.WriteFault) × HasFailed start shown now)
    ⊎ ((IsAccepted status → ⊥) × (status' ≡ status) × TakesFront start shown now))
