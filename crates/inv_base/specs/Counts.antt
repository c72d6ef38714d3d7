-- Counts of calls and of faults: unsigned 64-bit numbers that stop at their last value.
use Rattle.std.specs.Prelude.{◌≡◌, ℕ, ◌+◌, ◌<◌, ◌≤◌, min, Result, MatchResult}
use Rattle.std.proofs.Common.{◌⊎◌}

-- where a count stops: the greatest number of 64 bits
abbrev pub last_count : ℕ
last_count = 18446744073709551615

-- the count behind one more call
abbrev pub next_count : ℕ → ℕ
next_count n = min (n + 1) last_count

-- The count rose from one value to the other, or stands at its last value.
abbrev pub Rose : ℕ → ℕ → Type 0
Rose before after = (before < after) ⊎ (last_count ≤ after)

-- The count neither rose nor stands at its last value.
pub record Quiet (before after : ℕ) : Type 0 where
  pub same : after ≡ before
  pub counts : after < last_count

-- A call that answered Ok left the count of faults; one that failed raised it, or found it at its last value.
abbrev pub CountsFaults : {T E : Type 0} → Result T E → ℕ → ℕ → Type 0
CountsFaults result before after = MatchResult result (λ _. after ≡ before) (λ _. (before ≤ after) × Rose before after)
