-- Lemmas for the loop that reads bytes.
use Rattle.std.proofs.Common.{◌≡◌, ◌⊎◌, ℕ, ◌+◌, suc, List, ◌∷◌, drop, Result, Ok, Err, refl, sym, ap, ◌∙◌, inl, inr, arith}
use Rattle.json_reading.specs.declared.fault.JsonFault.{JsonFault}
use Rattle.json_reading.specs.Strings.{idle_len}
use Rattle.json_reading.specs.Reading.{State, step, run}
use Rattle.json_reading.specs.Standing.{Follows, Runs, IsTold}
use Rattle.json_reading.proofs.IdleLemmas.{goes_on, run_step, passes, idle}

pub runs_ok : (deepest at byte : ℕ) (behind : List ℕ) (old new : State) (len : ℕ) → step deepest at byte old ≡ Ok new → len ≡ idle_len new.mode behind
    → run deepest at (byte ∷ behind) old ≡ run deepest (at + (len + 1)) (drop (len + 1) (byte ∷ behind)) new
runs_ok deepest at byte behind old new len done is =
    passes deepest at (idle_len new.mode behind) byte behind old new done (idle deepest (suc at) behind new)
    ∙ ap (λ n. run deepest (at + n) (drop n (byte ∷ behind)) new) (omega (arith, is))

pub runs_err : (deepest at byte : ℕ) (behind : List ℕ) (old : State) (f : JsonFault) → IsTold f (step deepest at byte old)
    → IsTold f (run deepest at (byte ∷ behind) old)
runs_err deepest at byte behind old f (inl memory) = inl memory
runs_err deepest at byte behind old f (inr is) = inr (run_step deepest at byte behind old ∙ ap (goes_on deepest (suc at) behind) is)
