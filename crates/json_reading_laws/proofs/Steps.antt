-- Runs, step by step.
use Rattle.std.proofs.Common.{◌≡◌, ℕ, ◌+◌, suc, List, [], ◌∷◌, ◌++◌, length, Result, Ok, Err, refl, sym, ap, ◌∙◌, arith}
use Rattle.json_reading.specs.declared.fault.JsonFault.{JsonFault}
use Rattle.json_reading.specs.Reading.{State, step, run}
use Rattle.json_reading.proofs.IdleLemmas.{goes_on, run_step}

pub run_ok : (deepest at b : ℕ) (bytes : List ℕ) (s next : State) → step deepest at b s ≡ Ok next → run deepest at (b ∷ bytes) s
    ≡ run deepest (suc at) bytes next
run_ok deepest at b bytes s next h = run_step deepest at b bytes s ∙ ap (goes_on deepest (suc at) bytes) h

pub run_err : (deepest at b : ℕ) (bytes : List ℕ) (s : State) (f : JsonFault) → step deepest at b s ≡ Err f → run deepest at (b ∷ bytes) s ≡ Err f
run_err deepest at b bytes s f h = run_step deepest at b bytes s ∙ ap (goes_on deepest (suc at) bytes) h

run-append_by : (deepest at b : ℕ) (xs ys : List ℕ) (s : State) (r : Result State JsonFault) → step deepest at b s ≡ r
    → ((next : State) → run deepest (suc at) (xs ++ ys) next ≡ goes_on deepest (suc at + length xs) ys (run deepest (suc at) xs next))
    → run deepest at ((b ∷ xs) ++ ys) s ≡ goes_on deepest (at + length (b ∷ xs)) ys (run deepest at (b ∷ xs) s)
run-append_by deepest at b xs ys s (Ok next) h rest =
    let counted : suc at + length xs ≡ at + length (b ∷ xs) = omega arith in
    run_ok deepest at b (xs ++ ys) s next h
    ∙ (rest next
    ∙ (ap (λ n. goes_on deepest n ys (run deepest (suc at) xs next)) counted
    ∙ ap (goes_on deepest (at + length (b ∷ xs)) ys) (sym (run_ok deepest at b xs s next h))))
run-append_by deepest at b xs ys s (Err f) h rest =
    run_err deepest at b (xs ++ ys) s f h ∙ ap (goes_on deepest (at + length (b ∷ xs)) ys) (sym (run_err deepest at b xs s f h))

pub run-append : (deepest : ℕ) (xs ys : List ℕ) (at : ℕ) (s : State) → run deepest at (xs ++ ys) s ≡ goes_on deepest (at + length xs) ys (run deepest at xs s)
run-append deepest [] ys at s = ap (λ n. run deepest n ys s) (omega arith)
run-append deepest (b ∷ xs) ys at s = run-append_by deepest at b xs ys s (step deepest at b s) refl (λ next. run-append deepest xs ys (suc at) next)
