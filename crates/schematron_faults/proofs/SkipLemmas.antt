-- Expressions of which no fault would be told.
use Rattle.std.proofs.Common.{◌≡◌, ℕ, Bool, true, false, cond, ⊎_elim, List, [], ◌∷◌, Option, Some, None, refl, ap, sym, ◌∙◌, subst, arith}
use Rattle.std.specs.Prelude.{◌&&◌}
use Rattle.std.proofs.lemmas.Bool.{false≢true, and_cases}
use Rattle.std.proofs.lemmas.Bool.Decides.{nat_tests}
use Rattle.schematron_meaning.specs.declared.fault.ExpressionFault.{ExpressionFault}
use Rattle.schematron_meaning.specs.Written.{Written}
use Rattle.schematron_meaning.specs.Faults.{expression_fault, fault_of_written}
use Rattle.schematron_expansion.specs.declared.found.Found.{Found}
use Rattle.schematron_expansion.specs.Found.{first_at}
use Rattle.schematron_faults.specs.Least.{found_of, least, is_up_to, up_to, soonest, is_sooner}
use Rattle.schematron_faults.proofs.EachLemmas.{Each}
use Rattle.schematron_faults.proofs.CoverLemmas.{Covers, covers_keeps, covers_both}
use Rattle.schematron_faults.proofs.StandLemmas.{IsAt}

covers_at : (best : Option Found) (w : Written) → is_sooner best w.stand ≡ false → Covers best (found_of w)
covers_at None w h = absurd (false≢true (sym h))
covers_at (Some b) w h = by (expression_fault w.is_pattern w.text w.scope)
  where
    by : (x : Option ExpressionFault) → Covers (Some b) (first_at w.stand (fault_of_written w x))
    by None = tt
    by (Some f) = grind (arith, nat_tests)

covers_cond : (best : Option Found) (test : Bool) (w : Written) (ws : List Written) → (test ≡ true → Covers best (found_of w)) → Covers best (least ws) →
    Covers best (least (cond test (w ∷ ws) ws))
covers_cond best true w ws h k = covers_both best (found_of w) (least ws) (h refl) k
covers_cond best false w ws h k = k

covers_unwanted : (best : Option Found) (last : Option ℕ) (n : ℕ) (ws : List Written) → (is_sooner best n && is_up_to last n) ≡ false → Each (IsAt n) ws →
    Covers best (least (up_to last ws))
covers_unwanted best last n [] h at = tt
covers_unwanted best last n (w ∷ ws) h at = covers_cond best (is_up_to last w.stand) w (up_to last ws)
    (λ t. ⊎_elim
    (λ (here : is_sooner best n ≡ false). covers_at best w (ap (is_sooner best) at.0 ∙ here))
    (λ (there : is_up_to last n ≡ false). absurd (false≢true (sym there ∙ (sym (ap (is_up_to last) at.0) ∙ t))))
    (and_cases (is_sooner best n) (is_up_to last n) h))
    (covers_unwanted best last n ws h at.1)

-- nothing of what stands at an element is sooner where a fault there wouldn't be told
pub skipped : (best : Option Found) (last : Option ℕ) (n : ℕ) (ws : List Written) → (is_sooner best n && is_up_to last n) ≡ false → Each (IsAt n) ws →
    soonest best last ws ≡ best
skipped best last n ws h at = covers_keeps best (least (up_to last ws)) (covers_unwanted best last n ws h at)

-- and one that is right is none
pub right_skipped : (best : Option Found) (last : Option ℕ) (w : Written) → expression_fault w.is_pattern w.text w.scope ≡ None →
    soonest best last (w ∷ []) ≡ best
right_skipped best last w h = covers_keeps best (least (up_to last (w ∷ [])))
    (covers_cond best (is_up_to last w.stand) w []
    (λ t. subst (Covers best) (sym (ap (λ (x : Option ExpressionFault). first_at w.stand (fault_of_written w x)) h)) tt) tt)
