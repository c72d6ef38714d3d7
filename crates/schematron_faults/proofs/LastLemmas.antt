-- Expressions behind a fault of another sort needn't be judged.
use Rattle.std.proofs.Common.{◌≡◌, ◌<◌, Bool, true, false, cond, List, [], ◌∷◌, Option, Some, None, refl, ap, sym, ◌∙◌, arith}
use Rattle.std.specs.Prelude.{nat_le}
use Rattle.std.proofs.lemmas.Bool.Decides.{nat_tests}
use Rattle.schematron_meaning.specs.declared.fault.ExpressionFault.{ExpressionFault}
use Rattle.schematron_meaning.specs.Written.{Written}
use Rattle.schematron_meaning.specs.Faults.{expression_fault, fault_of_written}
use Rattle.schematron_expansion.specs.declared.found.Found.{Found}
use Rattle.schematron_expansion.specs.Found.{first_at, sooner}
use Rattle.schematron_faults.specs.Joining.{place_of}
use Rattle.schematron_faults.specs.Least.{found_of, least, up_to, soonest}
use Rattle.schematron_faults.proofs.FoundLemmas.{sooner-assoc}
use Rattle.schematron_faults.proofs.CoverLemmas.{Covers}

-- One is sooner for good.
abbrev IsBehind : Option Found → Found → Type 0
IsBehind None found = Unit {0}
IsBehind (Some x) found = found.at < x.at

-- One that stands where the last does or before is the sooner one of it and of what is behind.
before_behind : (last : Found) (x y : Option Found) → IsBehind x last → Covers y (Some last) → sooner x y ≡ y
before_behind last None y h k = refl
before_behind last (Some x) None h k = absurd k
before_behind last (Some x) (Some y) h k = by (nat_le x.at y.at) refl
  where
    by : (test : Bool) → nat_le x.at y.at ≡ test → Some (elim test as (λ _. Found) [ true ↦ x | false ↦ y ]) ≡ Some y
    by true t = absurd (grind (arith, nat_tests))
    by false t = refl

at_most : (last : Found) (y : Option Found) → Covers (sooner y (Some last)) (Some last)
at_most last None = omega arith
at_most last (Some y) = by (nat_le y.at last.at) refl
  where
    by : (test : Bool) → nat_le y.at last.at ≡ test → Covers (Some (elim test as (λ _. Found) [ true ↦ y | false ↦ last ])) (Some last)
    by true t = grind (arith, nat_tests)
    by false t = omega arith

passed : (last : Found) (x y : Option Found) → IsBehind x last → sooner (sooner x y) (Some last) ≡ sooner y (Some last)
passed last x y h = sooner-assoc x y (Some last) ∙ before_behind last x (sooner y (Some last)) h (at_most last y)

behind_one : (w : Written) (last : Found) → nat_le w.stand last.at ≡ false → IsBehind (found_of w) last
behind_one w last t = by (expression_fault w.is_pattern w.text w.scope)
  where
    by : (x : Option ExpressionFault) → IsBehind (first_at w.stand (fault_of_written w x)) last
    by None = tt
    by (Some f) = grind (arith, nat_tests)

-- what stands behind doesn't matter
least_last : (last : Found) (ws : List Written) → sooner (least (up_to (Some last.at) ws)) (Some last) ≡ sooner (least ws) (Some last)
least_last last [] = refl
least_last last (w ∷ ws) = by (nat_le w.stand last.at) refl (least_last last ws)
  where
    by : (test : Bool) → nat_le w.stand last.at ≡ test → sooner (least (up_to (Some last.at) ws)) (Some last) ≡ sooner (least ws) (Some last)
        → sooner (least (cond test (w ∷ up_to (Some last.at) ws) (up_to (Some last.at) ws))) (Some last) ≡ sooner (sooner (found_of w) (least ws)) (Some last)
    by true t rest = sooner-assoc (found_of w) (least (up_to (Some last.at) ws)) (Some last) ∙
        (ap (sooner (found_of w)) rest ∙ sym (sooner-assoc (found_of w) (least ws) (Some last)))
    by false t rest = rest ∙ sym (passed last (found_of w) (least ws) (behind_one w last t))

all_up_to : (ws : List Written) → up_to None ws ≡ ws
all_up_to [] = refl
all_up_to (w ∷ ws) = ap (λ (vs : List Written). w ∷ vs) (all_up_to ws)

-- what was found of those up to the last, joined with it
pub soonest_last : (best last : Option Found) (ws : List Written) → sooner (soonest best (place_of last) ws) last ≡ sooner best (sooner (least ws) last)
soonest_last best None ws = ap (λ (vs : List Written). sooner (sooner best (least vs)) None) (all_up_to ws) ∙ sooner-assoc best (least ws) None
soonest_last best (Some last) ws = sooner-assoc best (least (up_to (Some last.at) ws)) (Some last) ∙ ap (sooner best) (least_last last ws)
