-- The sooner of what was found, and the first of faults by entries whose numbers rise.
use Rattle.std.proofs.Common.{◌≡◌, ℕ, ◌<◌, Bool, true, false, List, [], ◌∷◌, ◌++◌, Option, Some, None, refl, ap, sym, ◌∙◌, arith}
use Rattle.std.specs.Prelude.{nat_le}
use Rattle.std.proofs.lemmas.Bool.Decides.{nat_tests}
use Rattle.schematron_meaning.specs.declared.fault.Fault.{Fault}
use Rattle.schematron_expansion.specs.declared.found.Found.{Found}
use Rattle.schematron_expansion.specs.Found.{first_at, first_or, sooner_of, sooner}

-- ---- the sooner of two

-- what is sooner, by its test
abbrev pick : Bool → Found → Found → Found
pick test a b = elim test [ true ↦ a | false ↦ b ]

of_test : (a b : Found) (test : Bool) → nat_le a.at b.at ≡ test → sooner_of a b ≡ pick test a b
of_test a b test h = ap (λ t. pick t a b) h

assoc_of : (a b c : Found) (ab bc ac : Bool) → nat_le a.at b.at ≡ ab → nat_le b.at c.at ≡ bc → nat_le a.at c.at ≡ ac →
    sooner_of (sooner_of a b) c ≡ sooner_of a (sooner_of b c)
assoc_of a b c true true true p q r = ap (λ x. sooner_of x c) (of_test a b true p) ∙
    (of_test a c true r ∙ (sym (of_test a b true p) ∙ ap (sooner_of a) (sym (of_test b c true q))))
assoc_of a b c true true false p q r = absurd (grind (arith, nat_tests))
assoc_of a b c true false ac p q r = ap (λ x. sooner_of x c) (of_test a b true p) ∙ ap (sooner_of a) (sym (of_test b c false q))
assoc_of a b c false true ac p q r = ap (λ x. sooner_of x c) (of_test a b false p) ∙
    (of_test b c true q ∙ (sym (of_test a b false p) ∙ ap (sooner_of a) (sym (of_test b c true q))))
assoc_of a b c false false true p q r = absurd (grind (arith, nat_tests))
assoc_of a b c false false false p q r = ap (λ x. sooner_of x c) (of_test a b false p) ∙
    (of_test b c false q ∙ (sym (of_test a c false r) ∙ ap (sooner_of a) (sym (of_test b c false q))))

pub sooner-assoc : (a b c : Option Found) → sooner (sooner a b) c ≡ sooner a (sooner b c)
sooner-assoc None b c = refl
sooner-assoc (Some a) None c = refl
sooner-assoc (Some a) (Some b) None = refl
sooner-assoc (Some a) (Some b) (Some c) = ap Some (assoc_of a b c (nat_le a.at b.at) (nat_le b.at c.at) (nat_le a.at c.at) refl refl refl)

pub sooner-none : (a : Option Found) → sooner a None ≡ a
sooner-none None = refl
sooner-none (Some a) = refl

-- ---- faults at one element, and behind it

-- What was found stands behind the element.
abbrev pub IsLater : ℕ → Option Found → Type 0
IsLater n None = Unit {0}
IsLater n (Some found) = n < found.at

-- at an element, and then behind it
pub step : (n : ℕ) (a b : List Fault) (x y : Option Found) → IsLater n x → IsLater n y
    → first_or (first_at n (a ++ b)) (sooner x y) ≡ sooner (first_or (first_at n a) x) (first_or (first_at n b) y)
step n [] [] x y h k = refl
step n [] (f ∷ b) None y h k = refl
step n [] (f ∷ b) (Some x) y h k = sym (ap Some (of_test x (record { at = n; fault = f }) false (grind (arith, nat_tests))))
step n (f ∷ a) [] x None h k = refl
step n (f ∷ a) [] x (Some y) h k = sym (ap Some (of_test (record { at = n; fault = f }) y true (grind (arith, nat_tests))))
step n (f ∷ a) (g ∷ b) x y h k = sym (ap Some (of_test (record { at = n; fault = f }) (record { at = n; fault = g }) true (grind (arith, nat_tests))))
