-- What is found already covers what stands behind it.
use Rattle.std.proofs.Common.{◌≡◌, ℕ, ◌≤◌, Bool, true, false, List, [], ◌∷◌, ◌++◌, Option, Some, None, refl, ap, sym, ◌∙◌, arith}
use Rattle.std.specs.Prelude.{nat_le}
use Rattle.std.proofs.lemmas.Bool.Decides.{nat_tests}
use Rattle.std.proofs.lemmas.List.Elements.{filter-append}
use Rattle.schematron_meaning.specs.Written.{Written}
use Rattle.schematron_expansion.specs.declared.found.Found.{Found}
use Rattle.schematron_expansion.specs.Found.{sooner}
use Rattle.schematron_faults.specs.Least.{found_of, least, is_up_to, up_to, soonest}
use Rattle.schematron_faults.proofs.FoundLemmas.{sooner-assoc, sooner-none}

-- ---- joined lists

pub least-append : (xs ys : List Written) → least (xs ++ ys) ≡ sooner (least xs) (least ys)
least-append [] ys = refl
least-append (x ∷ xs) ys = ap (sooner (found_of x)) (least-append xs ys) ∙ sym (sooner-assoc (found_of x) (least xs) (least ys))

pub soonest-append : (best : Option Found) (last : Option ℕ) (xs ys : List Written) → soonest best last (xs ++ ys) ≡ soonest (soonest best last xs) last ys
soonest-append best last xs ys = ap (λ (ws : List Written). sooner best (least ws)) (filter-append (λ (w : Written). is_up_to last w.stand) xs ys)
    ∙ (ap (sooner best) (least-append (up_to last xs) (up_to last ys)) ∙ sym (sooner-assoc best (least (up_to last xs)) (least (up_to last ys))))

pub soonest-nil : (best : Option Found) (last : Option ℕ) → soonest best last [] ≡ best
soonest-nil best last = sooner-none best

-- ---- what is covered

-- No fault of these is sooner.
abbrev pub Covers : Option Found → Option Found → Type 0
Covers best None = Unit {0}
Covers None (Some x) = ⊥
Covers (Some b) (Some x) = b.at ≤ x.at

pub covers_keeps : (best x : Option Found) → Covers best x → sooner best x ≡ best
covers_keeps best None h = sooner-none best
covers_keeps None (Some x) h = absurd h
covers_keeps (Some b) (Some x) h = by (nat_le b.at x.at) (grind (arith, nat_tests))
  where
    by : (test : Bool) → test ≡ true → Some (elim test [ true ↦ b | false ↦ x ]) ≡ Some b
    by test t = ap (λ (c : Bool). Some (elim c [ true ↦ b | false ↦ x ])) t

pub covers-sooner : (best y x : Option Found) → Covers best x → Covers (sooner best y) x
covers-sooner best y None h = tt
covers-sooner None y (Some x) h = absurd h
covers-sooner (Some b) None (Some x) h = h
covers-sooner (Some b) (Some y) (Some x) h = by (nat_le b.at y.at) refl
  where
    by : (test : Bool) → nat_le b.at y.at ≡ test → Covers (Some (elim test [ true ↦ b | false ↦ y ])) (Some x)
    by true t = h
    by false t = grind (arith, nat_tests)

pub covers_both : (best x y : Option Found) → Covers best x → Covers best y → Covers best (sooner x y)
covers_both best None y h k = k
covers_both best (Some x) None h k = h
covers_both best (Some x) (Some y) h k = by (nat_le x.at y.at)
  where
    by : (test : Bool) → Covers best (Some (elim test [ true ↦ x | false ↦ y ]))
    by true = h
    by false = k

pub covers_behind : (best : Option Found) (x y : Found) → x.at ≤ y.at → Covers (sooner best (Some x)) (Some y)
covers_behind None x y h = h
covers_behind (Some b) x y h = by (nat_le b.at x.at) refl
  where
    by : (test : Bool) → nat_le b.at x.at ≡ test → Covers (Some (elim test [ true ↦ b | false ↦ x ])) (Some y)
    by true t = grind (arith, nat_tests)
    by false t = h
