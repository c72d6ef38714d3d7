-- Characters by their places are a part of the text in a row.
use Rattle.std.proofs.Common.{◌≡◌, ℕ, zero, suc, ◌-◌, ◌<◌, ◌≤◌, Bool, true, false, List, [], ◌∷◌, take, drop, ℤ, pos, negsuc, refl, ap, sym, ◌∙◌, arith, inl}
use Rattle.std.proofs.Common.{inr, max}
use Rattle.std.specs.Prelude.{int_le, int_lt, ◌&&◌}
use Rattle.std.proofs.lemmas.Bool.Decides.{nat_tests}
use Rattle.std.proofs.lemmas.Bool.{cases_lt}
use Rattle.xpath_meaning.specs.Texts.{at_places}
use Rattle.xpath_values.specs.Places.{at_least_none, skipped, kept}

passed : (test : ℕ → Bool) (p c : ℕ) (cs : List ℕ) → test p ≡ true → at_places test p (c ∷ cs) ≡ c ∷ at_places test (suc p) cs
passed test p c cs e = ap (λ (b : Bool). elim b [ true ↦ c ∷ at_places test (suc p) cs | false ↦ at_places test (suc p) cs ]) e

failed : (test : ℕ → Bool) (p c : ℕ) (cs : List ℕ) → test p ≡ false → at_places test p (c ∷ cs) ≡ at_places test (suc p) cs
failed test p c cs e = ap (λ (b : Bool). elim b [ true ↦ c ∷ at_places test (suc p) cs | false ↦ at_places test (suc p) cs ]) e

-- the places that pass are those from one number on, and below another
pub record IsRun (test : ℕ → Bool) (from end : ℕ) : Type 0 where
  pub inside : (p : ℕ) → from ≤ p → p < end → test p ≡ true
  pub before : (p : ℕ) → p < from → test p ≡ false
  pub behind : (p : ℕ) → end ≤ p → test p ≡ false

none_left : (test : ℕ → Bool) (from end p : ℕ) (cs : List ℕ) → IsRun test from end → end ≤ p → at_places test p cs ≡ []
none_left test from end p [] r h = refl
none_left test from end p (c ∷ cs) r h = failed test p c cs (r.behind p h) ∙ none_left test from end (suc p) cs r (omega arith)

take_none : (n : ℕ) (cs : List ℕ) → n ≡ 0 → take n cs ≡ []
take_none n cs e = ap (λ m. take m cs) e

take_one : (n m c : ℕ) (cs : List ℕ) → n ≡ suc m → take n (c ∷ cs) ≡ c ∷ take m cs
take_one n m c cs e = ap (λ k. take k (c ∷ cs)) e

drop_one : (n m c : ℕ) (cs : List ℕ) → n ≡ suc m → drop n (c ∷ cs) ≡ drop m cs
drop_one n m c cs e = ap (λ k. drop k (c ∷ cs)) e

empty_take : (n m : ℕ) → ◌≡◌ {A = List ℕ} [] (take n (drop m []))
empty_take zero zero = refl
empty_take zero (suc m) = refl
empty_take (suc n) zero = refl
empty_take (suc n) (suc m) = refl

from_here : (test : ℕ → Bool) (from end p : ℕ) (cs : List ℕ) → IsRun test from end → from ≤ p → at_places test p cs ≡ take (end - p) cs
from_here test from end p [] r h = empty_take (end - p) 0
from_here test from end p (c ∷ cs) r h = elim (cases_lt p end) as (λ _. at_places test p (c ∷ cs) ≡ take (end - p) (c ∷ cs)) [
  | inl below ↦ passed test p c cs (r.inside p h below) ∙
      (ap (λ x. c ∷ x) (from_here test from end (suc p) cs r (omega arith)) ∙ sym (take_one (end - p) (end - suc p) c cs (omega arith)))
  | inr above ↦ none_left test from end p (c ∷ cs) r above ∙ sym (take_none (end - p) (c ∷ cs) (omega arith))
]

pub run_is : (test : ℕ → Bool) (from end p : ℕ) (cs : List ℕ) → IsRun test from end → at_places test p cs ≡ take (end - max from p) (drop (from - p) cs)
run_is test from end p [] r = empty_take (end - max from p) (from - p)
run_is test from end p (c ∷ cs) r = elim (cases_lt p from) as (λ _. at_places test p (c ∷ cs) ≡ take (end - max from p) (drop (from - p) (c ∷ cs))) [
  | inl below ↦
      failed test p c cs (r.before p below) ∙ (run_is test from end (suc p) cs r
      ∙ (ap (λ n. take n (drop (from - suc p) cs)) (let e : end - max from (suc p) ≡ end - max from p = omega arith in e)
      ∙ ap (take (end - max from p)) (sym (drop_one (from - p) (from - suc p) c cs (omega arith)))))
  | inr above ↦
      from_here test from end p (c ∷ cs) r above
      ∙ (ap (λ n. take n (c ∷ cs)) (let e : end - p ≡ end - max from p = omega arith in e)
      ∙ ap (λ n. take (end - max from p) (drop n (c ∷ cs))) (let e : 0 ≡ from - p = omega arith in e))
]

-- the places that pass are those from one number on
pub record IsOpen (test : ℕ → Bool) (from : ℕ) : Type 0 where
  pub inside : (p : ℕ) → from ≤ p → test p ≡ true
  pub before : (p : ℕ) → p < from → test p ≡ false

all_pass : (test : ℕ → Bool) (from p : ℕ) (cs : List ℕ) → IsOpen test from → from ≤ p → at_places test p cs ≡ cs
all_pass test from p [] r h = refl
all_pass test from p (c ∷ cs) r h = passed test p c cs (r.inside p h) ∙ ap (λ x. c ∷ x) (all_pass test from (suc p) cs r (omega arith))

empty_drop : (n : ℕ) → ◌≡◌ {A = List ℕ} [] (drop n [])
empty_drop zero = refl
empty_drop (suc n) = refl

pub open_is : (test : ℕ → Bool) (from p : ℕ) (cs : List ℕ) → IsOpen test from → at_places test p cs ≡ drop (from - p) cs
open_is test from p [] r = empty_drop (from - p)
open_is test from p (c ∷ cs) r = elim (cases_lt p from) as (λ _. at_places test p (c ∷ cs) ≡ drop (from - p) (c ∷ cs)) [
  | inl below ↦ failed test p c cs (r.before p below) ∙ (open_is test from (suc p) cs r ∙ sym (drop_one (from - p) (from - suc p) c cs (omega arith)))
  | inr above ↦ all_pass test from p (c ∷ cs) r above ∙ ap (λ n. drop n (c ∷ cs)) (let e : 0 ≡ from - p = omega arith in e)
]

low : (start : ℤ) (p : ℕ) → at_least_none start ≤ p → int_le start (pos p) ≡ true
low (pos n) p h = grind (arith, nat_tests)
low (negsuc n) p h = refl

below_low : (start : ℤ) (p : ℕ) → p < at_least_none start → int_le start (pos p) ≡ false
below_low (pos n) p h = grind (arith, nat_tests)
below_low (negsuc n) p h = absurd (omega arith)

high : (end : ℤ) (p : ℕ) → p < at_least_none end → int_lt (pos p) end ≡ true
high (pos n) p h = grind (arith, nat_tests)
high (negsuc n) p h = absurd (omega arith)

above_high : (end : ℤ) (p : ℕ) → at_least_none end ≤ p → int_lt (pos p) end ≡ false
above_high (pos n) p h = grind (arith, nat_tests)
above_high (negsuc n) p h = refl

and_false : (a b : Bool) → b ≡ false → (a && b) ≡ false
and_false true b e = e
and_false false b e = refl

pub places_from : (start : ℤ) (cs : List ℕ) → at_places (λ place. int_le start (pos place)) 1 cs ≡ drop (skipped start) cs
places_from start cs = open_is (λ place. int_le start (pos place)) (at_least_none start) 1 cs (record { inside = low start; before = below_low start })

pub places_between : (start end : ℤ) (cs : List ℕ) → at_places (λ place. int_le start (pos place) && int_lt (pos place) end) 1 cs ≡ take (kept start end)
    (drop (skipped start) cs)
places_between start end cs = run_is (λ place. int_le start (pos place) && int_lt (pos place) end) (at_least_none start) (at_least_none end) 1 cs (record {
  inside = λ p l h. ap (λ b. b && int_lt (pos p) end) (low start p l) ∙ high end p h;
  before = λ p l. ap (λ b. b && int_lt (pos p) end) (below_low start p l);
  behind = λ p h. and_false (int_le start (pos p)) (int_lt (pos p) end) (above_high end p h);
})
