-- Laws of the operations.
use Rattle.std.proofs.Common.{◌≡◌, ℕ, zero, suc, ◌*◌, ◌/◌, ◌%◌, ◌^◌, ◌<◌, ◌≤◌, ◌≢◌, ◌⊎◌, true, refl, sym, ap, ◌∙◌, inl, inr, arith, Ok, Err, Result, ℤ, pos}
use Rattle.std.proofs.Common.{negsuc, neg_ℤ, ◌+ℤ◌, ◌*ℤ◌, ◌<ℤ◌, ◌≤ℤ◌, unsigned_abs}
use Rattle.std.specs.Prelude.{◌-ℤ◌, int_div, int_rem}
use Rattle.std.specs.Int.{is_negative}
use Rattle.std.proofs.lemmas.Int.{ints, quot-rem, rem_below, unsigned_abs-mul}
use Rattle.std.proofs.Math.Nat.{mul-div_cancel, zero-mul, div-mul-le_self}
use lib.IntN.{*ℤ_comm}
use Rattle.inv_decimal.specs.declared.fault.DecFault.TheVariants.{DivisionByZero}
use Rattle.std.proofs.lemmas.Nat.{div-add-mod', mod_below}
use Rattle.std.proofs.lemmas.Bool.{cases_lt, cases_eq}
use Rattle.std.proofs.lemmas.Bool.Decides.{nat_tests}
use Rattle.inv_decimal.specs.Number.{unit, IsDecimal}
use Rattle.inv_decimal.specs.Arithmetic.{in_range, divided_by, floor_of, sum_of, difference_of, product_of, whole_quotient_of, remainder_of}
use Rattle.inv_decimal.proofs.Results.{in_range-small, in_range-large, divided_by-small, divided_by-large}
use Rattle.inv_decimal.proofs.Signs.{is_negative-pos, abs-neg, div-neg}

Err≢Ok : {E : Type 0} {f : E} {z : ℤ} → Err f ≡ Ok z → ⊥
Err≢Ok e = cc

-- a result that is in range, and its value
pub in_range-is : (x z : ℤ) → in_range x ≡ Ok z → (x ≡ z) × IsDecimal z
in_range-is x z e =
    elim (cases_lt (unsigned_abs x) (10 ^ 36)) as (λ _. (x ≡ z) × IsDecimal z) [
      | inl less ↦ (let same : Ok x ≡ Ok z = sym (in_range-small x less) ∙ e in let eq : x ≡ z = cc in (eq, omega (arith, less, ap unsigned_abs eq)))
      | inr more ↦ absurd (Err≢Ok (sym (in_range-large x more) ∙ e))
    ]

pub sum_back : (x y z : ℤ) → IsDecimal x → sum_of x y ≡ Ok z → difference_of z y ≡ Ok x
unfolding sum_of difference_of
sum_back x y z small e =
    let value = (in_range-is (x +ℤ y) z e).0 in
    let back : z -ℤ y ≡ x = omega (arith, ints) in
    ap in_range back ∙ in_range-small x small

pub difference_back : (x y z : ℤ) → IsDecimal x → difference_of x y ≡ Ok z → sum_of z y ≡ Ok x
unfolding sum_of difference_of
difference_back x y z small e =
    let value = (in_range-is (x -ℤ y) z e).0 in
    let back : z +ℤ y ≡ x = omega (arith, ints) in
    ap in_range back ∙ in_range-small x small

pub floor_bounds : (z : ℤ) → (floor_of z ≤ℤ z) × (z <ℤ (floor_of z +ℤ pos unit))
floor_bounds (pos n) =
    (omega (arith, ints, div-add-mod' n (10 ^ 18)), omega (arith, ints, div-add-mod' n (10 ^ 18), mod_below n (10 ^ 18) (omega arith)))
floor_bounds (negsuc n) =
    (omega (arith, ints, div-add-mod' n (10 ^ 18), mod_below n (10 ^ 18) (omega arith)), omega (arith, ints, div-add-mod' n (10 ^ 18)))

-- ---- division

Ok-same : {E : Type 0} (r : Result ℤ E) {x z : ℤ} → r ≡ Ok x → r ≡ Ok z → x ≡ z
Ok-same r e f = cc

divided_by-zero : (y x : ℤ) → unsigned_abs y ≡ 0 → divided_by y x ≡ Err DivisionByZero
divided_by-zero y x e = grind (arith, nat_tests)

remainder-zero : (x y : ℤ) → unsigned_abs y ≡ 0 → remainder_of x y ≡ Err (record {})
unfolding remainder_of
remainder-zero x y e = grind (arith, nat_tests)

remainder-some : (x y : ℤ) → unsigned_abs y ≢ 0 → remainder_of x y ≡ Ok (x -ℤ y *ℤ int_div x y)
unfolding remainder_of
remainder-some x y h = grind (arith, nat_tests)

divided-is : (y x z : ℤ) → divided_by y x ≡ Ok z → (0 < unsigned_abs y) × (x ≡ z)
divided-is y x z e =
    elim (cases_eq (unsigned_abs y) 0) as (λ _. (0 < unsigned_abs y) × (x ≡ z)) [
      | inl none ↦ absurd (Err≢Ok (sym (divided_by-zero y x none) ∙ e))
      | inr some ↦ elim (cases_lt (unsigned_abs x) (10 ^ 36)) as (λ _. (0 < unsigned_abs y) × (x ≡ z)) [
        | inl less ↦ (omega arith, Ok-same (divided_by y x) (divided_by-small y x (omega arith) less) e)
        | inr more ↦ absurd (Err≢Ok (sym (divided_by-large y x (omega arith) more) ∙ e))
      ]
    ]

rest_is : (x y r : ℤ) → x -ℤ y *ℤ int_div x y ≡ r → r ≡ int_rem x y
rest_is x y r e =
    let whole = quot-rem x y in
    let turned = *ℤ_comm (int_div x y) y in
    omega (arith, ints)

remainder-is : (x y r : ℤ) → remainder_of x y ≡ Ok r → (0 < unsigned_abs y) × (r ≡ int_rem x y)
remainder-is x y r e =
    elim (cases_eq (unsigned_abs y) 0) as (λ _. (0 < unsigned_abs y) × (r ≡ int_rem x y)) [
      | inl none ↦ absurd (Err≢Ok (sym (remainder-zero x y none) ∙ e))
      | inr some ↦ (omega arith, rest_is x y r (Ok-same (remainder_of x y) (remainder-some x y some) e))
    ]

neg-times-pos : (n b : ℕ) → neg_ℤ (pos n) *ℤ pos b ≡ neg_ℤ (pos (n * b))
neg-times-pos zero b = ap pos (zero-mul b) ∙ sym (ap (λ x. neg_ℤ (pos x)) (zero-mul b))
neg-times-pos (suc n) b = refl

neg-times-negsuc : (n b : ℕ) → neg_ℤ (pos n) *ℤ negsuc b ≡ pos (n * suc b)
neg-times-negsuc zero b = ap (λ x. neg_ℤ (pos x)) (zero-mul (suc b)) ∙ sym (ap pos (zero-mul (suc b)))
neg-times-negsuc (suc n) b = refl

cancelled : (a b u : ℕ) → 0 < u → a * u * b / u ≡ a * b
cancelled a b u p =
    ap (λ x. x / u) (let e : a * u * b ≡ a * b * u = omega arith in e) ∙ mul-div_cancel (a * b) p

-- a whole number of times y is a product that is cut nowhere
whole_times : (w y : ℤ) (u : ℕ) → 0 < u → int_div ((w *ℤ pos u) *ℤ y) (pos u) ≡ w *ℤ y
whole_times (pos a) (pos b) u p = ap pos (cancelled a b u p)
whole_times (pos a) (negsuc b) u p =
    div-neg (a * u * suc b) u ∙ ap (λ x. neg_ℤ (pos x)) (cancelled a (suc b) u p)
whole_times (negsuc a) (pos b) u p =
    ap (λ x. int_div x (pos u)) (neg-times-pos (suc a * u) b) ∙ div-neg (suc a * u * b) u ∙ ap (λ x. neg_ℤ (pos x)) (cancelled (suc a) b u p)
whole_times (negsuc a) (negsuc b) u p =
    ap (λ x. int_div x (pos u)) (neg-times-negsuc (suc a * u) b) ∙ ap pos (cancelled (suc a) (suc b) u p)

abs-quotient : (x y : ℤ) → unsigned_abs (int_div x y) ≡ unsigned_abs x / unsigned_abs y
abs-quotient (pos a) (pos b) = refl
abs-quotient (pos a) (negsuc b) = abs-neg (a / suc b)
abs-quotient (negsuc a) (pos b) = abs-neg (suc a / b)
abs-quotient (negsuc a) (negsuc b) = refl

abs-times-le : (x y : ℤ) → unsigned_abs (int_div x y *ℤ y) ≤ unsigned_abs x
abs-times-le x y =
    omega (arith, unsigned_abs-mul (int_div x y) y, ap (λ q. q * unsigned_abs y) (abs-quotient x y), div-mul-le_self (unsigned_abs x) (unsigned_abs y))

-- the quotient times the divisor, and the remainder, make up the dividend
pub quotient_fits : (x y q r : ℤ) → IsDecimal x → whole_quotient_of x y ≡ Ok q → remainder_of x y ≡ Ok r → (p : ℤ) × (product_of q y ≡ Ok p) ×
    (sum_of p r ≡ Ok x)
unfolding whole_quotient_of product_of sum_of
quotient_fits x y q r small eq er =
    let whole = (divided-is y (int_div x y *ℤ pos unit) q eq).1 in
    let rest = (remainder-is x y r er).1 in
    let times : int_div (q *ℤ y) (pos unit) ≡ int_div x y *ℤ y =
    ap (λ w. int_div (w *ℤ y) (pos unit)) (sym whole) ∙ whole_times (int_div x y) y unit (omega arith) in
    let total : int_div x y *ℤ y +ℤ r ≡ x = ap (λ w. int_div x y *ℤ y +ℤ w) rest ∙ quot-rem x y in
    (int_div x y *ℤ y, ap in_range times ∙ in_range-small (int_div x y *ℤ y) (omega (arith, abs-times-le x y)), ap in_range total ∙ in_range-small x small)

pub remainder_below : (x y r : ℤ) → remainder_of x y ≡ Ok r → unsigned_abs r < unsigned_abs y
remainder_below x y r e =
    let is = remainder-is x y r e in
    omega (arith, ap unsigned_abs is.1, rem_below x y is.0)

sign_of_rest : (k : ℕ) (r : ℤ) → r ≡ neg_ℤ (pos k) → (r ≡ pos 0) ⊎ (is_negative r ≡ true)
sign_of_rest zero r e = inl e
sign_of_rest (suc k) r e = inr (ap is_negative e)

pub remainder_sign : (x y r : ℤ) → remainder_of x y ≡ Ok r → (r ≡ pos 0) ⊎ (is_negative r ≡ is_negative x)
remainder_sign (pos a) y r e =
    let is = remainder-is (pos a) y r e in
    inr (ap is_negative is.1 ∙ is_negative-pos (a % unsigned_abs y) ∙ sym (is_negative-pos a))
remainder_sign (negsuc a) y r e =
    let is = remainder-is (negsuc a) y r e in
    sign_of_rest (suc a % unsigned_abs y) r is.1
