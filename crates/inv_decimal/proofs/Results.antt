-- What the operations give, from what their bodies compute.
use Rattle.std.proofs.Common.{◌≡◌, ℕ, suc, ◌+◌, ◌*◌, ◌/◌, ◌^◌, ◌<◌, ◌≤◌, ℤ, pos, negsuc, neg_ℤ, ◌*ℤ◌, unsigned_abs, Bool, true, refl, sym, ap, ◌∙◌, arith, Ok}
use Rattle.std.proofs.Common.{Err}
use Rattle.std.proofs.Common.{to_z, of_z, FitsSigned}
use Rattle.std.specs.Int.{w128}
use Rattle.std.specs.Prelude.{◌-ℤ◌, int_div, int_rem, int_lt}
use lib.IntN.{*ℤ_comm}
use Rattle.std.proofs.Math.Nat.{div-le_self, div-mul-le_self}
use Rattle.std.proofs.lemmas.Int.{ints, quot-rem, quot_is, rem_is, to_z-of_z, fits_signed_from_abs, unsigned_abs-mul}
use Rattle.std.specs.Int.{is_negative}
use Rattle.std.proofs.lemmas.Bool.Decides.{nat_tests}
use Rattle.inv_decimal.specs.Number.{unit}
use Rattle.inv_decimal.specs.WrittenNumber.{with_sign}
use Rattle.inv_decimal.specs.Arithmetic.{in_range, divided_by, product_of, quotient_of, whole_quotient_of, remainder_of, floor_of, rounded_up, hundredths}
use Rattle.inv_decimal.specs.Arithmetic.{nearest_hundredth}
use Rattle.inv_decimal.specs.declared.fault.DecFault.TheVariants.{Overflow as OutOfRange}
use Rattle.inv_decimal.proofs.Signs.{other_sign, product_by_signs, quotient_by_signs, abs-with_sign, abs-neg}
use mathlib.Core.Bool.{not, beq}

abs-neg_ℤ : (z : ℤ) → unsigned_abs (neg_ℤ z) ≡ unsigned_abs z
abs-neg_ℤ (pos n) = abs-neg n
abs-neg_ℤ (negsuc n) = refl

pub in_range-small : (z : ℤ) → unsigned_abs z < 10 ^ 36 → in_range z ≡ Ok z
in_range-small z h = grind (arith, nat_tests)

pub in_range-large : (z : ℤ) → 10 ^ 36 ≤ unsigned_abs z → in_range z ≡ Err (record {})
in_range-large z h = grind (arith, nat_tests)

pub divided_by-small : (y z : ℤ) → 0 < unsigned_abs y → unsigned_abs z < 10 ^ 36 → divided_by y z ≡ Ok z
divided_by-small y z p h = grind (arith, nat_tests)

pub divided_by-large : (y z : ℤ) → 0 < unsigned_abs y → 10 ^ 36 ≤ unsigned_abs z → divided_by y z ≡ Err OutOfRange
divided_by-large y z p h = grind (arith, nat_tests)

pub product_some : (x y z : ℤ) (a b m : ℕ) (s t : Bool) → a ≡ unsigned_abs x → b ≡ unsigned_abs y → s ≡ is_negative x → t ≡ is_negative y →
    (a * b / 10 ^ 18 < 10 ^ 36) × (m ≡ a * b / 10 ^ 18) → z ≡ with_sign (not (beq s t)) m → Ok z ≡ product_of x y
unfolding product_of
product_some x y z a b m s t ea eb es et h ez =
    let same : a * b / 10 ^ 18 ≡ unsigned_abs x * unsigned_abs y / 10 ^ 18 = cc in
    let value : z ≡ int_div (x *ℤ y) (pos unit) =
    ez ∙ (let e : with_sign (not (beq s t)) m ≡ with_sign (other_sign x y) (unsigned_abs x * unsigned_abs y / unit) = cc in e) ∙
    sym (product_by_signs x y unit) in
    let size : unsigned_abs z ≡ m = ap unsigned_abs ez ∙ abs-with_sign (not (beq s t)) m in
    sym (in_range-small z (omega arith)) ∙ ap in_range value

pub product_none : (x y : ℤ) (a b : ℕ) → a ≡ unsigned_abs x → b ≡ unsigned_abs y → (a * b / 10 ^ 18 < 10 ^ 36 → ⊥) → Err (record {}) ≡ product_of x y
unfolding product_of
product_none x y a b ea eb h =
    let same : a * b / 10 ^ 18 ≡ unsigned_abs x * unsigned_abs y / 10 ^ 18 = cc in
    let size : unsigned_abs (int_div (x *ℤ y) (pos unit)) ≡ unsigned_abs x * unsigned_abs y / 10 ^ 18 =
    ap unsigned_abs (product_by_signs x y unit) ∙ abs-with_sign (other_sign x y) _ in
    sym (in_range-large (int_div (x *ℤ y) (pos unit)) (omega (arith, h)))

pub quotient_some : (x y z : ℤ) (a b m : ℕ) (s t : Bool) → a ≡ unsigned_abs x → b ≡ unsigned_abs y → s ≡ is_negative x → t ≡ is_negative y → 0 < b →
    (a * 10 ^ 18 / b < 10 ^ 36) × (m ≡ a * 10 ^ 18 / b) → z ≡ with_sign (not (beq s t)) m → Ok z ≡ quotient_of x y
unfolding quotient_of
quotient_some x y z a b m s t ea eb es et p h ez =
    let value : z ≡ int_div (x *ℤ pos unit) y =
    ez ∙ (let e : with_sign (not (beq s t)) m ≡ with_sign (other_sign x y) (unsigned_abs x * unit / unsigned_abs y) = cc in e) ∙
    sym (quotient_by_signs x y unit) in
    let size : unsigned_abs z ≡ m = ap unsigned_abs ez ∙ abs-with_sign (not (beq s t)) m in
    sym (divided_by-small y z (omega arith) (omega arith)) ∙ ap (divided_by y) value

pub quotient_none : (x y : ℤ) (a b : ℕ) → a ≡ unsigned_abs x → b ≡ unsigned_abs y → 0 < b → (a * 10 ^ 18 / b < 10 ^ 36 → ⊥) → Err OutOfRange ≡ quotient_of x y
unfolding quotient_of
quotient_none x y a b ea eb p h =
    let same : a * 10 ^ 18 / b ≡ unsigned_abs x * 10 ^ 18 / unsigned_abs y = cc in
    let size : unsigned_abs (int_div (x *ℤ pos unit) y) ≡ unsigned_abs x * 10 ^ 18 / unsigned_abs y =
    ap unsigned_abs (quotient_by_signs x y unit) ∙ abs-with_sign (other_sign x y) _ in
    sym (divided_by-large y (int_div (x *ℤ pos unit) y) (omega arith) (omega (arith, h)))

pub abs-quotient-le : (x y : ℤ) → unsigned_abs (int_div x y) ≤ unsigned_abs x
abs-quotient-le (pos a) (pos b) = div-le_self a b
abs-quotient-le (pos a) (negsuc b) = rw abs-neg (div-le_self a (suc b))
abs-quotient-le (negsuc a) (pos b) = rw abs-neg (div-le_self (suc a) b)
abs-quotient-le (negsuc a) (negsuc b) = div-le_self (suc a) (suc b)

-- what the code's `x / y` and `x % y` give
pub code_quotient : (x y : ℤ) → unsigned_abs x < 10 ^ 36 → unsigned_abs y < 10 ^ 36 →
    to_z w128 (of_z w128 (int_div (to_z w128 (of_z w128 x)) (to_z w128 (of_z w128 y)))) ≡ int_div x y
code_quotient x y hx hy =
    let fx : FitsSigned w128 x = fits_signed_from_abs w128 x (omega arith) in
    let fy : FitsSigned w128 y = fits_signed_from_abs w128 y (omega arith) in
    let fq : FitsSigned w128 (int_div x y) = fits_signed_from_abs w128 (int_div x y) (omega (arith, abs-quotient-le x y)) in
    quot_is w128 x y fx fy fq

pub code_remainder : (x y : ℤ) → unsigned_abs x < 10 ^ 36 → unsigned_abs y < 10 ^ 36 →
    to_z w128 (of_z w128 (int_rem (to_z w128 (of_z w128 x)) (to_z w128 (of_z w128 y)))) ≡ int_rem x y
code_remainder x y hx hy =
    rem_is w128 x y (fits_signed_from_abs w128 x (omega arith)) (fits_signed_from_abs w128 y (omega arith))

within_unit : (a : ℤ) → int_lt (negsuc 999_999_999_999_999_999) a ≡ true → int_lt a (pos (10 ^ 18)) ≡ true → unsigned_abs a < 10 ^ 18
within_unit (pos n) low high = grind (arith, nat_tests)
within_unit (negsuc n) low high = grind (arith, nat_tests)

pub whole_quotient_some : (x y a : ℤ) → 0 < unsigned_abs y → a ≡ int_div x y → int_lt (negsuc 999_999_999_999_999_999) a ≡ true →
    int_lt a (pos (10 ^ 18)) ≡ true → Ok (to_z w128 (of_z w128 (a *ℤ pos (10 ^ 18)))) ≡ whole_quotient_of x y
unfolding whole_quotient_of
whole_quotient_some x y a p e low high =
    let size : unsigned_abs (a *ℤ pos (10 ^ 18)) < 10 ^ 36 =
    omega (arith, unsigned_abs-mul a (pos (10 ^ 18)), within_unit a low high) in
    let fits : FitsSigned w128 (a *ℤ pos (10 ^ 18)) = fits_signed_from_abs w128 _ (omega arith) in
    ap Ok (to_z-of_z w128 (a *ℤ pos (10 ^ 18)) fits) ∙ sym (divided_by-small y (a *ℤ pos (10 ^ 18)) p size) ∙ ap (λ w. divided_by y (w *ℤ pos unit)) e

pub remainder_some : (x y z : ℤ) → 0 < unsigned_abs y → z ≡ int_rem x y → Ok z ≡ remainder_of x y
unfolding remainder_of
remainder_some x y z p e =
    let whole = quot-rem x y in
    let turned = *ℤ_comm (int_div x y) y in
    let value : z ≡ x -ℤ y *ℤ int_div x y = omega (arith, ints) in
    grind (arith, nat_tests)

abs-floor : (z : ℤ) → unsigned_abs (floor_of z) ≤ unsigned_abs z + 10 ^ 18
abs-floor (pos n) = omega (arith, div-mul-le_self n (10 ^ 18))
abs-floor (negsuc n) = rw abs-neg (omega (arith, div-mul-le_self n (10 ^ 18)))

-- what `ceiling` gives, from the floor f of the negated number
pub rounded_up_is : (x f : ℤ) → unsigned_abs x < 10 ^ 36 → f ≡ floor_of (to_z w128 (of_z w128 (pos 0 -ℤ to_z w128 (of_z w128 x)))) →
    in_range (to_z w128 (of_z w128 (pos 0 -ℤ to_z w128 (of_z w128 f)))) ≡ rounded_up x
unfolding rounded_up
rounded_up_is x f h e =
    let fx : FitsSigned w128 x = fits_signed_from_abs w128 x (omega arith) in
    let negated : to_z w128 (of_z w128 (pos 0 -ℤ to_z w128 (of_z w128 x))) ≡ neg_ℤ x = omega (arith, ints) in
    let same : f ≡ floor_of (neg_ℤ x) = e ∙ ap floor_of negated in
    let ff : FitsSigned w128 f = fits_signed_from_abs w128 f (omega (arith, ap unsigned_abs same, abs-floor (neg_ℤ x), abs-neg_ℤ x)) in
    let back : to_z w128 (of_z w128 (pos 0 -ℤ to_z w128 (of_z w128 f))) ≡ neg_ℤ f = omega (arith, ints) in
    ap in_range back ∙ ap (λ g. in_range (neg_ℤ g)) same

pub hundredth_some : (x z : ℤ) (a m : ℕ) (s : Bool) → a ≡ unsigned_abs x → s ≡ is_negative x → (hundredths a < 10 ^ 36) × (m ≡ hundredths a) → z ≡ with_sign s m
    → Ok z ≡ nearest_hundredth x
unfolding nearest_hundredth
hundredth_some x z a m s ea es h ez =
    let same : with_sign s m ≡ with_sign (is_negative x) (hundredths (unsigned_abs x)) =
    ap (λ b. with_sign b m) es ∙ ap (with_sign (is_negative x)) (h.1 ∙ ap hundredths ea) in
    let size : unsigned_abs z ≡ m = ap unsigned_abs ez ∙ abs-with_sign s m in
    sym (in_range-small z (omega arith)) ∙ ap in_range (ez ∙ same)

pub hundredth_none : (x : ℤ) (a : ℕ) → a ≡ unsigned_abs x → (hundredths a < 10 ^ 36 → ⊥) → Err (record {}) ≡ nearest_hundredth x
unfolding nearest_hundredth
hundredth_none x a ea h =
    let same : hundredths a ≡ hundredths (unsigned_abs x) = ap hundredths ea in
    let size : unsigned_abs (with_sign (is_negative x) (hundredths (unsigned_abs x))) ≡ hundredths (unsigned_abs x) = abs-with_sign (is_negative x) _ in
    sym (in_range-large (with_sign (is_negative x) (hundredths (unsigned_abs x))) (omega (arith, h)))
