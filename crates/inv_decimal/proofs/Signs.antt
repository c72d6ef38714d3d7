-- Signed products and quotients by the magnitudes and the signs.
use Rattle.std.proofs.Common.{◌≡◌, ℕ, zero, suc, ◌*◌, ◌/◌, ℤ, pos, negsuc, neg_ℤ, ◌*ℤ◌, unsigned_abs, Bool, true, false, refl, sym, ap, ◌∙◌, arith}
use Rattle.std.proofs.Math.Nat.{zero-div}
use Rattle.std.specs.Prelude.{int_div}
use Rattle.std.specs.Int.{is_negative}
use Rattle.std.proofs.lemmas.Bool.Decides.{nat_tests}
use Rattle.inv_decimal.specs.WrittenNumber.{with_sign}
use mathlib.Core.Bool.{not, beq}

pub is_negative-pos : (n : ℕ) → is_negative (pos n) ≡ false
is_negative-pos n = grind (arith, nat_tests)

-- the sign of a product or a quotient
abbrev pub other_sign : ℤ → ℤ → Bool
other_sign x y = not (beq (is_negative x) (is_negative y))

pub abs-neg : (n : ℕ) → unsigned_abs (neg_ℤ (pos n)) ≡ n
abs-neg zero = refl
abs-neg (suc n) = refl

pub div-neg : (n u : ℕ) → int_div (neg_ℤ (pos n)) (pos u) ≡ neg_ℤ (pos (n / u))
div-neg zero u = ap pos (zero-div u) ∙ sym (ap (λ q. neg_ℤ (pos q)) (zero-div u))
div-neg (suc n) u = refl

div-neg-negsuc : (n b : ℕ) → int_div (neg_ℤ (pos n)) (negsuc b) ≡ pos (n / suc b)
div-neg-negsuc zero b = ap (λ q. neg_ℤ (pos q)) (zero-div (suc b)) ∙ sym (ap pos (zero-div (suc b)))
div-neg-negsuc (suc n) b = refl

pub abs-with_sign : (b : Bool) (n : ℕ) → unsigned_abs (with_sign b n) ≡ n
abs-with_sign true n = abs-neg n
abs-with_sign false n = refl

sign-pos-pos : (a b : ℕ) → other_sign (pos a) (pos b) ≡ false
sign-pos-pos a b =
    ap (λ s. not (beq s (is_negative (pos b)))) (is_negative-pos a) ∙ ap (λ s. not (beq false s)) (is_negative-pos b)

sign-pos-negsuc : (a b : ℕ) → other_sign (pos a) (negsuc b) ≡ true
sign-pos-negsuc a b = ap (λ s. not (beq s true)) (is_negative-pos a)

sign-negsuc-pos : (a b : ℕ) → other_sign (negsuc a) (pos b) ≡ true
sign-negsuc-pos a b = ap (λ s. not (beq true s)) (is_negative-pos b)

pub product_by_signs : (x y : ℤ) (u : ℕ) → int_div (x *ℤ y) (pos u) ≡ with_sign (other_sign x y) (unsigned_abs x * unsigned_abs y / u)
product_by_signs (pos a) (pos b) u =
    ap (λ s. with_sign s (a * b / u)) (sym (sign-pos-pos a b))
product_by_signs (pos a) (negsuc b) u =
    div-neg (a * suc b) u ∙ ap (λ s. with_sign s (a * suc b / u)) (sym (sign-pos-negsuc a b))
product_by_signs (negsuc a) (pos b) u =
    div-neg (suc a * b) u ∙ ap (λ s. with_sign s (suc a * b / u)) (sym (sign-negsuc-pos a b))
product_by_signs (negsuc a) (negsuc b) u = refl

pub quotient_by_signs : (x y : ℤ) (u : ℕ) → int_div (x *ℤ pos u) y ≡ with_sign (other_sign x y) (unsigned_abs x * u / unsigned_abs y)
quotient_by_signs (pos a) (pos b) u =
    ap (λ s. with_sign s (a * u / b)) (sym (sign-pos-pos a b))
quotient_by_signs (pos a) (negsuc b) u =
    ap (λ s. with_sign s (a * u / suc b)) (sym (sign-pos-negsuc a b))
quotient_by_signs (negsuc a) (pos b) u =
    div-neg (suc a * u) b ∙ ap (λ s. with_sign s (suc a * u / b)) (sym (sign-negsuc-pos a b))
quotient_by_signs (negsuc a) (negsuc b) u = div-neg-negsuc (suc a * u) b
