-- The numbers of the generated invoice as they are written.
use Rattle.std.proofs.Common.{◌≡◌, ℕ, ◌+◌, ◌*◌, ◌/◌, ◌%◌, ◌^◌, ◌<◌, ◌≤◌, [], pos, false, refl, sym, ap, ◌∙◌, arith, lit≤, lit<}
use Rattle.std.specs.Prelude.{decimal}
use Rattle.std.proofs.lemmas.Bool.Decides.{nat_tests}
use Rattle.std.specs.Int.{is_negative}
use Rattle.std.proofs.lemmas.List.{append-nil}
use Rattle.std.specs.Fmt.{sign_text}
use Rattle.std.proofs.Math.Nat.{mul-lt-mul_of_pos_right, mul-mod_left, mul-div_cancel, div-div-eq-div-mul}
use Rattle.std.proofs.lemmas.Nat.{mod-mul-add}
use Rattle.inv_decimal.specs.Number.{IsScaled}
use Rattle.inv_decimal.specs.Digits.{last_digits}
use Rattle.inv_decimal.specs.WrittenNumber.{scaled_text}
use Rattle.trial_invoice.specs.Amounts.{hundredths, ones}
use Rattle.trial_invoice.specs.Written.{hundredths_text}

-- ---- there are such numbers

times : (n a b c : ℕ) → n < a → a * b ≤ c → 0 < b → n * b < c
times n a b c h k l = grind (arith, mul-lt-mul_of_pos_right, k)

pub hundredths-scaled : (n : ℕ) → n < 10 ^ 18 → IsScaled (hundredths n)
hundredths-scaled n h = record {
  in_range = times n (10 ^ 18) (10 ^ 16) (10 ^ 36) h (lit≤ tt) (lit< tt);
  at_most = lit≤ tt;
  enough = mul-mod_left n (10 ^ 16);
}

pub ones-scaled : (n : ℕ) → n < 10 ^ 18 → IsScaled (ones n)
ones-scaled n h = record {
  in_range = times n (10 ^ 18) (10 ^ 18) (10 ^ 36) h (lit≤ tt) (lit< tt);
  at_most = lit≤ tt;
  enough = mul-mod_left n (10 ^ 18);
}

-- ---- how they are written

whole_part : (n : ℕ) → n * 10 ^ 16 / 10 ^ 18 ≡ n / 100
whole_part n = sym (div-div-eq-div-mul (n * 10 ^ 16) (10 ^ 16) 100) ∙ ap (λ m. m / 100) (mul-div_cancel n {n = 10 ^ 16} (lit< tt))

rest_part : (n : ℕ) → n * 10 ^ 16 % 10 ^ 18 ≡ n % 100 * 10 ^ 16
rest_part n =
    let split : n * 10 ^ 16 ≡ n / 100 * 10 ^ 18 + n % 100 * 10 ^ 16 = omega arith in
    let small : n % 100 * 10 ^ 16 < 10 ^ 18 = omega arith in
    ap (λ m. m % 10 ^ 18) split ∙ mod-mul-add (n / 100) (10 ^ 18) (n % 100 * 10 ^ 16) small

first_digit : (n : ℕ) → n % 100 * 10 ^ 16 / 10 ^ 17 % 10 ≡ n / 10 % 10
first_digit n =
    sym (ap (λ m. m % 10) (div-div-eq-div-mul (n % 100 * 10 ^ 16) (10 ^ 16) 10))
    ∙ (ap (λ m. m / 10 % 10) (mul-div_cancel (n % 100) {n = 10 ^ 16} (lit< tt)) ∙ omega arith)

second_digit : (n : ℕ) → n % 100 * 10 ^ 16 / 10 ^ 16 % 10 ≡ n % 10
second_digit n = ap (λ m. m % 10) (mul-div_cancel (n % 100) {n = 10 ^ 16} (lit< tt)) ∙ omega arith

is_negative-pos : (n : ℕ) → is_negative (pos n) ≡ false
is_negative-pos n = grind (arith, nat_tests)

no_sign : (n : ℕ) → sign_text (is_negative (pos n)) ≡ []
no_sign n = ap sign_text (is_negative-pos n)

pub hundredths-text : (n : ℕ) → scaled_text (hundredths n) ≡ hundredths_text n
unfolding scaled_text last_digits
hundredths-text n = rw (no_sign (n * 10 ^ 16), whole_part n, rest_part n, first_digit n, second_digit n) refl

pub ones-text : (n : ℕ) → scaled_text (ones n) ≡ decimal n
unfolding scaled_text last_digits
ones-text n = rw (no_sign (n * 10 ^ 18), mul-div_cancel n {n = 10 ^ 18} (lit< tt)) (append-nil (decimal n))
