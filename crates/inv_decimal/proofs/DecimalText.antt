-- How many digits std's text of a number has, and which.
use Rattle.std.proofs.Common.{◌≡◌, ℕ, zero, suc, ◌+◌, ◌/◌, ◌%◌, ◌^◌, ◌<◌, ◌≤◌, [], ◌∷◌, ◌++◌, length, refl, sym, ap, ◌∙◌, inl, inr, arith, length-append}
use Rattle.std.specs.Prelude.{decimal}
use Rattle.std.proofs.lemmas.Fmt.{decimal_digit, decimal_step, decimal_by_steps, length-decimal-le}
use Rattle.std.proofs.lemmas.Bool.{cases_lt}
use Rattle.inv_decimal.specs.Digits.{last_digits}
use Rattle.inv_decimal.proofs.DigitLists.{last_digits-zero, last_digits-push}

-- the digits of a rest, where zero has none
abbrev pub digits_left : ℕ → ℕ
digits_left zero = 0
digits_left (suc n) = length (decimal (suc n))

digits_left-pos : (n : ℕ) → 0 < n → digits_left n ≡ length (decimal n)
digits_left-pos zero p = absurd (omega arith)
digits_left-pos (suc n) p = refl

digits_left-nil : (n : ℕ) → n ≡ 0 → digits_left n ≡ 0
digits_left-nil n e = ap digits_left e

pub digits_left_step : (n : ℕ) → n < 2 ^ 64 → 1 + digits_left (n / 10) ≡ length (decimal n)
digits_left_step n h =
    elim (cases_lt n 10) as (λ _. 1 + digits_left (n / 10) ≡ length (decimal n)) [
      | inl small ↦ ap (λ x. 1 + x) (digits_left-nil (n / 10) (omega arith)) ∙ sym (ap length (decimal_digit n small))
      | inr large ↦ omega (
        arith,
        digits_left-pos (n / 10) (omega arith),
        ap length (decimal_step n large h),
        length-append (decimal (n / 10)) ((48 + n % 10) ∷ []),
      )
    ]

-- so many digits are counted, and those of the rest are left
pub record CountsDigits (value count rest : ℕ) : Type 0 where
  pub counted : count + digits_left rest ≡ length (decimal value)
  pub small : rest < 2 ^ 64

pub counts_more : (value count rest : ℕ) → CountsDigits value count rest → 0 < rest → CountsDigits value (count + 1) (rest / 10)
counts_more value count rest h p = record {
  counted = omega (arith, h.counted, digits_left_step rest h.small, digits_left-pos rest p);
  small = omega (arith, h.small);
}

pub counts_fit : (value count rest : ℕ) → CountsDigits value count rest → value < 2 ^ 64 → count ≤ 20
counts_fit value count rest h fits =
    omega (arith, h.counted, length-decimal-le 20 value (omega arith) (omega arith) fits)

pub counts_end : (value count rest : ℕ) → CountsDigits value count rest → rest ≤ 0 → count ≡ length (decimal value)
counts_end value count rest h p =
    omega (arith, h.counted, digits_left-nil rest (omega arith))

-- std's text of a number has its last digits, so many as it has
pub decimal-last_digits : (n : ℕ) → n < 2 ^ 64 → last_digits (length (decimal n)) n ≡ decimal n
decimal-last_digits n h =
    decimal_by_steps (λ m ds. last_digits (length ds) m ≡ ds)
    (λ m p. last_digits-push 0 m ∙ ap (λ ds. ds ++ (48 + m % 10) ∷ []) (last_digits-zero (m / 10)) ∙
    ap (λ d. (48 + d) ∷ []) (let e : m % 10 ≡ m = omega arith in e))
    (λ m ds p e. ap (λ k. last_digits k m) (let l : length (ds ++ (48 + m % 10) ∷ []) ≡ suc (length ds) =
    omega (arith, length-append ds ((48 + m % 10) ∷ [])) in l) ∙ last_digits-push (length ds) m ∙ ap (λ xs. xs ++ (48 + m % 10) ∷ []) e)
    n h
