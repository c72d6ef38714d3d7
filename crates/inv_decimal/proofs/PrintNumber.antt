-- What `print` writes, from the digits of the parts.
use Rattle.std.proofs.Common.{◌≡◌, ℕ, zero, suc, ◌+◌, ◌-◌, ◌/◌, ◌%◌, ◌^◌, ◌≤◌, ◌∷◌, ◌++◌, take, Bool, sym, ap, ◌∙◌, arith, ℤ, unsigned_abs}
use Rattle.std.specs.Prelude.{decimal}
use Rattle.std.specs.Int.{is_negative}
use Rattle.std.specs.Fmt.{sign_text}
use Rattle.std.proofs.lemmas.Nat.{pow-add}
use Rattle.std.proofs.Math.Nat.{div-div-eq-div-mul}
use Rattle.inv_decimal.specs.Number.{ScaledDecimal}
use Rattle.inv_decimal.specs.Digits.{last_digits, without_trailing_zeros}
use Rattle.inv_decimal.specs.WrittenNumber.{behind_point, decimal_text, scaled_text}
use Rattle.inv_decimal.proofs.DigitLists.{last_digits-zero, last_digits-suc}

-- the first of the last digits
pub take-last_digits : (k j n : ℕ) → take k (last_digits (k + j) n) ≡ last_digits k (n / 10 ^ j)
take-last_digits zero j n = sym (last_digits-zero (n / 10 ^ j))
take-last_digits (suc k) j n =
    let longer : suc k + j ≡ suc (k + j) = omega arith in
    let place : n / 10 ^ (k + j) ≡ n / 10 ^ j / 10 ^ k =
    ap (λ m. n / 10 ^ m) (let e : k + j ≡ j + k = omega arith in e) ∙ ap (λ x. n / x) (pow-add 10 j k) ∙ sym (div-div-eq-div-mul n (10 ^ j) (10 ^ k)) in
    ap (λ m. take (suc k) (last_digits m n)) longer ∙ ap (take (suc k)) (last_digits-suc (k + j) n) ∙
    ap (λ x. (48 + x % 10) ∷ take k (last_digits (k + j) n)) place ∙ ap (λ ds. (48 + n / 10 ^ j / 10 ^ k % 10) ∷ ds) (take-last_digits k j n) ∙
    sym (last_digits-suc k (n / 10 ^ j))

pub decimal_text_is : (z : ℤ) (whole rest digits fraction : ℕ) (negative : Bool) → whole ≡ unsigned_abs z / 10 ^ 18 → rest ≡ unsigned_abs z % 10 ^ 18 →
    negative ≡ is_negative z → last_digits digits fraction ≡ without_trailing_zeros (last_digits 18 rest) → sign_text negative ++
    (decimal whole ++ behind_point (last_digits digits fraction)) ≡ decimal_text z
unfolding decimal_text
decimal_text_is z whole rest digits fraction negative ew er en ed =
    ap (λ b. sign_text b ++ (decimal whole ++ behind_point (last_digits digits fraction))) en ∙
    ap (λ ds. sign_text (is_negative z) ++ (decimal whole ++ behind_point ds)) ed ∙
    ap (λ x. sign_text (is_negative z) ++ (decimal x ++ behind_point (without_trailing_zeros (last_digits 18 rest)))) ew ∙
    ap (λ x. sign_text (is_negative z) ++ (decimal (unsigned_abs z / 10 ^ 18) ++ behind_point (without_trailing_zeros (last_digits 18 x)))) er

pub scaled_text_is : (s : ScaledDecimal) (whole rest digits unused : ℕ) (negative : Bool) → whole ≡ unsigned_abs s.value / 10 ^ 18 →
    rest ≡ unsigned_abs s.value % 10 ^ 18 → negative ≡ is_negative s.value → digits ≡ s.digits → s.digits ≤ 18 → unused ≡ 10 ^ (18 - digits) →
    sign_text negative ++ (decimal whole ++ behind_point (last_digits digits (rest / unused))) ≡ scaled_text s
unfolding scaled_text
scaled_text_is s whole rest digits unused negative ew er en ed h eu =
    let all : digits + (18 - digits) ≡ 18 = omega arith in
    let cut : last_digits digits (rest / unused) ≡ take s.digits (last_digits 18 rest) =
    ap (λ x. last_digits digits (rest / x)) eu ∙ sym (take-last_digits digits (18 - digits) rest) ∙ ap (λ n. take digits (last_digits n rest)) all ∙
    ap (λ n. take n (last_digits 18 rest)) ed in
    ap (λ b. sign_text b ++ (decimal whole ++ behind_point (last_digits digits (rest / unused)))) en ∙
    ap (λ ds. sign_text (is_negative s.value) ++ (decimal whole ++ behind_point ds)) cut ∙
    ap (λ x. sign_text (is_negative s.value) ++ (decimal x ++ behind_point (take s.digits (last_digits 18 rest)))) ew ∙
    ap (λ x. sign_text (is_negative s.value) ++ (decimal (unsigned_abs s.value / 10 ^ 18) ++ behind_point (take s.digits (last_digits 18 x)))) er
