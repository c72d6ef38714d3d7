-- Reading what was printed gives the value back.
use Rattle.std.proofs.Common.{◌≡◌, ◌≢◌, ℕ, zero, suc, ◌+◌, ◌-◌, ◌*◌, ◌/◌, ◌%◌, ◌^◌, ◌<◌, ◌≤◌, List, [], ◌∷◌, ◌++◌, length, take, drop, true, false, cond, not}
use Rattle.std.proofs.Common.{◌==◌, refl, sym, ap, ◌∙◌, inl, inr, arith, Option, Some, ℤ, pos, negsuc, unsigned_abs}
use Rattle.std.specs.Prelude.{decimal}
use Rattle.std.specs.Option.{option_map}
use Rattle.std.specs.Int.{is_negative}
use Rattle.std.specs.List.{list_all, position_or_len, before_first, after_first}
use Rattle.std.specs.Char.{is_ascii_digit, digit_value}
use Rattle.std.specs.Fmt.{sign_text}
use Rattle.std.specs.Str.Parse.{digits_value, starts_with_minus, without_leading_sign}
use Rattle.std.proofs.Math.Nat.{add-mul-mod_self_right, mul-mod_left, one-le-pow, pow-zero, pow-suc, pow-succ', div-one, div-div-eq-div-mul}
use Rattle.std.proofs.lemmas.Nat.{div-add-mod', mod_below, div_below}
use Rattle.std.proofs.lemmas.List.{take_at, drop_at, drop-drop}
use Rattle.std.proofs.lemmas.Int.Digits.{digits_value_push}
use Rattle.std.proofs.lemmas.Str.{digit_value_digit}
use Rattle.std.proofs.lemmas.Fmt.{length-decimal-le, decimal_nonempty, decimal_is_IsNumeral}
use Rattle.std.proofs.lemmas.Bool.{cases_eq}
use Rattle.std.proofs.lemmas.Bool.Decides.{nat_tests}
use Rattle.inv_decimal.specs.Number.{IsDecimal, ScaledDecimal, IsScaled}
use Rattle.inv_decimal.specs.Digits.{last_digits, without_leading_zeros, without_trailing_zeros}
use Rattle.inv_decimal.specs.WrittenNumber.{is_point, are_number_parts, with_sign, written_units, read_scaled, read_decimal, behind_point, number_text}
use Rattle.inv_decimal.specs.WrittenNumber.{decimal_text, scaled_text}
use Rattle.inv_decimal.proofs.DigitLists.{last_digits-zero, last_digits-suc, last_digits-push, length-last_digits, without_trailing_zeros-zero}
use Rattle.inv_decimal.proofs.DigitLists.{without_trailing_zeros-other}
use Rattle.inv_decimal.proofs.DecimalText.{decimal-last_digits}
use Rattle.inv_decimal.proofs.NumberParts.{and_true, and_parts, digit_in, form_holds, units_some, digits_value-append, unused_power, zero_goes, other_stays}
use Rattle.inv_decimal.proofs.ReadNumber.{scaled_some}
use Rattle.inv_decimal.proofs.Ascii.{no_sign}
use Rattle.inv_decimal.proofs.PrintNumber.{take-last_digits}
use Rattle.inv_decimal.proofs.Signs.{is_negative-pos}

-- ---- last digits are digits, and write their number

digit_char_is : (d : ℕ) → d < 10 → is_ascii_digit (48 + d) ≡ true
digit_char_is d h = grind (arith, nat_tests)

pub all_digits : (k n : ℕ) → list_all is_ascii_digit (last_digits k n) ≡ true
all_digits zero n = ap (list_all is_ascii_digit) (last_digits-zero n)
all_digits (suc k) n =
    ap (list_all is_ascii_digit) (last_digits-suc k n) ∙ and_true _ _ (digit_char_is (n / 10 ^ k % 10) (mod_below (n / 10 ^ k) 10 (omega arith)))
    (all_digits k n)

digit_worth : (d : ℕ) → d < 10 → digit_value (48 + d) ≡ d
digit_worth d h = omega (arith, digit_value_digit (48 + d) (omega arith, omega arith))

pub digits_back : (k n : ℕ) → n < 10 ^ k → digits_value 10 (last_digits k n) ≡ n
digits_back zero n h =
    ap (digits_value 10) (last_digits-zero n) ∙ (let e : 0 ≡ n = omega (arith, h, pow-zero 10) in e)
digits_back (suc k) n h =
    let low : n / 10 < 10 ^ k = div_below n 10 (10 ^ k) (omega arith) (omega (arith, h, pow-suc 10 k)) in
    ap (digits_value 10) (last_digits-push k n) ∙ digits_value_push 10 (last_digits k (n / 10)) (48 + n % 10) ∙
    ap (λ v. v * 10 + digit_value (48 + n % 10)) (digits_back k (n / 10) low) ∙
    ap (λ v. n / 10 * 10 + v) (digit_worth (n % 10) (mod_below n 10 (omega arith))) ∙ div-add-mod' n 10

decimal_digits : (n : ℕ) → n < 10 ^ 18 → list_all is_ascii_digit (decimal n) ≡ true
decimal_digits n h =
    ap (list_all is_ascii_digit) (sym (decimal-last_digits n (omega arith))) ∙ all_digits (length (decimal n)) n

decimal_back : (n : ℕ) → n < 10 ^ 18 → digits_value 10 (decimal n) ≡ n
decimal_back n h = (decimal_is_IsNumeral n (omega arith)).1

-- ---- the parts of a printed text

pub not_point : (c : ℕ) → is_ascii_digit c ≡ true → is_point c ≡ false
not_point c e = grind (arith, nat_tests)

not_minus : (c : ℕ) → is_ascii_digit c ≡ true → (c == 45) ≡ false
not_minus c e = grind (arith, nat_tests)

pub no_sign_before : (c : ℕ) (cs : List ℕ) → is_ascii_digit c ≡ true → (without_leading_sign (c ∷ cs) ≡ c ∷ cs) × (starts_with_minus (c ∷ cs) ≡ false)
no_sign_before c cs e =
    let range = digit_in c e in
    (no_sign c cs (omega (arith, range.0)) (omega (arith, range.0)), not_minus c e)

unsigned_digits : (ds rest : List ℕ) → list_all is_ascii_digit ds ≡ true → 0 < length ds → (without_leading_sign (ds ++ rest) ≡ ds ++ rest) ×
    (starts_with_minus (ds ++ rest) ≡ false)
unsigned_digits [] rest all some = absurd (omega arith)
unsigned_digits (c ∷ cs) rest all some = no_sign_before c (cs ++ rest) (and_parts (is_ascii_digit c) _ all).0

point_behind : (ds fraction : List ℕ) → list_all is_ascii_digit ds ≡ true → position_or_len is_point (ds ++ behind_point fraction) ≡ length ds
point_behind [] [] all = refl
point_behind [] (c ∷ cs) all = refl
point_behind (d ∷ ds) fraction all =
    let parts = and_parts (is_ascii_digit d) (list_all is_ascii_digit ds) all in
    ap (λ b. cond (not b) (1 + position_or_len is_point (ds ++ behind_point fraction)) 0) (not_point d parts.0) ∙
    ap (λ n. 1 + n) (point_behind ds fraction parts.1) ∙ (let e : 1 + length ds ≡ suc (length ds) = omega arith in e)

before_point : (ds fraction : List ℕ) → list_all is_ascii_digit ds ≡ true → before_first is_point (ds ++ behind_point fraction) ≡ ds
before_point ds fraction all =
    ap (λ n. take n (ds ++ behind_point fraction)) (point_behind ds fraction all) ∙ take_at ds (behind_point fraction) (length ds) refl

drop_point : (fraction : List ℕ) → drop 1 (behind_point fraction) ≡ fraction
drop_point [] = refl
drop_point (c ∷ cs) = refl

after_point : (ds fraction : List ℕ) → list_all is_ascii_digit ds ≡ true → after_first is_point (ds ++ behind_point fraction) ≡ fraction
after_point ds fraction all =
    ap (λ n. drop (n + 1) (ds ++ behind_point fraction)) (point_behind ds fraction all) ∙ sym (drop-drop 1 (length ds) (ds ++ behind_point fraction)) ∙
    ap (drop 1) (drop_at ds (behind_point fraction) (length ds) refl) ∙ drop_point fraction

-- what a signed text is, behind its sign
signed_text : (z : ℤ) (ds rest : List ℕ) → list_all is_ascii_digit ds ≡ true → 0 < length ds →
    (without_leading_sign (sign_text (is_negative z) ++ (ds ++ rest)) ≡ ds ++ rest) ×
    (starts_with_minus (sign_text (is_negative z) ++ (ds ++ rest)) ≡ is_negative z)
signed_text (pos n) ds rest all some =
    let plain = unsigned_digits ds rest all some in
    let sign = is_negative-pos n in (
      ap (λ b. without_leading_sign (sign_text b ++ (ds ++ rest))) sign ∙ plain.0,
      ap (λ b. starts_with_minus (sign_text b ++ (ds ++ rest))) sign ∙ plain.1 ∙
          sym sign,
    )
signed_text (negsuc n) ds rest all some = (refl, refl)

back_with_sign : (z : ℤ) → with_sign (is_negative z) (unsigned_abs z) ≡ z
back_with_sign (pos n) = ap (λ b. with_sign b n) (is_negative-pos n)
back_with_sign (negsuc n) = refl

-- ---- a number with d digits behind the point

worth_back : (n d : ℕ) → n < 10 ^ 36 → d ≤ 18 → n % 10 ^ 18 % 10 ^ (18 - d) ≡ 0 →
    digits_value 10 (decimal (n / 10 ^ 18) ++ last_digits d (n % 10 ^ 18 / 10 ^ (18 - d))) * 10 ^
    (18 - length (last_digits d (n % 10 ^ 18 / 10 ^ (18 - d)))) ≡ n
worth_back n d small short enough =
    let f = n % 10 ^ 18 in
    let rest = last_digits d (n % 10 ^ 18 / 10 ^ (18 - d)) in
    let len : length rest ≡ d = length-last_digits d (n % 10 ^ 18 / 10 ^ (18 - d)) in
    let power : 10 ^ d * 10 ^ (18 - d) ≡ 10 ^ 18 = unused_power d short in
    let below : n % 10 ^ 18 / 10 ^ (18 - d) < 10 ^ d =
    div_below (n % 10 ^ 18) (10 ^ (18 - d)) (10 ^ d) (one-le-pow (18 - d) 10 (omega arith)) (omega (arith, power, mod_below n (10 ^ 18) (omega arith))) in
    let whole : n / 10 ^ 18 < 10 ^ 18 = div_below n (10 ^ 18) (10 ^ 18) (omega arith) (omega arith) in
    let value : digits_value 10 (decimal (n / 10 ^ 18) ++ rest) ≡ n / 10 ^ 18 * 10 ^ d + n % 10 ^ 18 / 10 ^ (18 - d) =
    digits_value-append (decimal (n / 10 ^ 18)) rest ∙ ap (λ x. x * 10 ^ length rest + digits_value 10 rest) (decimal_back (n / 10 ^ 18) whole) ∙
    ap (λ k. n / 10 ^ 18 * 10 ^ k + digits_value 10 rest) len ∙ ap (λ x. n / 10 ^ 18 * 10 ^ d + x) (digits_back d (n % 10 ^ 18 / 10 ^ (18 - d)) below) in
    let exact : n % 10 ^ 18 / 10 ^ (18 - d) * 10 ^ (18 - d) ≡ n % 10 ^ 18 =
    omega (arith, div-add-mod' (n % 10 ^ 18) (10 ^ (18 - d)), enough) in
    let total : (n / 10 ^ 18 * 10 ^ d + n % 10 ^ 18 / 10 ^ (18 - d)) * 10 ^ (18 - d) ≡ n =
    omega (arith, ap (λ x. n / 10 ^ 18 * x) power, exact, div-add-mod' n (10 ^ 18)) in
    ap (λ k. digits_value 10 (decimal (n / 10 ^ 18) ++ rest) * 10 ^ (18 - k)) len ∙ ap (λ x. x * 10 ^ (18 - d)) value ∙ total

shorter : (cs : List ℕ) → length (without_leading_zeros cs) ≤ length cs
shorter [] = omega arith
shorter (c ∷ cs) =
    elim (cases_eq c 48) as (λ _. length (without_leading_zeros (c ∷ cs)) ≤ suc (length cs)) [
      | inl e ↦ omega (arith, ap length (zero_goes c cs e), shorter cs)
      | inr h ↦ omega (arith, ap length (other_stays c cs h))
    ]

pub read_back : (z : ℤ) (d : ℕ) → IsDecimal z → d ≤ 18 → unsigned_abs z % 10 ^ 18 % 10 ^ (18 - d) ≡ 0 →
    read_scaled (number_text z (last_digits d (unsigned_abs z % 10 ^ 18 / 10 ^ (18 - d)))) ≡ Some (record { value = z; digits = d })
read_back z d small short enough =
    let n = unsigned_abs z in
    let whole = decimal (unsigned_abs z / 10 ^ 18) in
    let rest = last_digits d (unsigned_abs z % 10 ^ 18 / 10 ^ (18 - d)) in
    let low : unsigned_abs z / 10 ^ 18 < 10 ^ 18 = div_below n (10 ^ 18) (10 ^ 18) (omega arith) (omega arith) in
    let digits : list_all is_ascii_digit whole ≡ true = decimal_digits (unsigned_abs z / 10 ^ 18) low in
    let some : 0 < length whole = decimal_nonempty (unsigned_abs z / 10 ^ 18) (omega arith) in
    let short_whole : length whole ≤ 18 = length-decimal-le 18 (unsigned_abs z / 10 ^ 18) (omega arith) low (omega arith) in
    let len : length rest ≡ d = length-last_digits d (unsigned_abs z % 10 ^ 18 / 10 ^ (18 - d)) in
    let signed = signed_text z whole (behind_point rest) digits some in
    let form : are_number_parts whole rest ≡ true =
    form_holds whole rest digits (all_digits d (unsigned_abs z % 10 ^ 18 / 10 ^ (18 - d))) (omega arith) (omega (arith, shorter whole)) (omega arith) in
    let units : Some n ≡ written_units whole rest =
    sym (units_some whole rest form ∙ ap (λ m. let o : Option ℕ = Some m in o) (worth_back n d small short enough)) in
    let read = scaled_some (number_text z rest) whole rest (is_negative z) n z (sym signed.1)
    (sym (ap (before_first is_point) signed.0 ∙ before_point whole rest digits))
    (sym (ap (after_first is_point) signed.0 ∙ after_point whole rest digits)) units (sym (back_with_sign z)) in
    sym read ∙ ap (λ k. let s : ScaledDecimal = record { value = z; digits = k } in Some s) len

-- a multiple of a power is one in its last 18 digits too
last_multiple : (n d : ℕ) → d ≤ 18 → n % 10 ^ (18 - d) ≡ 0 → n % 10 ^ 18 % 10 ^ (18 - d) ≡ 0
last_multiple n d short e =
    let power : 10 ^ d * 10 ^ (18 - d) ≡ 10 ^ 18 = unused_power d short in
    let split : n ≡ n % 10 ^ 18 + n / 10 ^ 18 * 10 ^ d * 10 ^ (18 - d) =
    omega (arith, ap (λ x. n / 10 ^ 18 * x) power, div-add-mod' n (10 ^ 18)) in
    sym (add-mul-mod_self_right (n % 10 ^ 18) (n / 10 ^ 18 * 10 ^ d) (10 ^ (18 - d))) ∙ ap (λ x. x % 10 ^ (18 - d)) (sym split) ∙ e

pub scaled_back : (s : ScaledDecimal) → IsScaled s → read_scaled (scaled_text s) ≡ Some s
unfolding scaled_text
scaled_back s h =
    let f = unsigned_abs s.value % 10 ^ 18 in
    let all : s.digits + (18 - s.digits) ≡ 18 = omega (arith, h.at_most) in
    let cut : take s.digits (last_digits 18 (unsigned_abs s.value % 10 ^ 18)) ≡ last_digits s.digits (unsigned_abs s.value % 10 ^ 18 / 10 ^ (18 - s.digits)) =
    ap (λ k. take s.digits (last_digits k (unsigned_abs s.value % 10 ^ 18))) (sym all) ∙
    take-last_digits s.digits (18 - s.digits) (unsigned_abs s.value % 10 ^ 18) in
    ap (λ ds. read_scaled (number_text s.value ds)) cut ∙
    read_back s.value s.digits h.in_range h.at_most (last_multiple (unsigned_abs s.value) s.digits h.at_most h.enough)

-- without its zeros at the end, a fraction has so many digits as it needs
pub record Needs (k f : ℕ) : Type 0 where
  pub digits : ℕ
  pub at_most : digits ≤ k
  pub enough : f % 10 ^ (k - digits) ≡ 0
  pub same : without_trailing_zeros (last_digits k f) ≡ last_digits digits (f / 10 ^ (k - digits))

tenth_multiple : (f m : ℕ) → f % 10 ≡ 0 → f / 10 % 10 ^ m ≡ 0 → f % 10 ^ suc m ≡ 0
tenth_multiple f m e h =
    let power : 10 ^ suc m ≡ 10 ^ m * 10 = pow-suc 10 m in
    let tenth : f / 10 / 10 ^ m * 10 ^ m ≡ f / 10 = omega (arith, div-add-mod' (f / 10) (10 ^ m), h) in
    let whole : f ≡ f / 10 / 10 ^ m * 10 ^ suc m =
    omega (arith, ap (λ x. f / 10 / 10 ^ m * x) power, div-add-mod' f 10, e, ap (λ x. x * 10) tenth) in
    ap (λ x. x % 10 ^ suc m) whole ∙ mul-mod_left (f / 10 / 10 ^ m) (10 ^ suc m)

no_digits_at_all : (f : ℕ) → without_trailing_zeros (last_digits 0 f) ≡ last_digits 0 f
unfolding last_digits without_trailing_zeros
no_digits_at_all f = refl

all_needed : (k f : ℕ) → without_trailing_zeros (last_digits k f) ≡ last_digits k f → Needs k f
all_needed k f e =
    let none : k - k ≡ 0 = omega arith in
    record {
      digits = k;
      at_most = omega arith;
      enough = ap (λ n. f % 10 ^ n) none ∙ ap (λ x. f % x) (pow-zero 10) ∙ (let z : f % 1 ≡ 0 = omega arith in z);
      same = e ∙ sym (ap (λ n. last_digits k (f / 10 ^ n)) none ∙ ap (λ x. last_digits k (f / x)) (pow-zero 10) ∙ ap (last_digits k) (div-one f));
    }

pub needs : (k f : ℕ) → Needs k f
needs zero f = all_needed 0 f (no_digits_at_all f)
needs (suc k) f =
    elim (cases_eq (f % 10) 0) as (λ _. Needs (suc k) f) [
      | inl e ↦ (let rest = needs k (f / 10) in
          let longer : suc k - rest.digits ≡ suc (k - rest.digits) = omega (arith, rest.at_most) in
          record {
            digits = rest.digits;
            at_most = omega (arith, rest.at_most);
            enough = ap (λ n. f % 10 ^ n) longer ∙ tenth_multiple f (k - rest.digits) e rest.enough;
            same = ap without_trailing_zeros (last_digits-push k f ∙ ap (λ d. last_digits k (f / 10) ++ (48 + d) ∷ []) e) ∙
                without_trailing_zeros-zero (last_digits k (f / 10)) ∙ rest.same ∙
                ap (last_digits rest.digits) (div-div-eq-div-mul f 10 (10 ^ (k - rest.digits)) ∙ ap (λ x. f / x) (sym (pow-succ' 10 (k - rest.digits))) ∙
                ap (λ n. f / 10 ^ n) (sym longer));
          })
      | inr h ↦ (let apart : 48 + f % 10 ≢ 48 = λ e. h (omega arith) in
          all_needed (suc k) f (ap without_trailing_zeros (last_digits-push k f) ∙ without_trailing_zeros-other (last_digits k (f / 10)) (48 + f % 10) apart ∙
          sym (last_digits-push k f)))
    ]

pub decimal_back_whole : (z : ℤ) → IsDecimal z → read_decimal (decimal_text z) ≡ Some z
unfolding read_decimal decimal_text
decimal_back_whole z small =
    let n = needs 18 (unsigned_abs z % 10 ^ 18) in
    ap (λ ds. option_map (λ (s : ScaledDecimal). s.value) (read_scaled (number_text z ds))) n.same ∙
    ap (option_map (λ (s : ScaledDecimal). s.value)) (read_back z n.digits small n.at_most n.enough)
