-- What the readers of days give, from the parts of the text.
use Rattle.std.proofs.Common.{◌≡◌, ◌≢◌, ℕ, ◌+◌, ◌≤◌, ◌⊎◌, List, ◌++◌, length, take, drop, get_or, true, false, cond, ◌&&◌, sym, ap, ◌∙◌, inl, inr, arith, Some}
use Rattle.std.proofs.Common.{None}
use Rattle.std.proofs.Math.Nat.{pow-le-pow_right}
use Rattle.std.proofs.lemmas.Int.Digits.{digits_value-lt}
use Rattle.std.proofs.lemmas.List.Folds.{list_all-append}
use Rattle.std.proofs.lemmas.Bool.Decides.{nat_tests}
use Rattle.std.specs.List.{list_all}
use Rattle.std.specs.Char.{is_ascii_digit}
use Rattle.std.specs.Str.Parse.{digits_value}
use Rattle.inv_decimal.specs.CivilDay.{day_of}
use Rattle.inv_decimal.specs.Digits.{digits_number}
use Rattle.inv_decimal.specs.WrittenDay.{day_from, read_plain_day, read_dashed_day}
use Rattle.inv_decimal.proofs.NumberParts.{AllDigits-from_list_all, and_true, and_false_right, why_no_number, digits_from_number}

-- few characters that are no number have one that is no digit
no_digits : (ds : List ℕ) → length ds ≤ 18 → None ≡ digits_number ds → list_all is_ascii_digit ds ≡ false
no_digits ds short e =
    elim (why_no_number ds e) as (λ _. list_all is_ascii_digit ds ≡ false) [
      | inl other ↦ other
      | inr large ↦ absurd (omega (
        arith,
        digits_value-lt 10 ds (AllDigits-from_list_all ds large.0),
        large.1,
        pow-le-pow_right {n = 10} (omega arith) {i = length ds} {j = 18} short,
      ))
    ]

all_three : (y m d : List ℕ) → list_all is_ascii_digit (y ++ (m ++ d)) ≡ (list_all is_ascii_digit y && (list_all is_ascii_digit m && list_all is_ascii_digit d))
all_three y m d =
    list_all-append is_ascii_digit y (m ++ d) ∙ ap (λ b. list_all is_ascii_digit y && b) (list_all-append is_ascii_digit m d)

not_a_day : (y m d : List ℕ) → list_all is_ascii_digit (y ++ (m ++ d)) ≡ false → None ≡ day_from y m d
unfolding day_from
not_a_day y m d e =
    sym (ap (λ b. cond b (day_of (digits_value 10 y) (digits_value 10 m) (digits_value 10 d)) None) e)

pub bad_year : (y m d : List ℕ) → length y + length m + length d ≤ 18 → None ≡ digits_number y → None ≡ day_from y m d
bad_year y m d short e =
    not_a_day y m d (all_three y m d ∙ ap (λ b. b && (list_all is_ascii_digit m && list_all is_ascii_digit d)) (no_digits y (omega arith) e))

pub bad_month : (y m d : List ℕ) → length y + length m + length d ≤ 18 → None ≡ digits_number m → None ≡ day_from y m d
bad_month y m d short e =
    not_a_day y m d (all_three y m d ∙ ap (λ b. list_all is_ascii_digit y && (b && list_all is_ascii_digit d)) (no_digits m (omega arith) e) ∙
    and_false_right (list_all is_ascii_digit y))

pub bad_day : (y m d : List ℕ) → length y + length m + length d ≤ 18 → None ≡ digits_number d → None ≡ day_from y m d
bad_day y m d short e =
    not_a_day y m d (all_three y m d ∙ ap (λ b. list_all is_ascii_digit y && (list_all is_ascii_digit m && b)) (no_digits d (omega arith) e) ∙
    ap (λ b. list_all is_ascii_digit y && b) (and_false_right (list_all is_ascii_digit m)) ∙ and_false_right (list_all is_ascii_digit y))

pub day_read : (y m d : List ℕ) (year month day : ℕ) → Some year ≡ digits_number y → Some month ≡ digits_number m → Some day ≡ digits_number d →
    day_of year month day ≡ day_from y m d
unfolding day_from
day_read y m d year month day ey em ed =
    let fy = digits_from_number y year ey in
    let fm = digits_from_number m month em in
    let fd = digits_from_number d day ed in
    let all : list_all is_ascii_digit (y ++ (m ++ d)) ≡ true = all_three y m d ∙ and_true _ _ fy.0 (and_true _ _ fm.0 fd.0) in
    ap (λ x. day_of x month day) fy.1 ∙ ap (λ x. day_of (digits_value 10 y) x day) fm.1 ∙ ap (λ x. day_of (digits_value 10 y) (digits_value 10 m) x) fd.1 ∙
    sym (ap (λ b. cond b (day_of (digits_value 10 y) (digits_value 10 m) (digits_value 10 d)) None) all)

pub plain_is : (cs : List ℕ) → length cs ≡ 8 → day_from (take 4 cs) (take 2 (drop 4 cs)) (drop 6 cs) ≡ read_plain_day cs
unfolding read_plain_day
plain_is cs e = grind (arith, nat_tests)

pub plain_none : (cs : List ℕ) → length cs ≢ 8 → None ≡ read_plain_day cs
unfolding read_plain_day
plain_none cs e = grind (arith, nat_tests)

pub dashed_is : (cs : List ℕ) → length cs ≡ 10 → get_or cs 4 0 ≡ 45 → get_or cs 7 0 ≡ 45 →
    day_from (take 4 cs) (take 2 (drop 5 cs)) (drop 8 cs) ≡ read_dashed_day cs
unfolding read_dashed_day
dashed_is cs e f g = grind (arith, nat_tests)

pub dashed_none : (cs : List ℕ) → (length cs ≢ 10) ⊎ ((get_or cs 4 0 ≢ 45) ⊎ (get_or cs 7 0 ≢ 45)) → None ≡ read_dashed_day cs
unfolding read_dashed_day
dashed_none cs (inl e) = grind (arith, nat_tests)
dashed_none cs (inr (inl e)) = grind (arith, nat_tests)
dashed_none cs (inr (inr e)) = grind (arith, nat_tests)
