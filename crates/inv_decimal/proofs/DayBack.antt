-- Reading the day that was printed gives it back.
use Rattle.std.proofs.Common.{◌≡◌, ℕ, ◌^◌, ◌<◌, ◌≤◌, true, cond, refl, sym, ap, ◌∙◌, arith, Some, None}
use Rattle.std.specs.Prelude.{pos, ◌≤ℤ◌}
use Rattle.std.specs.Ordering.{nat_cmp, ordering_then}
use Rattle.std.specs.declared.cmp.Ordering.{Ordering}
use Rattle.std.specs.declared.cmp.Ordering.TheVariants.{Less, Equal, Greater}
use Rattle.std.specs.Cmp.{IsTotalOrder}
use Rattle.std.proofs.lemmas.Cmp.{then_total, on_total, nat_cmp_total}
use Rattle.std.proofs.lemmas.Int.{ints}
use Rattle.std.proofs.lemmas.Bool.Decides.{nat_tests}
use Rattle.jiff.specs.Words.{days_in_month}
use Rattle.inv_decimal.specs.CivilDay.{CivilDay, IsDay, is_day, day_cmp}
use Rattle.inv_decimal.specs.Digits.{last_digits, digits_number}
use Rattle.inv_decimal.specs.WrittenDay.{day_from, read_plain_day, read_dashed_day, plain_day_text, dashed_day_text}
use Rattle.inv_decimal.proofs.NumberParts.{number_from_digits, and_true, nat_le_yes}
use Rattle.inv_decimal.proofs.ReadBack.{all_digits, digits_back}
use Rattle.inv_decimal.proofs.ReadDay.{day_read, plain_is, dashed_is}

number_back : (k n : ℕ) → n < 10 ^ k → n < 10 ^ 18 → Some n ≡ digits_number (last_digits k n)
number_back k n h small =
    number_from_digits (last_digits k n) n (all_digits k n) (sym (digits_back k n h)) small

within : (a b : ℕ) → pos a ≤ℤ pos b → a ≤ b
within a b h = omega (arith, ints)

pub is_day-from : (d : CivilDay) → IsDay d → is_day d ≡ true
is_day-from d h =
    let year : d.year ≤ 9999 = omega (arith, ints, h.exists.0.1) in
    let first_month : 1 ≤ d.month = omega (arith, ints, h.exists.1.0) in
    let last_month : d.month ≤ 12 = omega (arith, ints, h.exists.1.1) in
    let first_day : 1 ≤ d.day = omega (arith, ints, h.exists.2.0) in
    let last_day : d.day ≤ days_in_month (pos d.year) d.month = within _ _ h.exists.2.1 in
    and_true _ _ (and_true _ _ (and_true _ _ (and_true _ _ (and_true _ _ (nat_le_yes 1 d.year h.in_era) (nat_le_yes d.year 9999 year))
    (nat_le_yes 1 d.month first_month)) (nat_le_yes d.month 12 last_month)) (nat_le_yes 1 d.day first_day))
    (nat_le_yes d.day (days_in_month (pos d.year) d.month) last_day)

short_month : (y m d : ℕ) → d ≤ days_in_month (pos y) m → d ≤ 31
short_month y m d h = grind (arith, nat_tests)

day_back : (d : CivilDay) → IsDay d → day_from (last_digits 4 d.year) (last_digits 2 d.month) (last_digits 2 d.day) ≡ Some d
day_back d h =
    let year : d.year ≤ 9999 = omega (arith, ints, h.exists.0.1) in
    let month : d.month ≤ 12 = omega (arith, ints, h.exists.1.1) in
    let day : d.day ≤ 31 = short_month d.year d.month d.day (within _ _ h.exists.2.1) in
    sym (day_read _ _ _ d.year d.month d.day (number_back 4 d.year (omega arith) (omega arith)) (number_back 2 d.month (omega arith) (omega arith))
    (number_back 2 d.day (omega arith) (omega arith))) ∙ ap (λ b. cond b (Some d) None) (is_day-from d h)

pub plain_back : (d : CivilDay) → IsDay d → read_plain_day (plain_day_text d) ≡ Some d
unfolding plain_day_text last_digits
plain_back d h = sym (plain_is (plain_day_text d) refl) ∙ day_back d h

pub dashed_back : (d : CivilDay) → IsDay d → read_dashed_day (dashed_day_text d) ≡ Some d
unfolding dashed_day_text last_digits
dashed_back d h = sym (dashed_is (dashed_day_text d) refl refl refl) ∙ day_back d h

pub day_cmp_total : IsTotalOrder day_cmp
day_cmp_total =
    then_total (on_total (λ (d : CivilDay). d.year) nat_cmp_total)
    (then_total (on_total (λ (d : CivilDay). d.month) nat_cmp_total) (on_total (λ (d : CivilDay). d.day) nat_cmp_total))

then_equal : (o p : Ordering) → ordering_then o p ≡ Equal → (o ≡ Equal) × (p ≡ Equal)
then_equal Less p e = cc
then_equal Equal p e = (refl, e)
then_equal Greater p e = cc

tied : (x y : ℕ) → nat_cmp x y ≡ Equal → x ≡ y
tied x y e = grind (arith, nat_tests)

-- days that tie are one
pub same_day : (a b : CivilDay) → day_cmp a b ≡ Equal → a ≡ b
same_day a b e =
    let years = then_equal (nat_cmp a.year b.year) _ e in
    let months = then_equal (nat_cmp a.month b.month) (nat_cmp a.day b.day) years.1 in
    let year = tied a.year b.year years.0 in
    let month = tied a.month b.month months.0 in
    let day = tied a.day b.day months.1 in
    ap (λ y. let d : CivilDay = record { year = y; month = a.month; day = a.day } in d) year ∙
    ap (λ m. let d : CivilDay = record { year = b.year; month = m; day = a.day } in d) month ∙
    ap (λ n. let d : CivilDay = record { year = b.year; month = b.month; day = n } in d) day
