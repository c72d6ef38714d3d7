-- The digits of a written number, and what they are worth.
use Rattle.std.proofs.Common.{◌≡◌, ℕ, zero, suc, ◌+◌, ◌-◌, ◌*◌, ◌^◌, ◌<◌, ◌≤◌, ◌≢◌, ◌⊎◌, List, [], ◌∷◌, ◌++◌, length, take, drop, get_or, Bool, true, false}
use Rattle.std.proofs.Common.{cond, ltb, nat_lt, nat_le, ◌&&◌, refl, sym, ap, ◌∙◌, inl, inr, arith, length-append, Some, None}
use Rattle.std.proofs.Math.Nat.{pow-zero, pow-succ', pow-le-pow_right, one-le-pow}
use Rattle.std.proofs.lemmas.Nat.{pow-add, mul-le, row_fits}
use Rattle.std.proofs.lemmas.List.{take-append-drop, take_all}
use Rattle.std.proofs.lemmas.List.Folds.{list_all-append, list_all_more}
use Rattle.std.proofs.lemmas.Int.Digits.{digits_value_more, digits_value-lt}
use Rattle.std.proofs.lemmas.Str.{digit_value_digit}
use Rattle.std.proofs.lemmas.Bool.{cases_lt, cases_eq, false≢true}
use Rattle.std.proofs.lemmas.Bool.Decides.{nat_tests}
use Rattle.std.specs.List.{list_all}
use Rattle.std.specs.Int.{IsInRange}
use Rattle.std.specs.Char.{is_ascii_digit, digit_value}
use Rattle.std.specs.Str.Parse.{digits_value, digits_value_after, AllDigits}
use Rattle.inv_decimal.specs.Digits.{digits_number, without_leading_zeros}
use Rattle.inv_decimal.specs.WrittenNumber.{are_number_parts, written_units}

-- ---- tests on lists

pub list_all_fails : (p : ℕ → Bool) (xs : List ℕ) (i : ℕ) → i < length xs → p (get_or xs i 0) ≡ false → list_all p xs ≡ false
list_all_fails p [] i h e = absurd (omega arith)
list_all_fails p (x ∷ xs) zero h e = ap (λ b. b && list_all p xs) e
list_all_fails p (x ∷ xs) (suc i) h e =
    ap (λ b. p x && b) (list_all_fails p xs i (omega arith) e) ∙ elim (p x) as (λ b. (b && false) ≡ false) [ true ↦ refl | false ↦ refl ]

pub and_parts : (a b : Bool) → (a && b) ≡ true → (a ≡ true) × (b ≡ true)
and_parts true b e = (refl, e)
and_parts false b e = absurd (false≢true e)

pub and_true : (a b : Bool) → a ≡ true → b ≡ true → (a && b) ≡ true
and_true a b e f = ap (λ x. x && b) e ∙ f

-- ---- the worth of digits

pub digit_in : (c : ℕ) → is_ascii_digit c ≡ true → IsInRange 48 57 c
digit_in c e = grind (arith, nat_tests)

pub AllDigits-from_list_all : (cs : List ℕ) → list_all is_ascii_digit cs ≡ true → AllDigits 10 cs
AllDigits-from_list_all [] e = tt
AllDigits-from_list_all (c ∷ cs) e =
    let parts = and_parts (is_ascii_digit c) (list_all is_ascii_digit cs) e in
    let r = digit_in c parts.0 in
    (omega (arith, digit_value_digit c r, r.1), AllDigits-from_list_all cs parts.1)

pub value_after-append : (n : ℕ) (xs ys : List ℕ) → digits_value_after 10 n (xs ++ ys) ≡ digits_value_after 10 (digits_value_after 10 n xs) ys
value_after-append n [] ys = refl
value_after-append n (x ∷ xs) ys = value_after-append (n * 10 + digit_value x) xs ys

pub value_after-ge : (n : ℕ) (cs : List ℕ) → n * 10 ^ length cs ≤ digits_value_after 10 n cs
value_after-ge n [] = omega (arith, ap (λ x. n * x) (pow-zero 10))
value_after-ge n (c ∷ cs) =
    let next = value_after-ge (n * 10 + digit_value c) cs in
    let power : 10 ^ suc (length cs) ≡ 10 * 10 ^ length cs = pow-succ' 10 (length cs) in
    omega (arith, next, ap (λ x. n * x) power)

pub value_after-split : (n : ℕ) (cs : List ℕ) → digits_value_after 10 n cs ≡ n * 10 ^ length cs + digits_value 10 cs
value_after-split n [] = omega (arith, ap (λ x. n * x) (pow-zero 10))
value_after-split n (c ∷ cs) =
    let here = value_after-split (n * 10 + digit_value c) cs in
    let alone = value_after-split (0 * 10 + digit_value c) cs in
    let power : 10 ^ suc (length cs) ≡ 10 * 10 ^ length cs = pow-succ' 10 (length cs) in
    omega (arith, here, alone, ap (λ x. n * x) power)

pub digits_value-append : (xs ys : List ℕ) → digits_value 10 (xs ++ ys) ≡ digits_value 10 xs * 10 ^ length ys + digits_value 10 ys
digits_value-append xs ys = value_after-append 0 xs ys ∙ value_after-split (digits_value 10 xs) ys

-- ---- reading digits one by one

pub record ReadsDigits (ds : List ℕ) (i value : ℕ) : Type 0 where
  pub all : list_all is_ascii_digit (take i ds) ≡ true
  pub worth : value ≡ digits_value 10 (take i ds)
  pub small : value < 10 ^ 18

pub reads_none : (ds : List ℕ) → ReadsDigits ds 0 0
reads_none ds = record { all = refl; worth = refl; small = omega arith }

pub reads_more : (ds : List ℕ) (i v x : ℕ) → ReadsDigits ds i v → i < length ds → is_ascii_digit (get_or ds i 0) ≡ true → v < 10 ^ 17 → x ≡ get_or ds i 0 - 48 →
    ReadsDigits ds (i + 1) (v * 10 + x)
reads_more ds i v x h l digit low e =
    let r = digit_in (get_or ds i 0) digit in
    let worth : digit_value (get_or ds i 0) ≡ x = omega (arith, digit_value_digit (get_or ds i 0) r, r.0) in
    record {
      all = list_all_more is_ascii_digit ds i 0 l ∙ and_true _ _ h.all digit;
      worth = omega (arith, digits_value_more 10 ds i l, h.worth, worth);
      small = omega (arith, r.0, r.1);
    }

pub number_from_digits : (ds : List ℕ) (v : ℕ) → list_all is_ascii_digit ds ≡ true → v ≡ digits_value 10 ds → v < 10 ^ 18 → Some v ≡ digits_number ds
number_from_digits ds v all worth small = grind (arith, nat_tests)

pub reads_end : (ds : List ℕ) (i v : ℕ) → ReadsDigits ds i v → length ds ≤ i → Some v ≡ digits_number ds
reads_end ds i v h l =
    let whole : take i ds ≡ ds = take_all i ds l in
    let all : list_all is_ascii_digit ds ≡ true = sym (ap (list_all is_ascii_digit) whole) ∙ h.all in
    let worth : v ≡ digits_value 10 ds = h.worth ∙ ap (digits_value 10) whole in
    number_from_digits ds v all worth h.small

no_number : (ds : List ℕ) → list_all is_ascii_digit ds ≡ false → None ≡ digits_number ds
no_number ds e = grind (arith, nat_tests)

too_large : (ds : List ℕ) → 10 ^ 18 ≤ digits_value 10 ds → None ≡ digits_number ds
too_large ds h =
    elim (list_all is_ascii_digit ds) as (λ b. None ≡ cond (b && ltb (digits_value 10 ds) (10 ^ 18)) (Some (digits_value 10 ds)) None) [
      | true ↦ grind (arith, nat_tests)
      | false ↦ refl
    ]

pub not_digit : (ds : List ℕ) (i : ℕ) → i < length ds → is_ascii_digit (get_or ds i 0) ≡ false → None ≡ digits_number ds
not_digit ds i l e = no_number ds (list_all_fails is_ascii_digit ds i l e)

pub one_too_many : (ds : List ℕ) (i v : ℕ) → ReadsDigits ds i v → i < length ds → 10 ^ 17 ≤ v → None ≡ digits_number ds
one_too_many ds i v h l large =
    let front : 10 ^ 18 ≤ digits_value 10 (take (i + 1) ds) = omega (arith, digits_value_more 10 ds i l, h.worth) in
    let rest : digits_value 10 ds ≡ digits_value_after 10 (digits_value 10 (take (i + 1) ds)) (drop (i + 1) ds) =
    ap (digits_value 10) (sym (take-append-drop (i + 1) ds)) ∙ value_after-append 0 (take (i + 1) ds) (drop (i + 1) ds) in
    let grows = value_after-ge (digits_value 10 (take (i + 1) ds)) (drop (i + 1) ds) in
    let whole : digits_value 10 (take (i + 1) ds) * 1 ≤ digits_value 10 (take (i + 1) ds) * 10 ^ length (drop (i + 1) ds) =
    mul-le (digits_value 10 (take (i + 1) ds)) 1 _ (10 ^ length (drop (i + 1) ds)) (omega arith) (one-le-pow (length (drop (i + 1) ds)) 10 (omega arith)) in
    too_large ds (omega arith)

-- ---- leading zeros

pub zero_goes : (c : ℕ) (cs : List ℕ) → c ≡ 48 → without_leading_zeros (c ∷ cs) ≡ without_leading_zeros cs
zero_goes c cs e = grind (arith, nat_tests)

pub other_stays : (c : ℕ) (cs : List ℕ) → c ≢ 48 → without_leading_zeros (c ∷ cs) ≡ c ∷ cs
other_stays c cs h = grind (arith, nat_tests)

zero_worth : (c : ℕ) (cs : List ℕ) → c ≡ 48 → digits_value 10 (c ∷ cs) ≡ digits_value 10 cs
zero_worth c cs e = ap (λ x. digits_value_after 10 (0 * 10 + digit_value x) cs) e

value-without_zeros : (cs : List ℕ) → digits_value 10 (without_leading_zeros cs) ≡ digits_value 10 cs
value-without_zeros [] = refl
value-without_zeros (c ∷ cs) =
    elim (cases_eq c 48) as (λ _. digits_value 10 (without_leading_zeros (c ∷ cs)) ≡ digits_value 10 (c ∷ cs)) [
      | inl e ↦ ap (digits_value 10) (zero_goes c cs e) ∙ value-without_zeros cs ∙ sym (zero_worth c cs e)
      | inr h ↦ ap (digits_value 10) (other_stays c cs h)
    ]

digits-without_zeros : (cs : List ℕ) → list_all is_ascii_digit cs ≡ true → list_all is_ascii_digit (without_leading_zeros cs) ≡ true
digits-without_zeros [] all = refl
digits-without_zeros (c ∷ cs) all =
    elim (cases_eq c 48) as (λ _. list_all is_ascii_digit (without_leading_zeros (c ∷ cs)) ≡ true) [
      | inl e ↦ ap (list_all is_ascii_digit) (zero_goes c cs e) ∙ digits-without_zeros cs (and_parts (is_ascii_digit c) _ all).1
      | inr h ↦ ap (list_all is_ascii_digit) (other_stays c cs h) ∙ all
    ]

-- at most 18 digits behind the leading zeros: that is a number below 10 ^ 18
pub eighteen_digits : (cs : List ℕ) → list_all is_ascii_digit cs ≡ true → length (without_leading_zeros cs) ≤ 18 → digits_value 10 cs < 10 ^ 18
eighteen_digits cs all h =
    let below : digits_value 10 (without_leading_zeros cs) < 10 ^ length (without_leading_zeros cs) =
    digits_value-lt 10 (without_leading_zeros cs) (AllDigits-from_list_all _ (digits-without_zeros cs all)) in
    let grows : 10 ^ length (without_leading_zeros cs) ≤ 10 ^ 18 = pow-le-pow_right (omega arith) h in
    omega (arith, value-without_zeros cs)

first_digit : (c : ℕ) (cs : List ℕ) → is_ascii_digit c ≡ true → c ≢ 48 → 10 ^ length cs ≤ digits_value 10 (c ∷ cs)
first_digit c cs digit h =
    let r = digit_in c digit in
    let some : 1 ≤ digit_value c = omega (arith, digit_value_digit c r, r.0) in
    let power : 1 * 10 ^ length cs ≤ (0 * 10 + digit_value c) * 10 ^ length cs =
    mul-le 1 (10 ^ length cs) (0 * 10 + digit_value c) (10 ^ length cs) (omega arith) (omega arith) in
    omega (arith, value_after-ge (0 * 10 + digit_value c) cs)

as_long : (cs : List ℕ) → list_all is_ascii_digit cs ≡ true → 0 < length (without_leading_zeros cs) →
    10 ^ (length (without_leading_zeros cs) - 1) ≤ digits_value 10 cs
as_long [] all h = absurd (omega arith)
as_long (c ∷ cs) all h =
    let parts = and_parts (is_ascii_digit c) (list_all is_ascii_digit cs) all in
    elim (cases_eq c 48) as (λ _. 10 ^ (length (without_leading_zeros (c ∷ cs)) - 1) ≤ digits_value 10 (c ∷ cs)) [
      | inl e ↦ rw (zero_goes c cs e, zero_worth c cs e)
          (as_long cs parts.1 (let n : 0 < length (without_leading_zeros cs) = omega (arith, h, ap length (zero_goes c cs e)) in n))
      | inr other ↦ rw (other_stays c cs other) (let e : suc (length cs) - 1 ≡ length cs = omega arith in rw e (first_digit c cs parts.0 other))
    ]

pub more_digits : (cs : List ℕ) → list_all is_ascii_digit cs ≡ true → 18 < length (without_leading_zeros cs) → 10 ^ 18 ≤ digits_value 10 cs
more_digits cs all h =
    let grows : 10 ^ 18 ≤ 10 ^ (length (without_leading_zeros cs) - 1) =
    pow-le-pow_right (omega arith) {i = 18} {j = length (without_leading_zeros cs) - 1} (omega arith) in
    omega (arith, as_long cs all (omega arith))

-- ---- the form

abbrev pub all_four : Bool → Bool → Bool → Bool → Bool
all_four a b c d = a && b && c && d

four_true : (a b c d : Bool) → a ≡ true → b ≡ true → c ≡ true → d ≡ true → all_four a b c d ≡ true
four_true a b c d ea eb ec ed = and_true _ d (and_true _ c (and_true a b ea eb) ec) ed

pub and_false_right : (a : Bool) → (a && false) ≡ false
and_false_right true = refl
and_false_right false = refl

first_false : (a b c d : Bool) → a ≡ false → all_four a b c d ≡ false
first_false a b c d e = ap (λ x. x && b && c && d) e

second_false : (a b c d : Bool) → b ≡ false → all_four a b c d ≡ false
second_false a b c d e = ap (λ x. a && x && c && d) e ∙ ap (λ x. x && c && d) (and_false_right a)

third_false : (a b c d : Bool) → c ≡ false → all_four a b c d ≡ false
third_false a b c d e = ap (λ x. a && b && x && d) e ∙ ap (λ x. x && d) (and_false_right (a && b))

fourth_false : (a b c d : Bool) → d ≡ false → all_four a b c d ≡ false
fourth_false a b c d e = ap (λ x. a && b && c && x) e ∙ and_false_right (a && b && c)

pub nat_le_yes : (m n : ℕ) → m ≤ n → nat_le m n ≡ true
nat_le_yes m n h = grind (arith, nat_tests)

nat_le_no : (m n : ℕ) → n < m → nat_le m n ≡ false
nat_le_no m n h = grind (arith, nat_tests)

nat_lt_yes : (m n : ℕ) → m < n → nat_lt m n ≡ true
nat_lt_yes m n h = grind (arith, nat_tests)

nat_lt_no : (m n : ℕ) → n ≤ m → nat_lt m n ≡ false
nat_lt_no m n h = grind (arith, nat_tests)

number_some_at : (b : Bool) (w v : ℕ) → Some v ≡ cond (b && nat_lt w (10 ^ 18)) (Some w) None → (b ≡ true) × (v ≡ w) × (v < 10 ^ 18)
number_some_at false w v e = cc
number_some_at true w v e =
    elim (cases_lt w (10 ^ 18)) as (λ _. (true ≡ true) × (v ≡ w) × (v < 10 ^ 18)) [
      | inl less ↦ (let same : Some v ≡ Some w = e ∙ ap (λ b. cond b (Some w) None) (nat_lt_yes w (10 ^ 18) less) in let eq : v ≡ w = cc in
          (refl, eq, omega arith))
      | inr more ↦ (let none : Some v ≡ None = e ∙ ap (λ b. cond b (Some w) None) (nat_lt_no w (10 ^ 18) more) in cc)
    ]

number_none_at : (b : Bool) (w : ℕ) → None ≡ cond (b && nat_lt w (10 ^ 18)) (Some w) None → (b ≡ false) ⊎ ((b ≡ true) × (10 ^ 18 ≤ w))
number_none_at false w e = inl refl
number_none_at true w e =
    elim (cases_lt w (10 ^ 18)) as (λ _. (true ≡ false) ⊎ ((true ≡ true) × (10 ^ 18 ≤ w))) [
      | inl less ↦ (let some : None ≡ Some w = e ∙ ap (λ b. cond b (Some w) None) (nat_lt_yes w (10 ^ 18) less) in cc)
      | inr more ↦ inr (refl, more)
    ]

-- a number that was read: its digits, and that it is small
pub digits_from_number : (ds : List ℕ) (v : ℕ) → Some v ≡ digits_number ds → (list_all is_ascii_digit ds ≡ true) × (v ≡ digits_value 10 ds) × (v < 10 ^ 18)
digits_from_number ds v e =
    number_some_at (list_all is_ascii_digit ds) (digits_value 10 ds) v e

pub why_no_number : (ds : List ℕ) → None ≡ digits_number ds →
    (list_all is_ascii_digit ds ≡ false) ⊎ ((list_all is_ascii_digit ds ≡ true) × (10 ^ 18 ≤ digits_value 10 ds))
why_no_number ds e = number_none_at (list_all is_ascii_digit ds) (digits_value 10 ds) e

units_none : (whole fraction : List ℕ) → are_number_parts whole fraction ≡ false → None ≡ written_units whole fraction
unfolding written_units
units_none whole fraction e =
    sym (ap (λ b. cond b (Some (digits_value 10 (whole ++ fraction) * 10 ^ (18 - length fraction))) None) e)

pub units_some : (whole fraction : List ℕ) → are_number_parts whole fraction ≡ true →
    written_units whole fraction ≡ Some (digits_value 10 (whole ++ fraction) * 10 ^ (18 - length fraction))
unfolding written_units
units_some whole fraction e =
    ap (λ b. cond b (Some (digits_value 10 (whole ++ fraction) * 10 ^ (18 - length fraction))) None) e

pub unused_power : (k : ℕ) → k ≤ 18 → 10 ^ k * 10 ^ (18 - k) ≡ 10 ^ 18
unused_power k h =
    sym (pow-add 10 k (18 - k)) ∙ ap (λ n. 10 ^ n) (let e : k + (18 - k) ≡ 18 = omega arith in e)

-- the form, from its four parts
pub form_holds : (whole fraction : List ℕ) → list_all is_ascii_digit whole ≡ true → list_all is_ascii_digit fraction ≡ true → 0 < length whole + length fraction
    → length (without_leading_zeros whole) ≤ 18 → length fraction ≤ 18 → are_number_parts whole fraction ≡ true
form_holds whole fraction w f some significant short =
    let nonempty : 0 < length (whole ++ fraction) = omega (arith, length-append whole fraction) in
    four_true _ _ _ _ (list_all-append is_ascii_digit whole fraction ∙ and_true _ _ w f) (nat_lt_yes 0 (length (whole ++ fraction)) nonempty)
    (nat_le_yes (length (without_leading_zeros whole)) 18 significant) (nat_le_yes (length fraction) 18 short)

-- the parts of a number that was read are its form
pub parts_have_form : (whole fraction : List ℕ) (ones rest : ℕ) → (length whole + length fraction ≡ 0 → ⊥) → length fraction ≤ 18 →
    Some ones ≡ digits_number whole → Some rest ≡ digits_number fraction → are_number_parts whole fraction ≡ true
parts_have_form whole fraction ones rest some short ew ef =
    let w = digits_from_number whole ones ew in
    let f = digits_from_number fraction rest ef in
    let significant : length (without_leading_zeros whole) ≤ 18 =
    elim (cases_lt 18 (length (without_leading_zeros whole))) as (λ _. length (without_leading_zeros whole) ≤ 18) [
      | inl more ↦ absurd (omega (arith, more_digits whole w.0 more, w.1, w.2))
      | inr less ↦ less
    ] in
    form_holds whole fraction w.0 f.0 (omega (arith, some)) significant short

pub parts_read : (whole fraction : List ℕ) (ones rest a b unused : ℕ) → (length whole + length fraction ≡ 0 → ⊥) → length fraction ≤ 18 →
    Some ones ≡ digits_number whole → Some rest ≡ digits_number fraction → a ≡ ones → b ≡ rest → unused ≡ 10 ^ (18 - length fraction) →
    Some (a * 10 ^ 18 + b * unused) ≡ written_units whole fraction
parts_read whole fraction ones rest a b unused some short ew ef ea eb eu =
    let w = digits_from_number whole ones ew in
    let f = digits_from_number fraction rest ef in
    let power = unused_power (length fraction) short in
    let worth : digits_value 10 (whole ++ fraction) ≡ a * 10 ^ length fraction + b =
    digits_value-append whole fraction ∙ ap (λ x. x * 10 ^ length fraction + digits_value 10 fraction) (sym (ea ∙ w.1)) ∙
    ap (λ x. a * 10 ^ length fraction + x) (sym (eb ∙ f.1)) in
    let total : a * 10 ^ 18 + b * unused ≡ digits_value 10 (whole ++ fraction) * 10 ^ (18 - length fraction) =
    ap (λ x. a * 10 ^ 18 + b * x) eu ∙ (let e : a * 10 ^ 18 + b * 10 ^ (18 - length fraction) ≡ (a * 10 ^ length fraction + b) * 10 ^ (18 - length fraction) =
    omega (arith, ap (λ x. a * x) power) in e) ∙ ap (λ x. x * 10 ^ (18 - length fraction)) (sym worth) in
    ap (λ n. Some n) total ∙ sym (units_some whole fraction (parts_have_form whole fraction ones rest some short ew ef))

pub parts_bound : (whole fraction : List ℕ) (ones rest a b unused : ℕ) → length fraction ≤ 18 → Some ones ≡ digits_number whole →
    Some rest ≡ digits_number fraction → a ≡ ones → b ≡ rest → unused ≡ 10 ^ (18 - length fraction) → a * 10 ^ 18 + b * unused < 10 ^ 36
parts_bound whole fraction ones rest a b unused short ew ef ea eb eu =
    let w = digits_from_number whole ones ew in
    let f = digits_from_number fraction rest ef in
    let power = unused_power (length fraction) short in
    let below : b < 10 ^ length fraction = omega (arith, digits_value-lt 10 fraction (AllDigits-from_list_all fraction f.0), f.1) in
    let room : b * 10 ^ (18 - length fraction) + 10 ^ (18 - length fraction) ≤ 10 ^ length fraction * 10 ^ (18 - length fraction) =
    row_fits b (10 ^ (18 - length fraction)) (10 ^ length fraction) (10 ^ (18 - length fraction)) below (omega arith) in
    let positive : 1 ≤ 10 ^ (18 - length fraction) = one-le-pow (18 - length fraction) 10 (omega arith) in
    omega (arith, ap (λ x. b * x) eu, w.2)

pub no_parts : (whole fraction : List ℕ) → length whole + length fraction ≡ 0 → None ≡ written_units whole fraction
no_parts whole fraction e =
    units_none whole fraction (second_false _ _ _ _ (nat_lt_no 0 (length (whole ++ fraction)) (omega (arith, length-append whole fraction))))

pub long_fraction : (whole fraction : List ℕ) → 18 < length fraction → None ≡ written_units whole fraction
long_fraction whole fraction h =
    units_none whole fraction (fourth_false (list_all is_ascii_digit (whole ++ fraction)) (nat_lt 0 (length (whole ++ fraction)))
    (nat_le (length (without_leading_zeros whole)) 18) (nat_le (length fraction) 18) (nat_le_no (length fraction) 18 h))

pub bad_whole : (whole fraction : List ℕ) → None ≡ digits_number whole → None ≡ written_units whole fraction
bad_whole whole fraction e =
    elim (why_no_number whole e) as (λ _. None ≡ written_units whole fraction) [
      | inl other ↦ units_none whole fraction
          (first_false _ _ _ _ (list_all-append is_ascii_digit whole fraction ∙ ap (λ b. b && list_all is_ascii_digit fraction) other))
      | inr large ↦ elim (cases_lt 18 (length (without_leading_zeros whole))) as (λ _. None ≡ written_units whole fraction) [
        | inl more ↦ units_none whole fraction (third_false (list_all is_ascii_digit (whole ++ fraction)) (nat_lt 0 (length (whole ++ fraction)))
            (nat_le (length (without_leading_zeros whole)) 18) (nat_le (length fraction) 18) (nat_le_no (length (without_leading_zeros whole)) 18 more))
        | inr less ↦ absurd (omega (arith, eighteen_digits whole large.0 less, large.1))
      ]
    ]

pub bad_fraction : (whole fraction : List ℕ) → length fraction ≤ 18 → None ≡ digits_number fraction → None ≡ written_units whole fraction
bad_fraction whole fraction short e =
    elim (why_no_number fraction e) as (λ _. None ≡ written_units whole fraction) [
      | inl other ↦ units_none whole fraction
          (first_false _ _ _ _ (list_all-append is_ascii_digit whole fraction ∙ ap (λ b. list_all is_ascii_digit whole && b) other ∙
          and_false_right (list_all is_ascii_digit whole)))
      | inr large ↦ absurd (omega (
        arith,
        digits_value-lt 10 fraction (AllDigits-from_list_all fraction large.0),
        large.1,
        pow-le-pow_right {n = 10} (omega arith) {i = length fraction} {j = 18} short,
      ))
    ]

-- what was read has the form, and is worth its digits
units_at : (b : Bool) (w n : ℕ) → Some n ≡ cond b (Some w) None → (b ≡ true) × (n ≡ w)
units_at true w n e = (refl, cc)
units_at false w n e = cc

pub units_are : (whole fraction : List ℕ) (n : ℕ) → Some n ≡ written_units whole fraction → (are_number_parts whole fraction ≡ true) ×
    (n ≡ digits_value 10 (whole ++ fraction) * 10 ^ (18 - length fraction))
unfolding written_units
units_are whole fraction n e = units_at (are_number_parts whole fraction) _ n e
