-- The reader reads the texts of the grammar, and nothing else.
use Rattle.std.proofs.Common.{◌≡◌, ◌≢◌, ℕ, suc, ◌+◌, ◌-◌, ◌*◌, ◌^◌, ◌<◌, List, [], ◌∷◌, ◌++◌, length, take, drop, Bool, true, false, cond, not, nat_lt, nat_le}
use Rattle.std.proofs.Common.{◌==◌, ◌&&◌, refl, sym, ap, subst, ◌∙◌, inl, inr, arith, length-append, Option, Some}
use Rattle.std.specs.List.{list_all, position_or_len, before_first, after_first}
use Rattle.std.specs.Char.{is_ascii_digit}
use Rattle.std.specs.Str.Parse.{digits_value, starts_with_minus, without_leading_sign}
use Rattle.std.proofs.lemmas.List.{take_at, take_all, drop_all, drop-drop, drop_at, append-nil}
use Rattle.std.proofs.lemmas.List.Sums.{split_at_first, passes_at_first}
use Rattle.std.proofs.lemmas.Bool.{cases_lt, cases_eq}
use Rattle.std.proofs.lemmas.Bool.Decides.{nat_tests}
use Rattle.inv_decimal.specs.Number.{ScaledDecimal}
use Rattle.inv_decimal.specs.Digits.{without_leading_zeros}
use Rattle.inv_decimal.specs.WrittenNumber.{is_point, whole_part, fraction_part, are_number_parts, with_sign, written_units, read_scaled, IsSign, no_sign, plus}
use Rattle.inv_decimal.specs.WrittenNumber.{minus, IsTail, no_point, point, IsWritten}
use Rattle.inv_decimal.proofs.Ascii.{behind_minus, behind_plus, no_sign as unsigned_same, all_of-append}
use Rattle.inv_decimal.proofs.InRange.{scaled_at}
use Rattle.inv_decimal.proofs.NumberParts.{and_parts, units_are, units_some}
use Rattle.inv_decimal.proofs.ReadBack.{not_point, no_sign_before}
use Rattle.inv_decimal.proofs.ReadNumber.{scaled_some}

-- ---- from the grammar to the reader

lt_from : (m n : ℕ) → nat_lt m n ≡ true → m < n
lt_from m n e = grind (arith, nat_tests)

other_than : (c : ℕ) → c ≢ 45 → (c == 45) ≡ false
other_than c h = grind (arith, nat_tests)

digits_of_form : (whole fraction : List ℕ) → are_number_parts whole fraction ≡ true → (list_all is_ascii_digit whole ≡ true) ×
    (0 < length whole + length fraction)
digits_of_form whole fraction form =
    let four = and_parts (list_all is_ascii_digit (whole ++ fraction) && nat_lt 0 (length (whole ++ fraction)) &&
    nat_le (length (without_leading_zeros whole)) 18) (nat_le (length fraction) 18) form in
    let three = and_parts (list_all is_ascii_digit (whole ++ fraction) && nat_lt 0 (length (whole ++ fraction)))
    (nat_le (length (without_leading_zeros whole)) 18) four.0 in
    let two = and_parts (list_all is_ascii_digit (whole ++ fraction)) (nat_lt 0 (length (whole ++ fraction))) three.0 in
    ((all_of-append whole fraction two.0).0, omega (arith, lt_from 0 (length (whole ++ fraction)) two.1, length-append whole fraction))

tail_position : (whole tail fraction : List ℕ) → IsTail tail fraction → list_all is_ascii_digit whole ≡ true →
    position_or_len is_point (whole ++ tail) ≡ length whole
tail_position [] _ _ no_point all = refl
tail_position [] _ _ (point ds) all = refl
tail_position (d ∷ ds) tail fraction ended all =
    let parts = and_parts (is_ascii_digit d) (list_all is_ascii_digit ds) all in
    ap (λ b. cond (not b) (1 + position_or_len is_point (ds ++ tail)) 0) (not_point d parts.0) ∙ ap (λ n. 1 + n) (tail_position ds tail fraction ended parts.1)
    ∙ (let e : 1 + length ds ≡ suc (length ds) = omega arith in e)

drop_tail : (tail fraction : List ℕ) → IsTail tail fraction → drop 1 tail ≡ fraction
drop_tail _ _ no_point = refl
drop_tail _ _ (point ds) = refl

-- a text without its sign
no_sign_at_first : (whole tail fraction : List ℕ) → IsTail tail fraction → list_all is_ascii_digit whole ≡ true → 0 < length whole + length fraction →
    (without_leading_sign (whole ++ tail) ≡ whole ++ tail) × (starts_with_minus (whole ++ tail) ≡ false)
no_sign_at_first [] _ _ no_point all some = absurd (omega arith)
no_sign_at_first [] _ _ (point ds) all some = (refl, refl)
no_sign_at_first (c ∷ cs) tail fraction ended all some = no_sign_before c (cs ++ tail) (and_parts (is_ascii_digit c) _ all).0

sign_goes : (sign rest : List ℕ) (negative : Bool) → IsSign sign negative → (without_leading_sign rest ≡ rest) × (starts_with_minus rest ≡ false) →
    (without_leading_sign (sign ++ rest) ≡ rest) × (starts_with_minus (sign ++ rest) ≡ negative)
sign_goes _ rest _ no_sign h = h
sign_goes _ rest _ plus h = (refl, refl)
sign_goes _ rest _ minus h = (refl, refl)

pub read_from_written : (text : List ℕ) (s : ScaledDecimal) → IsWritten text s → read_scaled text ≡ Some s
read_from_written text s w =
    let of = digits_of_form w.whole w.fraction w.digits in
    let plain = no_sign_at_first w.whole w.tail w.fraction w.ended of.0 of.1 in
    let signed = sign_goes w.sign (w.whole ++ w.tail) w.negative w.signed plain in
    let body : without_leading_sign text ≡ w.whole ++ w.tail = ap without_leading_sign w.spelled ∙ signed.0 in
    let at = tail_position w.whole w.tail w.fraction w.ended of.0 in
    let before : before_first is_point (w.whole ++ w.tail) ≡ w.whole =
    ap (λ n. take n (w.whole ++ w.tail)) at ∙ take_at w.whole w.tail (length w.whole) refl in
    let behind : after_first is_point (w.whole ++ w.tail) ≡ w.fraction =
    ap (λ n. drop (n + 1) (w.whole ++ w.tail)) at ∙ sym (drop-drop 1 (length w.whole) (w.whole ++ w.tail)) ∙
    ap (drop 1) (drop_at w.whole w.tail (length w.whole) refl) ∙ drop_tail w.tail w.fraction w.ended in
    sym (scaled_some text w.whole w.fraction w.negative (digits_value 10 (w.whole ++ w.fraction) * 10 ^ (18 - length w.fraction)) _
    (sym (ap starts_with_minus w.spelled ∙ signed.1)) (sym (ap (before_first is_point) body ∙ before)) (sym (ap (after_first is_point) body ∙ behind))
    (sym (units_some w.whole w.fraction w.digits)) refl) ∙ ap (λ t. let o : Option ScaledDecimal = Some t in o) (sym w.worth)

-- ---- from the reader to the grammar

pub record Signed (text : List ℕ) : Type 0 where
  pub sign : List ℕ
  pub is_sign : IsSign sign (starts_with_minus text)
  pub spelled : text ≡ sign ++ without_leading_sign text

signed_of : (text : List ℕ) → Signed text
signed_of [] = record { sign = []; is_sign = no_sign; spelled = refl }
signed_of (c ∷ cs) =
    elim (cases_eq c 45) as (λ _. Signed (c ∷ cs)) [
      | inl e ↦ record {
        sign = 45 ∷ [];
        is_sign = subst (IsSign (45 ∷ [])) (sym (ap (λ x. x == 45) e)) minus;
        spelled = ap (λ x. x ∷ cs) e ∙ ap (λ t. 45 ∷ t) (sym (behind_minus c cs e));
      }
      | inr h ↦ elim (cases_eq c 43) as (λ _. Signed (c ∷ cs)) [
        | inl e ↦ record {
          sign = 43 ∷ [];
          is_sign = subst (IsSign (43 ∷ [])) (sym (other_than c h)) plus;
          spelled = ap (λ x. x ∷ cs) e ∙ ap (λ t. 43 ∷ t) (sym (behind_plus c cs e));
        }
        | inr k ↦ record {
          sign = [];
          is_sign = subst (IsSign []) (sym (other_than c h)) no_sign;
          spelled = sym (unsigned_same c cs h k);
        }
      ]
    ]

pub record Ended (body : List ℕ) : Type 0 where
  pub tail : List ℕ
  pub is_tail : IsTail tail (after_first is_point body)
  pub spelled : body ≡ before_first is_point body ++ tail

point_is : (c : ℕ) → is_point c ≡ true → c ≡ 46
point_is c e = grind (arith, nat_tests)

ended_of : (body : List ℕ) → Ended body
ended_of body =
    elim (cases_lt (position_or_len is_point body) (length body)) as (λ _. Ended body) [
      | inl less ↦ record {
        tail = 46 ∷ after_first is_point body;
        is_tail = point (after_first is_point body);
        spelled = split_at_first is_point body 0 less ∙ ap (λ c. before_first is_point body ++ (c ∷ after_first is_point body))
            (point_is _ (passes_at_first is_point body 0 less));
      }
      | inr more ↦ record {
        tail = [];
        is_tail = subst (IsTail []) (sym (drop_all (position_or_len is_point body + 1) body (omega arith))) no_point;
        spelled = sym (append-nil (before_first is_point body) ∙ take_all (position_or_len is_point body) body more);
      }
    ]

pub written_from_read : (text : List ℕ) (s : ScaledDecimal) → read_scaled text ≡ Some s → IsWritten text s
unfolding read_scaled
written_from_read text s e =
    let read = scaled_at (λ n. record { value = with_sign (starts_with_minus text) n; digits = length (fraction_part text) })
    (written_units (whole_part text) (fraction_part text)) s e in
    let are = units_are (whole_part text) (fraction_part text) read.0 read.1 in
    let front = signed_of text in
    let back = ended_of (without_leading_sign text) in
    record {
      sign = front.sign;
      whole = whole_part text;
      tail = back.tail;
      fraction = fraction_part text;
      negative = starts_with_minus text;
      signed = front.is_sign;
      ended = back.is_tail;
      digits = are.0;
      spelled = front.spelled ∙ ap (λ b. front.sign ++ b) back.spelled;
      worth = read.2 ∙ ap (λ n. let t : ScaledDecimal = record { value = with_sign (starts_with_minus text) n; digits = length (fraction_part text) } in
          t) are.1;
    }
