-- What `read` gives, from the parts of the text.
use Rattle.std.proofs.Common.{◌≡◌, ℕ, ◌-◌, ◌%◌, ◌^◌, ◌<◌, ◌≤◌, List, ◌++◌, length, Bool, ap, ◌∙◌, arith, Some, None, ℤ, unsigned_abs}
use Rattle.std.proofs.Math.Nat.{mul-mod_left}
use Rattle.std.specs.Option.{option_map}
use Rattle.std.specs.Str.Parse.{digits_value, starts_with_minus}
use Rattle.inv_decimal.specs.Number.{ScaledDecimal, IsScaled}
use Rattle.inv_decimal.specs.WrittenNumber.{whole_part, fraction_part, with_sign, written_units, read_scaled}
use Rattle.inv_decimal.proofs.NumberParts.{units_are}
use Rattle.inv_decimal.proofs.Signs.{abs-with_sign}

pub scaled_none : (text whole fraction : List ℕ) → whole ≡ whole_part text → fraction ≡ fraction_part text → None ≡ written_units whole fraction →
    None ≡ read_scaled text
unfolding read_scaled
scaled_none text whole fraction ew ef e =
    ap (λ u. option_map (λ n. let s : ScaledDecimal = record { value = with_sign (starts_with_minus text) n; digits = length (fraction_part text) } in s) u)
    (e ∙ ap (λ w. written_units w fraction) ew ∙ ap (written_units (whole_part text)) ef)

pub scaled_some : (text whole fraction : List ℕ) (negative : Bool) (n : ℕ) (z : ℤ) → negative ≡ starts_with_minus text → whole ≡ whole_part text →
    fraction ≡ fraction_part text → Some n ≡ written_units whole fraction → z ≡ with_sign negative n →
    Some (record { value = z; digits = length fraction }) ≡ read_scaled text
unfolding read_scaled
scaled_some text whole fraction negative n z en ew ef e ez =
    let same : Some n ≡ written_units (whole_part text) (fraction_part text) =
    e ∙ ap (λ w. written_units w fraction) ew ∙ ap (written_units (whole_part text)) ef in
    let value : z ≡ with_sign (starts_with_minus text) n = ez ∙ ap (λ b. with_sign b n) en in
    ap (λ x. let s : ScaledDecimal = record { value = x; digits = length fraction } in Some s) value
    ∙ ap (λ k. let s : ScaledDecimal = record { value = with_sign (starts_with_minus text) n; digits = k } in Some s) (ap length ef)
    ∙ ap (λ u. option_map (λ m. let s : ScaledDecimal = record { value = with_sign (starts_with_minus text) m; digits = length (fraction_part text) } in s) u)
    same

pub is_scaled : (whole fraction : List ℕ) (negative : Bool) (n : ℕ) (z : ℤ) → Some n ≡ written_units whole fraction → n < 10 ^ 36 → length fraction ≤ 18 →
    z ≡ with_sign negative n → IsScaled (record { value = z; digits = length fraction })
is_scaled whole fraction negative n z e small short ez =
    let size : unsigned_abs z ≡ n = ap unsigned_abs ez ∙ abs-with_sign negative n in
    let worth = (units_are whole fraction n e).1 in
    record {
      in_range = omega arith;
      at_most = short;
      enough = ap (λ x. x % 10 ^ (18 - length fraction)) (size ∙ worth) ∙ mul-mod_left (digits_value 10 (whole ++ fraction)) (10 ^ (18 - length fraction));
    }
