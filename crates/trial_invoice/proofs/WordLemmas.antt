-- Texts of ASCII.
use Rattle.std.proofs.Common.{◌≡◌, ℕ, ◌<◌, ◌≤◌, ◌^◌, true, List, [], ◌∷◌, ◌++◌, ◌/◌, Option, Some, None, refl, ap, ◌∙◌, arith}
use Rattle.std.specs.Prelude.{nat_lt, codes, decimal}
use Rattle.std.specs.Str.{chars, IsAscii}
use Rattle.std.proofs.lemmas.Bool.{ltb-true}
use Rattle.std.proofs.lemmas.Str.{chars-IsAscii}
use Rattle.std.proofs.lemmas.Str.Ascii.{IsAscii-nil, IsAscii-cons}
use Rattle.inv_decimal.specs.WrittenNumber.{read_scaled}
use Rattle.inv_decimal.specs.WrittenDay.{read_dashed_day, day_from}
use Rattle.trial_invoice.specs.Amounts.{hundredths, ones}
use Rattle.trial_invoice.specs.Written.{is_ascii, last_digit, hundredths_text}
use Rattle.trial_invoice.proofs.DigitLemmas.{is_plain, are_plain, both, between, plain-decimal, plain-hundredths}
use Rattle.trial_invoice.proofs.ValueLemmas.{ReadsBack, read-ones, read-hundredths}

pub ascii : (text : List ℕ) → is_ascii text ≡ true → IsAscii text
ascii [] h = IsAscii-nil
ascii (c ∷ text) h = let parts = both (nat_lt c 128) (is_ascii text) h in IsAscii-cons c text (ltb-true c 128 parts.0) (ascii text parts.1)

pub chars-ascii : (text : List ℕ) → is_ascii text ≡ true → chars text ≡ text
chars-ascii text h = chars-IsAscii text (ascii text h)

-- ---- numbers

plain-ascii : (text : List ℕ) → are_plain text ≡ true → IsAscii text
plain-ascii [] h = IsAscii-nil
plain-ascii (c ∷ text) h =
    let parts = both (is_plain c) (are_plain text) h in
    let digit : c ≤ 57 = (between c parts.0).1 in
    IsAscii-cons c text (omega arith) (plain-ascii text parts.1)

pub hundredths-ascii : (n : ℕ) → n < 2 ^ 64 → IsAscii (hundredths_text n)
hundredths-ascii n h = plain-ascii (hundredths_text n) (plain-hundredths n h)

behind-ascii : (front text : List ℕ) → is_ascii front ≡ true → IsAscii text → IsAscii (front ++ text)
behind-ascii [] text h k = k
behind-ascii (c ∷ front) text h k = let parts = both (nat_lt c 128) (is_ascii front) h in
    IsAscii-cons c (front ++ text) (ltb-true c 128 parts.0) (behind-ascii front text parts.1 k)

pub item-ascii : (n : ℕ) → n < 2 ^ 64 → IsAscii (codes "Item " ++ decimal n)
item-ascii n h = behind-ascii (codes "Item ") (decimal n) refl (plain-ascii (decimal n) (plain-decimal n h))

-- ---- what is read of a text

pub found-same : {A : Type 0} (x y : A) → Some x ≡ Some y → x ≡ y
found-same x y e = cc

pub none-found : {A : Type 0} (y : A) → ◌≡◌ {A = Option A} None (Some y) → ⊥
none-found y e = cc

day-is : read_dashed_day (codes "2024-01-01") ≡ Some (record { year = 2024; month = 1; day = 1 })
unfolding read_dashed_day day_from
day-is = refl

pub day-read : read_dashed_day (chars (codes "2024-01-01")) ≡ Some (record { year = 2024; month = 1; day = 1 })
day-read = ap read_dashed_day (chars-ascii (codes "2024-01-01") refl) ∙ day-is

pub ones-read : ReadsBack → (n : ℕ) → n < 10 ^ 18 → (text : List ℕ) → text ≡ decimal n → IsAscii text → read_scaled (chars text) ≡ Some (ones n)
ones-read law n h text e plain = ap read_scaled (chars-IsAscii text plain ∙ e) ∙ read-ones law n h

pub hundredths-read : ReadsBack → (n : ℕ) → n < 10 ^ 18 → (text : List ℕ) → text ≡ hundredths_text n → read_scaled (chars text) ≡ Some (hundredths n)
hundredths-read law n h text e =
    ap read_scaled (ap chars e ∙ chars-IsAscii (hundredths_text n) (hundredths-ascii n (omega arith))) ∙ read-hundredths law n h

-- ---- texts made of parts

pub hundredths-made : (n : ℕ) (front : List ℕ) (a b : ℕ) → front ≡ decimal (n / 100) → a ≡ last_digit (n / 10) → b ≡ last_digit n → front ++
    (46 ∷ (a ∷ (b ∷ []))) ≡ hundredths_text n
hundredths-made n front a b e h k = λ i. e i ++ (46 ∷ (h i ∷ (k i ∷ [])))

pub item-made : (n : ℕ) (front back : List ℕ) → front ≡ codes "Item " → back ≡ decimal n → front ++ back ≡ codes "Item " ++ decimal n
item-made n front back e h = λ i. e i ++ h i
