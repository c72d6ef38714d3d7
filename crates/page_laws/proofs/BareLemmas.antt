-- What may be a value of an attribute: escaped texts, numbers and base64.
use Rattle.std.proofs.Common.{◌≡◌, ℕ, zero, suc, ◌+◌, ◌/◌, ◌%◌, ◌^◌, ◌<◌, ◌≤◌, ◌≢◌, Bool, true, false, ◌||◌, List, [], ◌∷◌, ◌++◌, refl, ap, ◌∙◌, length}
use Rattle.std.proofs.Common.{get_or, reverse, replicate, arith, ℤ, decimal}
use Rattle.std.specs.Prelude.{◌==◌, not, if◌then◌else◌, unsigned_abs}
use Rattle.std.specs.List.{flat_map}
use Rattle.std.specs.Fmt.{digits, digits_onto, digit_glyph, sign_text}
use Rattle.std.specs.Int.{is_negative}
use Rattle.std.proofs.lemmas.Bool.{and_parts, and_from, ne_eqb, cond_both, lt-ltb}
use Rattle.std.proofs.lemmas.List.{reverse-append}
use Rattle.std.proofs.lemmas.List.Folds.{list_all-append}
use Rattle.base64.specs.Rfc4648.{encode_symbols, padding_len}
use Rattle.base64.specs.GeneralPurpose.{encode_of}
use Rattle.base64.specs.Engines.{standard}
use Rattle.inv_decimal.specs.Number.{unit}
use Rattle.inv_decimal.specs.Digits.{last_digits, without_leading_zeros, without_trailing_zeros}
use Rattle.inv_decimal.specs.WrittenNumber.{fraction_digits, behind_point, decimal_text}
use Rattle.page_values.specs.Escapes.{escaped_character}
use Rattle.page_laws.specs.Tags.{is_bare, are_bare}

abbrev pub Bare : List ℕ → Type 0
Bare text = are_bare text ≡ true

pub Bare-append : (a b : List ℕ) → Bare a → Bare b → Bare (a ++ b)
Bare-append a b h k = list_all-append is_bare a b ∙ and_from _ _ h k

-- ---- single bytes

not-any : (quote less more : Bool) → quote ≡ false → less ≡ false → more ≡ false → not (quote || (less || more)) ≡ true
not-any quote less more a b c = ap (λ x. not (x || (less || more))) a ∙ (ap (λ x. not (x || more)) b ∙ ap not c)

of-other : (c : ℕ) → c ≢ 0x22 → c ≢ 0x3C → c ≢ 0x3E → is_bare c ≡ true
of-other c a b d = not-any (c == 0x22) (c == 0x3C) (c == 0x3E) (ne_eqb c 0x22 a) (ne_eqb c 0x3C b) (ne_eqb c 0x3E d)

of-digit : (c : ℕ) → 48 ≤ c → c ≤ 57 → is_bare c ≡ true
of-digit c h k = of-other c (omega arith) (omega arith) (omega arith)

-- ---- escaped texts

pub Bare-escaped_character : (c : ℕ) → Bare (escaped_character c)
Bare-escaped_character c =
    cond_both (c == 0x26) _ _ Bare (λ _. refl) (λ _.
    cond_both (c == 0x3C) _ _ Bare (λ _. refl) (λ less.
    cond_both (c == 0x3E) _ _ Bare (λ _. refl) (λ more.
    cond_both (c == 0x22) _ _ Bare (λ _. refl) (λ quote. and_from _ true (not-any (c == 0x22) (c == 0x3C) (c == 0x3E) quote less more) refl))))

pub Bare-escaped : (bytes : List ℕ) → Bare (flat_map escaped_character bytes)
Bare-escaped [] = refl
Bare-escaped (b ∷ bytes) = Bare-append (escaped_character b) (flat_map escaped_character bytes) (Bare-escaped_character b) (Bare-escaped bytes)

-- ---- numbers

glyph : (d : ℕ) → d < 10 → digit_glyph false d ≡ 48 + d
glyph d h = ap (λ q. if q then 48 + d else 87 + d) (lt-ltb d 10 h)

digit : (n : ℕ) → is_bare (digit_glyph false (n % 10)) ≡ true
digit n =
    let below : n % 10 < 10 = omega arith in
    ap is_bare (glyph (n % 10) below) ∙ of-digit (48 + n % 10) (omega arith) (omega arith)

digits-onto : (k n : ℕ) (text : List ℕ) → Bare text → Bare (digits_onto k 10 false n text)
digits-onto zero n text h = h
digits-onto (suc k) n text h =
    let more : Bare (digit_glyph false (n % 10) ∷ text) = and_from _ _ (digit n) h in
    cond_both (n / 10 == 0) _ _ Bare (λ _. more) (λ _. digits-onto k (n / 10) (digit_glyph false (n % 10) ∷ text) more)

pub Bare-decimal : (n : ℕ) → Bare (decimal n)
unfolding digits
Bare-decimal n = digits-onto 64 n [] refl

Bare-last_digits : (k n : ℕ) → Bare (last_digits k n)
unfolding last_digits
Bare-last_digits zero n = refl
Bare-last_digits (suc k) n =
    let d = n / 10 ^ k in
    let below : d % 10 < 10 = omega arith in
    and_from _ _ (of-digit (48 + d % 10) (omega arith) (omega arith)) (Bare-last_digits k n)

Bare-reverse : (text : List ℕ) → Bare text → Bare (reverse text)
Bare-reverse [] h = refl
Bare-reverse (c ∷ text) h =
    let parts = and_parts (is_bare c) (are_bare text) h in
    ap are_bare (reverse-append (c ∷ []) text) ∙ Bare-append (reverse text) (c ∷ []) (Bare-reverse text parts.1) (and_from _ true parts.0 refl)

Bare-rest : (text : List ℕ) → Bare text → Bare (without_leading_zeros text)
Bare-rest [] h = refl
Bare-rest (c ∷ text) h = by (c == 48) (Bare-rest text (and_parts (is_bare c) (are_bare text) h).1)
  where
    by : (q : Bool) → Bare (without_leading_zeros text) → Bare (if q then without_leading_zeros text else c ∷ text)
    by true rest = rest
    by false rest = h

Bare-front : (text : List ℕ) → Bare text → Bare (without_trailing_zeros text)
unfolding without_trailing_zeros
Bare-front text h = Bare-reverse (without_leading_zeros (reverse text)) (Bare-rest (reverse text) (Bare-reverse text h))

Bare-sign : (negative : Bool) → Bare (sign_text negative)
Bare-sign true = refl
Bare-sign false = refl

Bare-fraction : (text : List ℕ) → Bare text → Bare (behind_point text)
Bare-fraction [] h = refl
Bare-fraction (c ∷ text) h = h

pub Bare-decimal_text : (z : ℤ) → Bare (decimal_text z)
unfolding decimal_text
Bare-decimal_text z =
    let whole = decimal (unsigned_abs z / unit) in
    let fraction = without_trailing_zeros (fraction_digits z) in
    Bare-append (sign_text (is_negative z)) (whole ++ behind_point fraction) (Bare-sign (is_negative z))
    (Bare-append whole (behind_point fraction) (Bare-decimal (unsigned_abs z / unit))
    (Bare-fraction fraction (Bare-front (fraction_digits z) (Bare-last_digits 18 _))))

-- ---- base64

at : (table : List ℕ) → Bare table → (k : ℕ) → is_bare (get_or table k 0) ≡ true
at [] h k = refl
at (c ∷ table) h zero = (and_parts (is_bare c) (are_bare table) h).0
at (c ∷ table) h (suc k) = at table (and_parts (is_bare c) (are_bare table) h).1 k

symbols : (table : List ℕ) → ((k : ℕ) → is_bare (get_or table k 0) ≡ true) → (bytes : List ℕ) → Bare (encode_symbols table bytes)
unfolding encode_symbols
symbols table h [] = refl
symbols table h (a ∷ []) = and_from _ _ (h _) (and_from _ true (h _) refl)
symbols table h (a ∷ b ∷ []) = and_from _ _ (h _) (and_from _ _ (h _) (and_from _ true (h _) refl))
symbols table h (a ∷ b ∷ c ∷ rest) =
    and_from _ _ (h _) (and_from _ _ (h _) (and_from _ _ (h _) (and_from _ _ (h _) (symbols table h rest))))

padding : (n : ℕ) → Bare (replicate n 0x3D)
padding zero = refl
padding (suc n) = padding n

standard-symbols : Bare standard.encode_table
standard-symbols = refl

pub Bare-base64 : (bytes : List ℕ) → Bare (encode_of standard bytes)
Bare-base64 bytes =
    Bare-append (encode_symbols standard.encode_table bytes) (replicate (padding_len (length bytes)) 0x3D)
    (symbols standard.encode_table (at standard.encode_table standard-symbols) bytes) (padding (padding_len (length bytes)))
