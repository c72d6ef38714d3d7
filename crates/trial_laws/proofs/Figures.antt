-- The numbers of a line as the expression language reads them, and their product.
use Rattle.std.proofs.Common.{◌≡◌, ℕ, ◌+◌, ◌*◌, ◌/◌, ◌%◌, ◌^◌, ◌<◌, ◌≤◌, Bool, true, false, ◌&&◌, List, [], ◌∷◌, ◌++◌, reverse, Some, Ok, pos, ℤ, ◌<ℤ◌, refl}
use Rattle.std.proofs.Common.{sym, ap, ◌∙◌, subst, arith, lit<}
use Rattle.std.specs.Prelude.{decimal, nat_le, option_map}
use Rattle.std.proofs.lemmas.Bool.{leb-true, le-leb}
use Rattle.std.proofs.lemmas.Fmt.{decimal_by_steps}
use Rattle.std.specs.Int.{is_negative}
use Rattle.std.specs.List.{list_all}
use Rattle.std.specs.Ordering.{int_cmp, is_eq, ordering_reverse, MatchOrdering}
use Rattle.std.specs.declared.cmp.Ordering.{Ordering}
use Rattle.std.specs.declared.cmp.Ordering.TheVariants.{Less, Equal, Greater}
use Rattle.std.proofs.lemmas.Cmp.{int_cmp_total, int_ranked}
use Rattle.std.proofs.lemmas.List.{reverse-reverse, reverse-append}
use Rattle.std.proofs.lemmas.Bool.Decides.{nat_tests}
use Rattle.std.proofs.Math.Nat.{mul-div_cancel}
use Rattle.inv_base.specs.Characters.{is_white_space}
use Rattle.inv_decimal.specs.Number.{unit, IsScaled, ScaledDecimal}
use Rattle.inv_decimal.specs.WrittenNumber.{read_scaled, read_decimal, scaled_text}
use Rattle.inv_decimal.specs.Arithmetic.{product_of}
use Rattle.inv_decimal.proofs.Results.{product_some}
use Rattle.xpath_meaning.specs.Reading.{read_number, formed, trimmed, without_leading_space}
use Rattle.trial_invoice.specs.Amounts.{hundredths, ones}
use Rattle.trial_invoice.specs.Written.{hundredths_text, two_behind_point, last_digit}
use Rattle.trial_invoice.proofs.NumberLemmas.{hundredths-text, ones-text, hundredths-scaled, ones-scaled}

-- ---- texts without white space

-- a digit, a point or a slash
abbrev is_plain : ℕ → Bool
is_plain c = nat_le 46 c && nat_le c 57

abbrev are_plain : List ℕ → Bool
are_plain text = list_all is_plain text

both : (a b : Bool) → (a && b) ≡ true → (a ≡ true) × (b ≡ true)
both true b e = (refl, e)
both false b e = cc

and-true : (a b : Bool) → a ≡ true → b ≡ true → (a && b) ≡ true
and-true a b h k = cc

plain-between : (c : ℕ) → 46 ≤ c → c ≤ 57 → is_plain c ≡ true
plain-between c low high = and-true _ _ (le-leb 46 c low) (le-leb c 57 high)

between : (c : ℕ) → is_plain c ≡ true → (46 ≤ c) × (c ≤ 57)
between c h = let parts = both (nat_le 46 c) (nat_le c 57) h in (leb-true 46 c parts.0, leb-true c 57 parts.1)

plain-black : (c : ℕ) → is_plain c ≡ true → is_white_space c ≡ false
unfolding is_white_space
plain-black c h = let b = between c h in let low : 46 ≤ c = b.0 in let high : c ≤ 57 = b.1 in grind (arith, nat_tests)

plain-append : (xs ys : List ℕ) → are_plain xs ≡ true → are_plain ys ≡ true → are_plain (xs ++ ys) ≡ true
plain-append [] ys h k = k
plain-append (x ∷ xs) ys h k = let parts = both (is_plain x) (are_plain xs) h in and-true _ _ parts.0 (plain-append xs ys parts.1 k)

plain-digit : (n : ℕ) → n < 10 → is_plain (48 + n) ≡ true
plain-digit n h = plain-between (48 + n) (omega arith) (omega arith)

plain-one : (c : ℕ) → is_plain c ≡ true → are_plain (c ∷ []) ≡ true
plain-one c h = and-true _ _ h refl

plain-decimal : (n : ℕ) → n < 2 ^ 64 → are_plain (decimal n) ≡ true
plain-decimal = decimal_by_steps (λ n ds. are_plain ds ≡ true)
    (λ n h. plain-one (48 + n) (plain-digit n h))
    (λ n ds h k. plain-append ds _ k (plain-one (48 + n % 10) (plain-digit (n % 10) (omega arith))))

plain-hundredths : (n : ℕ) → n < 2 ^ 64 → are_plain (hundredths_text n) ≡ true
plain-hundredths n h =
    plain-append (decimal (n / 100)) (two_behind_point n) (plain-decimal (n / 100) (omega arith))
    (and-true _ _ (plain-digit (n / 10 % 10) (omega arith)) (plain-one (last_digit n) (plain-digit (n % 10) (omega arith))))

plain-led : (text : List ℕ) → are_plain text ≡ true → without_leading_space text ≡ text
plain-led [] h = refl
plain-led (c ∷ text) h = ap (λ b. elim b [ true ↦ without_leading_space text | false ↦ c ∷ text ]) (plain-black c (both (is_plain c) (are_plain text) h).0)

plain-more : (xs ys : List ℕ) → are_plain xs ≡ true → are_plain ys ≡ true → are_plain (xs ++ ys) ≡ true
plain-more [] ys h k = k
plain-more (c ∷ xs) ys h k = let w = both (is_plain c) (are_plain xs) h in λ i. w.0 i && plain-more xs ys w.1 k i

plain-back : (text : List ℕ) → are_plain text ≡ true → are_plain (reverse text) ≡ true
plain-back [] h = refl
plain-back (c ∷ text) h =
    let w = both (is_plain c) (are_plain text) h in
    ap are_plain (reverse-append (c ∷ []) text) ∙ plain-more (reverse text) (c ∷ []) (plain-back text w.1) (λ i. w.0 i && true)

plain-trimmed : (text : List ℕ) → are_plain text ≡ true → trimmed text ≡ text
plain-trimmed text h =
    ap (λ t. reverse (without_leading_space (reverse t))) (plain-led text h) ∙
    (ap reverse (plain-led (reverse text) (plain-back text h)) ∙ reverse-reverse text)

-- ---- numbers that are read

-- how printed numbers are read
abbrev pub AreRead : Type 0
AreRead = (s : ScaledDecimal) → IsScaled s → read_scaled (scaled_text s) ≡ Some s

read-scaled : AreRead → (s : ScaledDecimal) → IsScaled s → are_plain (scaled_text s) ≡ true → read_number (scaled_text s) ≡ Ok s.value
unfolding read_decimal
read-scaled law s h plain =
    ap (λ t. formed (option_map (λ (d : ScaledDecimal). d.value) (read_scaled t))) (plain-trimmed (scaled_text s) plain) ∙
    ap (λ o. formed (option_map (λ (d : ScaledDecimal). d.value) o)) (law s h)

pub hundredths-read : AreRead → (n : ℕ) → n < 10 ^ 18 → read_number (scaled_text (hundredths n)) ≡ Ok (pos (n * 10 ^ 16))
hundredths-read law n h =
    read-scaled law (hundredths n) (hundredths-scaled n h) (ap are_plain (hundredths-text n) ∙ plain-hundredths n (omega (arith, h)))

pub ones-read : AreRead → (n : ℕ) → n < 10 ^ 18 → read_number (scaled_text (ones n)) ≡ Ok (pos (n * 10 ^ 18))
ones-read law n h = read-scaled law (ones n) (ones-scaled n h) (ap are_plain (ones-text n) ∙ plain-decimal n (omega (arith, h)))

pub decimal-read : AreRead → (n : ℕ) → n < 10 ^ 18 → read_number (decimal n) ≡ Ok (pos (n * unit))
decimal-read law n h = ap read_number (sym (ones-text n)) ∙ ones-read law n h

-- ---- the product

scaled-product : (q p : ℕ) → q * 10 ^ 18 * (100 * p * 10 ^ 16) / 10 ^ 18 ≡ 100 * (q * p) * 10 ^ 16
scaled-product q p =
    let moved : q * 10 ^ 18 * (100 * p * 10 ^ 16) ≡ 100 * (q * p) * 10 ^ 16 * 10 ^ 18 = shuffled q p (10 ^ 18) (10 ^ 16) in
    ap (λ m. m / 10 ^ 18) moved ∙ mul-div_cancel (100 * (q * p) * 10 ^ 16) {n = 10 ^ 18} (lit< tt)
  where
    shuffled : (q p u v : ℕ) → q * u * (100 * p * v) ≡ 100 * (q * p) * v * u
    shuffled q p u v = grind arith

not-negative : (n : ℕ) → is_negative (pos n) ≡ false
not-negative n = grind (arith, nat_tests)

pub product-is : (q p : ℕ) → q * p < 10 ^ 12 → product_of (pos (q * 10 ^ 18)) (pos (100 * p * 10 ^ 16)) ≡ Ok (pos (100 * (q * p) * 10 ^ 16))
product-is q p h =
    let value : q * 10 ^ 18 * (100 * p * 10 ^ 16) / 10 ^ 18 ≡ 100 * (q * p) * 10 ^ 16 = scaled-product q p in
    let small : q * 10 ^ 18 * (100 * p * 10 ^ 16) / 10 ^ 18 < 10 ^ 36 = subst (λ m. m < 10 ^ 36) (sym value) (few (q * p) h) in
    sym (product_some (pos (q * 10 ^ 18)) (pos (100 * p * 10 ^ 16)) (pos (100 * (q * p) * 10 ^ 16)) (q * 10 ^ 18) (100 * p * 10 ^ 16)
    (100 * (q * p) * 10 ^ 16) false false refl refl (sym (not-negative (q * 10 ^ 18))) (sym (not-negative (100 * p * 10 ^ 16))) (small, sym value) refl)
  where
    few : (m : ℕ) → m < 10 ^ 12 → 100 * m * 10 ^ 16 < 10 ^ 36
    few m k = omega (arith, k)

-- ---- comparisons of numbers

pub equal-itself : (z : ℤ) → is_eq (int_cmp z z) ≡ true
equal-itself z = go (int_cmp z z) (int_cmp_total.antisymm z z)
  where
    go : (o : Ordering) → o ≡ ordering_reverse o → is_eq o ≡ true
    go Less h = absurd (let k : Less ≡ Greater = h in cc)
    go Equal h = refl
    go Greater h = absurd (let k : Greater ≡ Less = h in cc)

pub less-differs : (a b : ℕ) → a < b → is_eq (int_cmp (pos (a * unit)) (pos (b * unit))) ≡ false
less-differs a b h = go (int_cmp (pos (a * unit)) (pos (b * unit)))
    (int_ranked (pos (a * unit)) (pos (b * unit)) (int_cmp (pos (a * unit)) (pos (b * unit))) refl)
  where
    pos-same : (m n : ℕ) → pos m ≡ pos n → m ≡ n
    pos-same m n e = cc

    go : (o : Ordering) → MatchOrdering o (pos (a * unit) <ℤ pos (b * unit)) (pos (a * unit) ≡ pos (b * unit)) (pos (b * unit) <ℤ pos (a * unit)) →
        is_eq o ≡ false
    go Less w = refl
    go Equal w = absurd (let e = pos-same (a * unit) (b * unit) w in omega (arith, e, h))
    go Greater w = refl
