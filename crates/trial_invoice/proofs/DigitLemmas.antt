-- Digits and points are characters of XML, and none is white space.
use Rattle.std.proofs.Common.{◌≡◌, ℕ, ◌+◌, ◌/◌, ◌%◌, ◌^◌, ◌<◌, ◌≤◌, Bool, true, false, ◌&&◌, List, [], ◌∷◌, ◌++◌, refl, arith}
use Rattle.std.specs.Prelude.{decimal, nat_le}
use Rattle.std.specs.List.{list_all}
use Rattle.std.proofs.lemmas.Bool.Decides.{nat_tests}
use Rattle.std.proofs.lemmas.Bool.{leb-true, le-leb}
use Rattle.std.proofs.lemmas.Fmt.{decimal_by_steps}
use Rattle.inv_base.specs.Characters.{is_char, is_white_space}
use Rattle.trial_invoice.specs.Written.{hundredths_text, two_behind_point, last_digit}

-- a digit, a point or a slash
abbrev pub is_plain : ℕ → Bool
is_plain c = nat_le 46 c && nat_le c 57

abbrev pub are_plain : List ℕ → Bool
are_plain text = list_all is_plain text

pub both : (a b : Bool) → (a && b) ≡ true → (a ≡ true) × (b ≡ true)
both true b e = (refl, e)
both false b e = cc

and-true : (a b : Bool) → a ≡ true → b ≡ true → (a && b) ≡ true
and-true a b h k = cc

plain-between : (c : ℕ) → 46 ≤ c → c ≤ 57 → is_plain c ≡ true
plain-between c low high = and-true _ _ (le-leb 46 c low) (le-leb c 57 high)

pub between : (c : ℕ) → is_plain c ≡ true → (46 ≤ c) × (c ≤ 57)
between c h = let parts = both (nat_le 46 c) (nat_le c 57) h in (leb-true 46 c parts.0, leb-true c 57 parts.1)

pub plain-char : (c : ℕ) → is_plain c ≡ true → is_char c ≡ true
unfolding is_char
plain-char c h = let b = between c h in let low : 46 ≤ c = b.0 in let high : c ≤ 57 = b.1 in grind (arith, nat_tests)

pub plain-black : (c : ℕ) → is_plain c ≡ true → is_white_space c ≡ false
unfolding is_white_space
plain-black c h = let b = between c h in let low : 46 ≤ c = b.0 in let high : c ≤ 57 = b.1 in grind (arith, nat_tests)

pub plain-append : (xs ys : List ℕ) → are_plain xs ≡ true → are_plain ys ≡ true → are_plain (xs ++ ys) ≡ true
plain-append [] ys h k = k
plain-append (x ∷ xs) ys h k = let parts = both (is_plain x) (are_plain xs) h in and-true _ _ parts.0 (plain-append xs ys parts.1 k)

plain-digit : (n : ℕ) → n < 10 → is_plain (48 + n) ≡ true
plain-digit n h = plain-between (48 + n) (omega arith) (omega arith)

plain-one : (c : ℕ) → is_plain c ≡ true → are_plain (c ∷ []) ≡ true
plain-one c h = and-true _ _ h refl

pub plain-decimal : (n : ℕ) → n < 2 ^ 64 → are_plain (decimal n) ≡ true
plain-decimal = decimal_by_steps (λ n ds. are_plain ds ≡ true)
    (λ n h. plain-one (48 + n) (plain-digit n h))
    (λ n ds h k. plain-append ds _ k (plain-one (48 + n % 10) (plain-digit (n % 10) (omega arith))))

pub plain-hundredths : (n : ℕ) → n < 2 ^ 64 → are_plain (hundredths_text n) ≡ true
plain-hundredths n h =
    plain-append (decimal (n / 100)) (two_behind_point n) (plain-decimal (n / 100) (omega arith))
    (and-true _ _ (plain-digit (n / 10 % 10) (omega arith)) (plain-one (last_digit n) (plain-digit (n % 10) (omega arith))))

-- ---- texts of them

pub plain-chars : (text : List ℕ) → are_plain text ≡ true → list_all is_char text ≡ true
plain-chars [] h = refl
plain-chars (c ∷ text) h = let parts = both (is_plain c) (are_plain text) h in and-true _ _ (plain-char c parts.0) (plain-chars text parts.1)
