-- Words of ASCII, and texts judged character by character.
use Rattle.std.proofs.Common.{◌≡◌, ℕ, suc, ◌+◌, ◌<◌, ◌≤◌, ◌&&◌, ◌||◌, Bool, true, false, List, [], ◌∷◌, length, drop, get_or, refl, ap, sym, ◌∙◌, arith, inl}
use Rattle.std.proofs.Common.{inr, ◌⊎◌}
use Rattle.std.specs.Prelude.{nat_lt, nat_le}
use Rattle.std.specs.List.{list_all}
use Rattle.std.specs.Str.{chars, IsAscii}
use Rattle.std.proofs.lemmas.Bool.{ltb-true, ltb-false}
use Rattle.std.proofs.lemmas.Bool.Decides.{nat_tests}
use Rattle.std.proofs.lemmas.List.{at_drop_more, at_drop_all}
use Rattle.std.proofs.lemmas.Str.{chars-IsAscii}
use Rattle.std.proofs.lemmas.Str.Ascii.{IsAscii-nil, IsAscii-cons}
use Rattle.bind_meaning.specs.Writing.{is_iban, is_upper, is_digit}
use Rattle.bind_write.specs.Wordings.{fits_iban, iban_from}

both : (a b : Bool) → (a && b) ≡ true → (a ≡ true) × (b ≡ true)
both true b e = (refl, e)
both false b e = cc

pub ascii : (bytes : List ℕ) → list_all (λ b. nat_lt b 128) bytes ≡ true → IsAscii bytes
ascii [] e = IsAscii-nil
ascii (b ∷ bytes) e = let parts = both (nat_lt b 128) (list_all (λ b. nat_lt b 128) bytes) e in
    IsAscii-cons b bytes (ltb-true b 128 parts.0) (ascii bytes parts.1)

pub chars-word : (bytes : List ℕ) → list_all (λ b. nat_lt b 128) bytes ≡ true → chars bytes ≡ bytes
chars-word bytes e = chars-IsAscii bytes (ascii bytes e)

bool_cases : (b : Bool) → (b ≡ true) ⊎ (b ≡ false)
bool_cases true = inl refl
bool_cases false = inr refl

-- ---- account numbers

and_false : (a : Bool) → (a && false) ≡ false
and_false true = refl
and_false false = refl

abbrev alnum : ℕ → Bool
alnum c = is_upper c || is_digit c

fits-far : (n c : ℕ) → n < 30 → fits_iban (4 + n) c ≡ alnum c
fits-far n c h = grind (arith, nat_tests)

fits-past : (n c : ℕ) → 30 ≤ n → fits_iban (4 + n) c ≡ false
fits-past n c h = grind (arith, nat_tests)

tail-end : (n : ℕ) → n ≤ 30 → nat_le 15 (4 + n) ≡ (nat_le 11 (n + 0) && nat_le (n + 0) 30)
tail-end n h = grind (arith, nat_tests)

tail-more : (n len : ℕ) (a b : Bool) → ((a && b) && (nat_le 11 (n + suc len) && nat_le (n + suc len) 30)) ≡ (a &&
    (b && (nat_le 11 ((n + 1) + len) && nat_le ((n + 1) + len) 30)))
tail-more n len true b = ap (λ x. b && (nat_le 11 x && nat_le x 30)) (let e : n + suc len ≡ (n + 1) + len = omega arith in e)
tail-more n len false b = refl

too_long : (n len : ℕ) (b : Bool) → 30 ≤ n → (b && (nat_le 11 (n + suc len) && nat_le (n + suc len) 30)) ≡ false
too_long n len true h = grind (arith, nat_tests)
too_long n len false h = refl

iban-tail : (text : List ℕ) (n : ℕ) → n ≤ 30 → iban_from (4 + n) text ≡ (list_all alnum text && (nat_le 11 (n + length text) && nat_le (n + length text) 30))
iban-tail [] n h = tail-end n h
iban-tail (c ∷ text) n h = elim (bool_cases (nat_lt n 30)) [
  | inl is ↦ let less = ltb-true n 30 is in ap (λ x. x && iban_from (4 + n + 1) text) (fits-far n c less)
      ∙ (ap (λ x. alnum c && iban_from x text) (let e : 4 + n + 1 ≡ 4 + (n + 1) = omega arith in e)
      ∙ (ap (λ x. alnum c && x) (iban-tail text (n + 1) (omega arith)) ∙ sym (tail-more n (length text) (alnum c) (list_all alnum text))))
  | inr is ↦ let more : 30 ≤ n = ltb-false n 30 is in ap (λ x. x && iban_from (4 + n + 1) text) (fits-past n c more) ∙
      sym (too_long n (length text) (alnum c && list_all alnum text) more)
]

short3 : (a b c : Bool) → (a && (b && (c && false))) ≡ false
short3 true true true = refl
short3 true true false = refl
short3 true false c = refl
short3 false b c = refl

regroup4 : (a b c d e : Bool) → (a && (b && (c && (d && e)))) ≡ ((a && b) && ((c && d) && e))
regroup4 true true true true e = refl
regroup4 true true true false e = refl
regroup4 true true false d e = refl
regroup4 true false c d e = refl
regroup4 false b c d e = refl

pub iban-whole : (text : List ℕ) → iban_from 0 text ≡ is_iban text
iban-whole [] = refl
iban-whole (a ∷ []) = and_false (is_upper a)
iban-whole (a ∷ (b ∷ [])) = short3 true (is_upper a) (is_upper b)
iban-whole (a ∷ (b ∷ (c ∷ []))) = short3 (is_upper a) (is_upper b) (is_digit c)
iban-whole (a ∷ (b ∷ (c ∷ (d ∷ rest)))) =
    ap (λ x. is_upper a && (is_upper b && (is_digit c && (is_digit d && x))))
    (iban-tail rest 0 (omega arith) ∙ ap (λ n. list_all alnum rest && (nat_le 11 n && nat_le n 30)) (let e : 0 + length rest ≡ length rest = omega arith in
    e))
    ∙ regroup4 (is_upper a) (is_upper b) (is_digit c) (is_digit d) (list_all alnum rest && (nat_le 11 (length rest) && nat_le (length rest) 30))

pub iban-turn : (text : List ℕ) (n c place : ℕ) → (n < length text) × (c ≡ get_or text n c) →
    iban_from place (drop n text) ≡ (fits_iban place c && iban_from (place + 1) (drop (n + 1) text))
iban-turn text n c place h = at_drop_more (iban_from place) text n c h.0 ∙ ap (λ x. fits_iban place x && iban_from (place + 1) (drop (n + 1) text)) (sym h.1)

pub iban-end : (text : List ℕ) (n place : ℕ) → length text ≤ n → iban_from place (drop n text) ≡ nat_le 15 place
iban-end text n place h = at_drop_all (iban_from place) text n h

pub fits-bound : (place c : ℕ) → fits_iban place c ≡ true → place < 34
fits-bound place c e = grind (arith, nat_tests)
