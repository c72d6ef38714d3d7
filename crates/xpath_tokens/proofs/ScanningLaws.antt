-- Going forward once finds the longest front of each form.
use Rattle.std.proofs.Common.{◌≡◌, ℕ, ◌+◌, Bool, true, false, cond, ◌||◌, eqb, List, [], ◌∷◌, Option, Some, None, drop, refl, sym, ap, ◌∙◌, arith, inl, inr}
use Rattle.std.proofs.Common.{subst}
use Rattle.std.specs.List.{prefix_len}
use Rattle.std.proofs.lemmas.Bool.{cases_Bool}
use Rattle.inv_base.specs.Characters.{is_name_start, is_name_char}
use Rattle.xpath_tokens.specs.Longest.{one_longer, longest, nothing, one_then, many_then, some_then}
use Rattle.xpath_tokens.specs.Words.{ncname_then, char_then, is_local_part, is_name, is_digit, is_exponent_mark, is_sign, is_exponent_part, is_number, closes}
use Rattle.xpath_tokens.specs.Words.{is_string, is_sign_of_one, is_sign_of_two, is_symbol, is_word}
use Rattle.xpath_tokens.specs.Scanning.{later, behind, ncname_at, local_at, local_part_at, any_prefix_at, or_more, prefixed_at, name_at, digits_at}
use Rattle.xpath_tokens.specs.Scanning.{signed_digits_at, exponent_at, with_exponent, number_rest_at, number_at, string_at, symbol_at, word_at}
use Rattle.xpath_tokens.proofs.LongestLaws.{longest-false, longest-nothing, longest-one_then, longest-many_then, longest-or, drop-one_more}

-- a character that passes is none that doesn't
apart : (test : ℕ → Bool) (k c : ℕ) → test k ≡ false → test c ≡ true → eqb c k ≡ false
apart test k c fails passes = elim (cases_Bool (eqb c k)) [ inr e ↦ e | inl e ↦ absurd (differs (same c k e)) ] where
  same : (c k : ℕ) → eqb c k ≡ true → c ≡ k
  same c k e = search arith

  differs : c ≡ k → ⊥
  differs e = let h : test c ≡ false = ap test e ∙ fails in cc

-- NCName

longest-ncname : (form : List ℕ → Bool) → ((c : ℕ) (text : List ℕ) → is_name_char c ≡ true → form (c ∷ text) ≡ false)
    → (c : ℕ) (text : List ℕ) → longest (ncname_then form) (c ∷ text) ≡ cond (is_name_start c)
    (behind 1 (behind (prefix_len is_name_char text) (longest form (drop (prefix_len is_name_char text) text)))) None
longest-ncname form guard c text = longest-one_then is_name_start (many_then is_name_char form) c text
    ∙ ap (λ x. cond (is_name_start c) (behind 1 x) None) (longest-many_then is_name_char form guard text)

longest-ncname_at : (text : List ℕ) → longest (ncname_then nothing) text ≡ ncname_at text
unfolding longest ncname_at
longest-ncname_at [] = refl
longest-ncname_at (c ∷ text) = longest-ncname nothing (λ d rest h. refl) c text
    ∙ ap (λ x. cond (is_name_start c) (behind 1 (behind (prefix_len is_name_char text) x)) None) (longest-nothing (drop (prefix_len is_name_char text) text))
    ∙ by_cases (is_name_start c) where
      by_cases : (b : Bool) → cond b (behind 1 (behind (prefix_len is_name_char text) (Some 0))) None ≡ cond b (Some (1 + prefix_len is_name_char text)) None
      by_cases true = ap Some (omega arith)
      by_cases false = refl

-- names

longest-char_then : (k : ℕ) (form : List ℕ → Bool) (c : ℕ) (text : List ℕ) →
    longest (char_then k form) (c ∷ text) ≡ cond (eqb c k) (behind 1 (longest form text)) None
longest-char_then k form c text = longest-one_then (λ d. eqb d k) form c text

later-None : (x : Option ℕ) → later x None ≡ x
later-None None = refl
later-None (Some n) = refl

later-zero : (x : Option ℕ) → later (Some 0) x ≡ Some (or_more 0 x)
later-zero None = refl
later-zero (Some n) = ap Some (omega arith)

or_more-add : (m n : ℕ) (x : Option ℕ) → m + or_more n x ≡ or_more (m + n) x
or_more-add m n None = refl
or_more-add m n (Some k) = omega arith

-- two tests that nothing passes together
disjoint : (p q : ℕ → Bool) (c : ℕ) → (p c ≡ true → q c ≡ false) → q c ≡ true → p c ≡ false
disjoint p q c h e = elim (cases_Bool (p c)) [ inr f ↦ f | inl f ↦ absurd (let g : q c ≡ false = h f in cc) ]

local_form : List ℕ → Bool
local_form text = ncname_then nothing text || char_then 42 nothing text

start-star : (c : ℕ) → is_name_start c ≡ true → eqb c 42 ≡ false
unfolding is_name_start
start-star c e = apart is_name_start 42 c refl e

name_char-colon : (c : ℕ) → is_name_char c ≡ true → eqb c 58 ≡ false
unfolding is_name_char is_name_start
name_char-colon c e = apart is_name_char 58 c refl e

longest-local : (text : List ℕ) → longest (λ rest. ncname_then nothing rest || char_then 42 nothing rest) text ≡ local_at text
unfolding longest local_at ncname_at
longest-local [] = refl
longest-local (c ∷ text) = longest-or (ncname_then nothing) (char_then 42 nothing) (c ∷ text)
    ∙ ap (λ x. later x (longest (char_then 42 nothing) (c ∷ text))) (longest-ncname_at (c ∷ text))
    ∙ ap (later (ncname_at (c ∷ text))) (longest-char_then 42 nothing c text ∙ ap (λ x. cond (eqb c 42) (behind 1 x) None) (longest-nothing text))
    ∙ by_cases (is_name_start c) (eqb c 42) (start-star c) where
      by_cases : (s b : Bool) → (s ≡ true → b ≡ false) → later (cond s (Some (1 + prefix_len is_name_char text)) None) (cond b (Some 1) None) ≡ cond b (Some 1)
          (cond s (Some (1 + prefix_len is_name_char text)) None)
      by_cases true true h = absurd (let e : true ≡ false = h refl in cc)
      by_cases true false h = refl
      by_cases false true h = refl
      by_cases false false h = refl

longest-local_part : (text : List ℕ) → longest is_local_part text ≡ Some (or_more 0 (local_part_at text))
unfolding longest local_part_at
longest-local_part [] = refl
longest-local_part (c ∷ text) = longest-or nothing (char_then 58 (λ rest. ncname_then nothing rest || char_then 42 nothing rest)) (c ∷ text)
    ∙ ap (λ x. later x (longest (char_then 58 (λ rest. ncname_then nothing rest || char_then 42 nothing rest)) (c ∷ text))) (longest-nothing (c ∷ text))
    ∙ ap (later (Some 0)) (longest-char_then 58 (λ rest. ncname_then nothing rest || char_then 42 nothing rest) c text ∙
    ap (λ x. cond (eqb c 58) (behind 1 x) None) (longest-local text))
    ∙ later-zero (cond (eqb c 58) (behind 1 (local_at text)) None)

longest-any_prefix : (text : List ℕ) → longest (char_then 58 (ncname_then nothing)) text ≡ any_prefix_at text
unfolding longest any_prefix_at
longest-any_prefix [] = refl
longest-any_prefix (c ∷ text) = longest-char_then 58 (ncname_then nothing) c text ∙ ap (λ x. cond (eqb c 58) (behind 1 x) None) (longest-ncname_at text)

local_part-apart : (c : ℕ) (text : List ℕ) → is_name_char c ≡ true → is_local_part (c ∷ text) ≡ false
local_part-apart c text e = ap (λ b. elim b [ true ↦ ncname_then nothing text || char_then 42 nothing text | false ↦ false ]) (name_char-colon c e)

pub longest-name : (text : List ℕ) → longest is_name text ≡ name_at text
unfolding longest name_at prefixed_at ncname_at
longest-name [] = refl
longest-name (c ∷ text) = longest-or (ncname_then is_local_part) (char_then 42 (char_then 58 (ncname_then nothing))) (c ∷ text)
    ∙ ap (λ x. later x (longest (char_then 42 (char_then 58 (ncname_then nothing))) (c ∷ text)))
    (longest-ncname is_local_part local_part-apart c text ∙ ap (λ x. cond (is_name_start c) (behind 1 (behind n x)) None) (longest-local_part (drop n text)))
    ∙ ap (later (cond (is_name_start c) (Some (1 + (n + or_more 0 (local_part_at (drop n text))))) None))
    (longest-char_then 42 (char_then 58 (ncname_then nothing)) c text ∙ ap (λ x. cond (eqb c 42) (behind 1 x) None) (longest-any_prefix text))
    ∙ by_cases (is_name_start c) (eqb c 42) (any_prefix_at text) (start-star c) where
      n : ℕ
      n = prefix_len is_name_char text

      same : 1 + (n + or_more 0 (local_part_at (drop n text))) ≡ or_more (1 + n) (local_part_at (drop (1 + n) (c ∷ text)))
      same = ap (λ m. 1 + m) (or_more-add n 0 (local_part_at (drop n text))) ∙ or_more-add 1 (n + 0) (local_part_at (drop n text))
          ∙ (let e : 1 + (n + 0) ≡ 1 + n = omega arith in ap (λ m. or_more m (local_part_at (drop n text))) e)
          ∙ ap (λ rest. or_more (1 + n) (local_part_at rest)) (sym (drop-one_more n c text))

      by_cases : (s b : Bool) (x : Option ℕ) → (s ≡ true → b ≡ false)
          → later (cond s (Some (1 + (n + or_more 0 (local_part_at (drop n text))))) None) (cond b (behind 1 x) None)
          ≡ cond b (behind 1 x) (prefixed_at (cond s (Some (1 + n)) None) (c ∷ text))
      by_cases true true x h = absurd (let e : true ≡ false = h refl in cc)
      by_cases true false x h = ap Some same
      by_cases false true x h = refl
      by_cases false false x h = refl

-- numbers

mark-digit : (c : ℕ) → is_digit c ≡ true → is_exponent_mark c ≡ false
mark-digit c e = rw (apart is_digit 101 c refl e, apart is_digit 69 c refl e) refl

sign-digit : (c : ℕ) → is_digit c ≡ true → is_sign c ≡ false
sign-digit c e = rw (apart is_digit 43 c refl e, apart is_digit 45 c refl e) refl

mark-point : (c : ℕ) → eqb c 46 ≡ true → is_exponent_mark c ≡ false
mark-point c e = rw (apart (λ d. eqb d 46) 101 c refl e, apart (λ d. eqb d 46) 69 c refl e) refl

longest-some_digits : (form : List ℕ → Bool) → ((c : ℕ) (text : List ℕ) → is_digit c ≡ true → form (c ∷ text) ≡ false)
    → (c : ℕ) (text : List ℕ) → longest (some_then is_digit form) (c ∷ text) ≡ cond (is_digit c)
    (behind 1 (behind (prefix_len is_digit text) (longest form (drop (prefix_len is_digit text) text)))) None
longest-some_digits form guard c text = longest-one_then is_digit (many_then is_digit form) c text
    ∙ ap (λ x. cond (is_digit c) (behind 1 x) None) (longest-many_then is_digit form guard text)

-- none where there are no digits
where_some : ℕ → Option ℕ → Option ℕ
where_some n x = cond (eqb n 0) None x

suc-zero : (n : ℕ) → eqb (1 + n) 0 ≡ false
suc-zero n = search arith

longest-digits : (text : List ℕ) → longest (some_then is_digit nothing) text ≡ digits_at text
unfolding longest digits_at
longest-digits [] = refl
longest-digits (c ∷ text) = longest-some_digits nothing (λ d rest h. refl) c text
    ∙ ap (λ x. cond (is_digit c) (behind 1 (behind n x)) None) (longest-nothing (drop n text))
    ∙ by_cases (is_digit c) where
      n : ℕ
      n = prefix_len is_digit text

      by_cases : (b : Bool) → cond b (behind 1 (behind n (Some 0))) None ≡ cond (eqb (cond b (1 + n) 0) 0) None (Some (cond b (1 + n) 0))
      by_cases true = rw (suc-zero n) (ap Some (omega arith))
      by_cases false = refl

longest-signed_digits : (text : List ℕ) → longest (λ digits. some_then is_digit nothing digits || one_then is_sign (some_then is_digit nothing) digits)
    text ≡ signed_digits_at text
unfolding longest signed_digits_at digits_at
longest-signed_digits [] = refl
longest-signed_digits (c ∷ text) = longest-or (some_then is_digit nothing) (one_then is_sign (some_then is_digit nothing)) (c ∷ text)
    ∙ ap (λ x. later x (longest (one_then is_sign (some_then is_digit nothing)) (c ∷ text))) (longest-digits (c ∷ text))
    ∙ ap (later (digits_at (c ∷ text))) (longest-one_then is_sign (some_then is_digit nothing) c text ∙
    ap (λ x. cond (is_sign c) (behind 1 x) None) (longest-digits text))
    ∙ by_cases (is_digit c) (is_sign c) (digits_at text) (sign-digit c) where
      n : ℕ
      n = prefix_len is_digit text

      by_cases : (d s : Bool) (x : Option ℕ) → (d ≡ true → s ≡ false)
          → later (cond (eqb (cond d (1 + n) 0) 0) None (Some (cond d (1 + n) 0))) (cond s (behind 1 x) None)
          ≡ cond s (behind 1 x) (cond (eqb (cond d (1 + n) 0) 0) None (Some (cond d (1 + n) 0)))
      by_cases true true x h = absurd (let e : true ≡ false = h refl in cc)
      by_cases true false x h = later-None _
      by_cases false true x h = refl
      by_cases false false x h = refl

longest-exponent : (text : List ℕ) → longest is_exponent_part text ≡ Some (or_more 0 (exponent_at text))
unfolding longest exponent_at
longest-exponent [] = refl
longest-exponent (c ∷ text) = longest-or nothing
    (one_then is_exponent_mark (λ digits. some_then is_digit nothing digits || one_then is_sign (some_then is_digit nothing) digits)) (c ∷ text)
    ∙ ap (λ x. later x (longest (one_then is_exponent_mark (λ digits. some_then is_digit nothing digits ||
    one_then is_sign (some_then is_digit nothing) digits)) (c ∷ text))) (longest-nothing (c ∷ text))
    ∙ ap (later (Some 0)) (longest-one_then is_exponent_mark (λ digits. some_then is_digit nothing digits ||
    one_then is_sign (some_then is_digit nothing) digits) c text
    ∙ ap (λ x. cond (is_exponent_mark c) (behind 1 x) None) (longest-signed_digits text))
    ∙ later-zero (cond (is_exponent_mark c) (behind 1 (signed_digits_at text)) None)

exponent-apart : (c : ℕ) (text : List ℕ) → is_digit c ≡ true → is_exponent_part (c ∷ text) ≡ false
exponent-apart c text e = ap (λ b. elim b [ true ↦ some_then is_digit nothing text || one_then is_sign (some_then is_digit nothing) text | false ↦ false ])
    (mark-digit c e)

longest-many_digits : (text : List ℕ) → longest (many_then is_digit is_exponent_part) text ≡ Some (with_exponent (prefix_len is_digit text) text)
unfolding with_exponent
longest-many_digits text = longest-many_then is_digit is_exponent_part exponent-apart text
    ∙ ap (behind (prefix_len is_digit text)) (longest-exponent (drop (prefix_len is_digit text) text))
    ∙ ap Some (or_more-add (prefix_len is_digit text) 0 _ ∙ ap (λ m. or_more m (exponent_at (drop (prefix_len is_digit text) text)))
    (let e : prefix_len is_digit text + 0 ≡ prefix_len is_digit text = omega arith in e))

-- what stands behind the digits at the front of a number
rest_form : List ℕ → Bool
rest_form rest = is_exponent_part rest || char_then 46 (many_then is_digit is_exponent_part) rest

after_whole : List ℕ → ℕ
after_whole [] = 0
after_whole (c ∷ text) = cond (eqb c 46) (1 + with_exponent (prefix_len is_digit text) text) (or_more 0 (exponent_at (c ∷ text)))

longest-rest : (text : List ℕ) → longest (λ rest. is_exponent_part rest || char_then 46 (many_then is_digit is_exponent_part) rest) text ≡ Some
    (after_whole text)
unfolding longest after_whole exponent_at
longest-rest [] = refl
longest-rest (c ∷ text) = longest-or is_exponent_part (char_then 46 (many_then is_digit is_exponent_part)) (c ∷ text)
    ∙ ap (λ x. later x (longest (char_then 46 (many_then is_digit is_exponent_part)) (c ∷ text))) (longest-exponent (c ∷ text))
    ∙ ap (later (Some (or_more 0 (exponent_at (c ∷ text))))) (longest-char_then 46 (many_then is_digit is_exponent_part) c text ∙
    ap (λ x. cond (eqb c 46) (behind 1 x) None) (longest-many_digits text))
    ∙ by_cases (is_exponent_mark c) (eqb c 46) (mark-point c) where
      w : ℕ
      w = with_exponent (prefix_len is_digit text) text

      by_cases : (m p : Bool) → (p ≡ true → m ≡ false)
          → later (Some (or_more 0 (cond m (behind 1 (signed_digits_at text)) None))) (cond p (behind 1 (Some w)) None)
          ≡ Some (cond p (1 + w) (or_more 0 (cond m (behind 1 (signed_digits_at text)) None)))
      by_cases true true h = absurd (let e : true ≡ false = h refl in cc)
      by_cases true false h = refl
      by_cases false true h = ap Some (omega arith)
      by_cases false false h = refl

rest-apart : (c : ℕ) (text : List ℕ) → is_digit c ≡ true →
    (is_exponent_part (c ∷ text) || char_then 46 (many_then is_digit is_exponent_part) (c ∷ text)) ≡ false
rest-apart c text e = ap (λ b. b || char_then 46 (many_then is_digit is_exponent_part) (c ∷ text)) (exponent-apart c text e)
    ∙ ap (λ b. elim b [ true ↦ many_then is_digit is_exponent_part text | false ↦ false ]) (apart is_digit 46 c refl e)

-- a fraction with no digit before the point
longest-fraction : (text : List ℕ) → longest (some_then is_digit is_exponent_part) text ≡ where_some (prefix_len is_digit text)
    (Some (with_exponent (prefix_len is_digit text) text))
unfolding longest where_some with_exponent
longest-fraction [] = refl
longest-fraction (c ∷ text) = longest-some_digits is_exponent_part exponent-apart c text
    ∙ ap (λ x. cond (is_digit c) (behind 1 (behind n x)) None) (longest-exponent (drop n text))
    ∙ by_cases (is_digit c) where
      n : ℕ
      n = prefix_len is_digit text

      same : 1 + (n + or_more 0 (exponent_at (drop n text))) ≡ or_more (1 + n) (exponent_at (drop (1 + n) (c ∷ text)))
      same = ap (λ m. 1 + m) (or_more-add n 0 (exponent_at (drop n text))) ∙ or_more-add 1 (n + 0) (exponent_at (drop n text))
          ∙ (let e : 1 + (n + 0) ≡ 1 + n = omega arith in ap (λ m. or_more m (exponent_at (drop n text))) e)
          ∙ ap (λ rest. or_more (1 + n) (exponent_at rest)) (sym (drop-one_more n c text))

      by_cases : (b : Bool) → cond b (behind 1 (behind n (Some (or_more 0 (exponent_at (drop n text)))))) None
          ≡ cond (eqb (cond b (1 + n) 0) 0) None (Some (or_more (cond b (1 + n) 0) (exponent_at (drop (cond b (1 + n) 0) (c ∷ text)))))
      by_cases true = rw (suc-zero n) (ap Some same)
      by_cases false = refl

sum-zero : (m k : ℕ) → eqb (1 + m + k) 0 ≡ false
sum-zero m k = search arith

number_rest_some : (n : ℕ) (rest : List ℕ) → number_rest_at (1 + n) rest ≡ Some (1 + (n + after_whole rest))
unfolding number_rest_at after_whole
number_rest_some n [] = rw (suc-zero n) (ap Some (omega arith))
number_rest_some n (c ∷ text) = rw (suc-zero n, sum-zero n (prefix_len is_digit text)) (by_cases (eqb c 46)) where
  by_cases : (b : Bool) → cond b (Some (1 + n + (1 + with_exponent (prefix_len is_digit text) text))) (Some (or_more (1 + n) (exponent_at (c ∷ text))))
      ≡ Some (1 + (n + cond b (1 + with_exponent (prefix_len is_digit text) text) (or_more 0 (exponent_at (c ∷ text)))))
  by_cases true = ap Some (omega arith)
  by_cases false = ap Some (sym (ap (λ m. 1 + m) (or_more-add n 0 (exponent_at (c ∷ text))) ∙ or_more-add 1 (n + 0) (exponent_at (c ∷ text))
      ∙ (let e : 1 + (n + 0) ≡ 1 + n = omega arith in ap (λ m. or_more m (exponent_at (c ∷ text))) e)))

number_rest_none : (c : ℕ) (text : List ℕ) → number_rest_at 0 (c ∷ text) ≡ cond (eqb c 46)
    (behind 1 (where_some (prefix_len is_digit text) (Some (with_exponent (prefix_len is_digit text) text)))) None
unfolding number_rest_at where_some
number_rest_none c text = by_cases (eqb c 46) (prefix_len is_digit text) (with_exponent (prefix_len is_digit text) text) where
  inner : (b : Bool) (w : ℕ) → cond b None (Some (0 + (1 + w))) ≡ behind 1 (cond b None (Some w))
  inner true w = refl
  inner false w = ap Some (omega arith)

  by_cases : (b : Bool) (p w : ℕ) → cond b (cond (eqb (0 + p) 0) None (Some (0 + (1 + w)))) None ≡ cond b (behind 1 (cond (eqb p 0) None (Some w))) None
  by_cases true p w = let e : 0 + p ≡ p = omega arith in rw e (inner (eqb p 0) w)
  by_cases false p w = refl

pub longest-number : (text : List ℕ) → longest is_number text ≡ number_at text
unfolding longest number_at number_rest_at
longest-number [] = refl
longest-number (c ∷ text) = longest-or (some_then is_digit (λ rest. is_exponent_part rest || char_then 46 (many_then is_digit is_exponent_part) rest))
    (char_then 46 (some_then is_digit is_exponent_part)) (c ∷ text)
    ∙ ap (λ x. later x (longest (char_then 46 (some_then is_digit is_exponent_part)) (c ∷ text)))
    (longest-some_digits (λ rest. is_exponent_part rest || char_then 46 (many_then is_digit is_exponent_part) rest) rest-apart c text
    ∙ ap (λ x. cond (is_digit c) (behind 1 (behind n x)) None) (longest-rest (drop n text)))
    ∙ ap (later (cond (is_digit c) (behind 1 (behind n (Some (after_whole (drop n text))))) None))
    (longest-char_then 46 (some_then is_digit is_exponent_part) c text ∙ ap (λ x. cond (eqb c 46) (behind 1 x) None) (longest-fraction text))
    ∙ by_cases (is_digit c) (λ e. apart is_digit 46 c refl e) where
      n : ℕ
      n = prefix_len is_digit text

      fraction : Option ℕ
      fraction = where_some n (Some (with_exponent n text))

      by_cases : (d : Bool) → (d ≡ true → eqb c 46 ≡ false)
          → later (cond d (behind 1 (behind n (Some (after_whole (drop n text))))) None) (cond (eqb c 46) (behind 1 fraction) None)
          ≡ number_rest_at (cond d (1 + n) 0) (drop (cond d (1 + n) 0) (c ∷ text))
      by_cases true h = rw (h refl) (sym (ap (number_rest_at (1 + n)) (drop-one_more n c text) ∙ number_rest_some n (drop n text)))
      by_cases false h = sym (number_rest_none c text)

-- strings

pub longest-string : (text : List ℕ) → longest is_string text ≡ string_at text
unfolding longest string_at
longest-string [] = refl
longest-string (c ∷ text) = longest-or (char_then 34 (closes 34 false)) (char_then 39 (closes 39 false)) (c ∷ text)
    ∙ ap (λ x. later x (longest (char_then 39 (closes 39 false)) (c ∷ text))) (longest-char_then 34 (closes 34 false) c text)
    ∙ ap (later (cond (eqb c 34) (behind 1 (longest (closes 34 false) text)) None)) (longest-char_then 39 (closes 39 false) c text)
    ∙ elim (cases_Bool (eqb c 34)) [
      | inl e ↦ double (equal c 34 e)
      | inr e ↦ elim (cases_Bool (eqb c 39)) [ inl f ↦ single (equal c 39 f) | inr f ↦ rw (e, f) refl ]
    ] where
      both : ℕ → Option ℕ
      both c = later (cond (eqb c 34) (behind 1 (longest (closes 34 false) text)) None) (cond (eqb c 39) (behind 1 (longest (closes 39 false) text)) None)

      equal : (c k : ℕ) → eqb c k ≡ true → c ≡ k
      equal c k e = search arith

      Goal : ℕ → Type 0
      Goal c = both c ≡ cond (eqb c 34 || eqb c 39) (behind 1 (longest (closes c false) text)) None

      double : c ≡ 34 → Goal c
      double e = subst Goal (sym e) (later-None _)

      single : c ≡ 39 → Goal c
      single e = subst Goal (sym e) refl

-- signs

pub longest-symbol : (text : List ℕ) → longest is_symbol text ≡ symbol_at text
unfolding longest symbol_at is_symbol
longest-symbol [] = refl
longest-symbol (c ∷ []) = by_cases (is_sign_of_one c) where
  by_cases : (b : Bool) → one_longer (one_longer None b) false ≡ cond b (Some 1) None
  by_cases true = refl
  by_cases false = refl
longest-symbol (c ∷ d ∷ []) = by_cases (is_sign_of_two (c ∷ d ∷ [])) (is_sign_of_one c) where
  by_cases : (a b : Bool) → one_longer (one_longer (one_longer None a) b) false ≡ cond a (Some 2) (cond b (Some 1) None)
  by_cases true b = refl
  by_cases false true = refl
  by_cases false false = refl
longest-symbol (c ∷ d ∷ e ∷ text) = ap (λ x. one_longer (one_longer (one_longer x (is_sign_of_two (c ∷ d ∷ []))) (is_sign_of_one c)) false) (longest-false text)
    ∙ by_cases (is_sign_of_two (c ∷ d ∷ [])) (is_sign_of_one c) where
      by_cases : (a b : Bool) → one_longer (one_longer (one_longer None a) b) false ≡ cond a (Some 2) (cond b (Some 1) None)
      by_cases true b = refl
      by_cases false true = refl
      by_cases false false = refl

-- the longest word
pub longest-word : (text : List ℕ) → longest is_word text ≡ word_at text
unfolding word_at
longest-word text = longest-or is_symbol (λ rest. is_name rest || (is_number rest || is_string rest)) text
    ∙ ap (later (longest is_symbol text)) (longest-or is_name (λ rest. is_number rest || is_string rest) text
    ∙ ap (later (longest is_name text)) (longest-or is_number is_string text))
    ∙ rw (longest-symbol text, longest-name text, longest-number text, longest-string text) refl
