-- Strings at the front of bytes, and where they first stand.
use Rattle.std.proofs.Common.{◌≡◌, ℕ, zero, suc, ◌+◌, ◌-◌, ◌<◌, ◌≤◌, ◌==◌, nat_eq, Bool, true, false, ◌&&◌, List, [], ◌∷◌, length, take, drop, refl, sym, ap}
use Rattle.std.proofs.Common.{◌∙◌, arith, Option, Some, None, option_map, true≢false, ◌⊎◌, inl, inr}
use Rattle.std.specs.List.{starts_with}
use Rattle.std.proofs.lemmas.List.{drop_all}
use Rattle.std.proofs.lemmas.Bool.Decides.{nat_tests}
use Rattle.xml_tokens.specs.Searches.{begins_with, ends_inside, shared_front, place_of}

same-turned : (a b : ℕ) → (a == b) ≡ (b == a)
same-turned a b = grind (arith, nat_tests)

pub starts-begins : (string bytes : List ℕ) → starts_with nat_eq bytes string ≡ begins_with string bytes
starts-begins [] bytes = refl
starts-begins (c ∷ string) [] = refl
starts-begins (c ∷ string) (b ∷ bytes) = ap (λ t. t && starts_with nat_eq bytes string) (same-turned c b) ∙ ap (λ t. (b == c) && t) (starts-begins string bytes)

-- where the bytes are shorter than the string
pub inside-short : (string bytes : List ℕ) → length bytes < length string → ends_inside string bytes ≡ begins_with bytes string
inside-short [] bytes h = absurd (omega arith)
inside-short (c ∷ string) [] h = refl
inside-short (c ∷ string) (b ∷ bytes) h = ap (λ t. t && ends_inside string bytes) (same-turned b c) ∙
    ap (λ t. (c == b) && t) (inside-short string bytes (omega arith))

-- where they aren't
pub inside-long : (string bytes : List ℕ) → length string ≤ length bytes → ends_inside string bytes ≡ false
inside-long [] bytes h = refl
inside-long (c ∷ string) [] h = absurd (omega arith)
inside-long (c ∷ string) (b ∷ bytes) h = by (b == c) (inside-long string bytes (omega arith))
  where
    by : (t : Bool) → ends_inside string bytes ≡ false → (t && ends_inside string bytes) ≡ false
    by true e = e
    by false e = refl

-- how much is shared, by one more, where the next bytes are the same
pub shared-step : (c b : ℕ) (string bytes : List ℕ) → b ≡ c → shared_front (c ∷ string) (b ∷ bytes) ≡ 1 + shared_front string bytes
shared-step c b string bytes h = grind (arith, nat_tests)

pub shared-stop : (c b : ℕ) (string bytes : List ℕ) → (b ≡ c → ⊥) → shared_front (c ∷ string) (b ∷ bytes) ≡ 0
shared-stop c b string bytes h = grind (arith, nat_tests)

pub shared-nothing : (string : List ℕ) → shared_front string [] ≡ 0
shared-nothing [] = refl
shared-nothing (c ∷ string) = refl

-- a string that begins bytes begins a front of them that is long enough
pub begins-take : (string bytes : List ℕ) (k : ℕ) → length string ≤ k → begins_with string bytes ≡ true → begins_with string (take k bytes) ≡ true
begins-take [] bytes k h e = refl
begins-take (c ∷ string) [] k h e = absurd (true≢false (sym e))
begins-take (c ∷ string) (b ∷ bytes) zero h e = absurd (omega arith)
begins-take (c ∷ string) (b ∷ bytes) (suc k) h e = by (b == c) e (begins-take string bytes k (omega arith))
  where
    by : (t : Bool) → (t && begins_with string bytes) ≡ true → (begins_with string bytes ≡ true → begins_with string (take k bytes) ≡ true) →
        (t && begins_with string (take k bytes)) ≡ true
    by true e rest = rest e
    by false e rest = absurd (true≢false (sym e))

begins-not : (string bytes : List ℕ) (k : ℕ) → length string ≤ k → begins_with string (take k bytes) ≡ false → begins_with string bytes ≡ false
begins-not string bytes k h e = by (begins_with string bytes) refl
  where
    by : (t : Bool) → begins_with string bytes ≡ t → t ≡ false
    by false f = refl
    by true f = absurd (true≢false (sym (begins-take string bytes k h f) ∙ e))

-- the first place behind so many bytes that hold none
abbrev pub after : ℕ → Option ℕ → Option ℕ
after n place = option_map (λ m. n + m) place

after-none : (place : Option ℕ) → after 0 place ≡ place
after-none None = refl
after-none (Some n) = let e : 0 + n ≡ n = omega arith in ap Some e

after-one : (n : ℕ) (place : Option ℕ) → option_map (λ m. 1 + m) (after n place) ≡ after (suc n) place
after-one n None = refl
after-one n (Some m) = let e : 1 + (n + m) ≡ suc n + m = omega arith in ap Some e

after-more : (n : ℕ) (place : Option ℕ) → after n (option_map (λ m. 1 + m) place) ≡ after (n + 1) place
after-more n None = refl
after-more n (Some m) = let e : n + (1 + m) ≡ n + 1 + m = omega arith in ap Some e

pub place-here : (string bytes : List ℕ) → 0 < length string → begins_with string bytes ≡ true → place_of string bytes ≡ Some 0
place-here [] bytes h e = absurd (omega arith)
place-here (c ∷ string) [] h e = absurd (true≢false (sym e))
place-here (c ∷ string) (b ∷ bytes) h e = ap (λ t. elim t [ true ↦ Some 0 | false ↦ option_map (λ n. 1 + n) (place_of (c ∷ string) bytes) ]) e

pub place-step : (string : List ℕ) (b : ℕ) (bytes : List ℕ) → begins_with string (b ∷ bytes) ≡ false →
    place_of string (b ∷ bytes) ≡ option_map (λ n. 1 + n) (place_of string bytes)
place-step string b bytes e = ap (λ t. elim t [ true ↦ Some 0 | false ↦ option_map (λ n. 1 + n) (place_of string bytes) ]) e

abbrev place_or : Bool → Option ℕ → Option ℕ
place_or t x = elim t [ true ↦ Some 0 | false ↦ option_map (λ n. 1 + n) x ]

place-none : (string : List ℕ) (b : ℕ) (bytes : List ℕ) → place_of string (b ∷ bytes) ≡ None → (begins_with string (b ∷ bytes) ≡ false) ×
    (place_of string bytes ≡ None)
place-none string b bytes e = by (begins_with string (b ∷ bytes)) (place_of string bytes) e
  where
    by : (t : Bool) (x : Option ℕ) → place_or t x ≡ None → (t ≡ false) × (x ≡ None)
    by true x e = cc
    by false None e = (refl, refl)
    by false (Some n) e = cc

-- Where a front was searched in vain, the string stands behind what can't begin it any more.
pub place-vain : (string bytes : List ℕ) (k p : ℕ) → 0 < length string → suc p + length string ≤ k + 2 → place_of string (take k bytes) ≡ None →
    place_of string bytes ≡ after p (place_of string (drop p bytes))
place-vain string bytes k zero some h e = sym (after-none (place_of string bytes))
place-vain string bytes zero (suc p) some h e = absurd (omega arith)
place-vain string [] (suc k) (suc p) some h e = refl
place-vain string (b ∷ bytes) (suc k) (suc p) some h e =
    let front = place-none string b (take k bytes) e in
    place-step string b bytes (begins-not string (b ∷ bytes) (suc k) (omega arith) front.0)
    ∙ (ap (option_map (λ n. 1 + n)) (place-vain string bytes k p some (omega arith) front.1) ∙ after-one p (place_of string (drop p bytes)))

-- What is known at a place of the search.
pub record Searching (string bytes : List ℕ) (place : ℕ) : Type 0 where
  pub whole : place_of string bytes ≡ after place (place_of string (drop place bytes))

pub searching-begin : (string bytes : List ℕ) (k p : ℕ) → 0 < length string → p ≡ k + 1 - length string → place_of string (take k bytes) ≡ None →
    Searching string bytes p
searching-begin string bytes k zero some h e = record { whole = sym (after-none (place_of string bytes)) }
searching-begin string bytes k (suc p) some h e = record { whole = place-vain string bytes k (suc p) some (omega arith) e }

pub searching-here : (string bytes : List ℕ) (p : ℕ) → 0 < length string → begins_with string (drop p bytes) ≡ true → Searching string bytes p →
    Some p ≡ place_of string bytes
searching-here string bytes p some e known =
    let zero : p + 0 ≡ p = omega arith in
    sym (known.whole ∙ (ap (after p) (place-here string (drop p bytes) some e) ∙ ap Some zero))

pub searching-step : (string bytes rest : List ℕ) (b p : ℕ) → drop p bytes ≡ b ∷ rest → rest ≡ drop (p + 1) bytes → begins_with string (drop p bytes) ≡ false →
    Searching string bytes p → Searching string bytes (p + 1)
searching-step string bytes rest b p e f g known = record {
  whole = known.whole ∙ (ap (λ x. after p (place_of string x)) e
      ∙ (ap (after p) (place-step string b rest (ap (begins_with string) (sym e) ∙ g))
      ∙ (after-more p (place_of string rest) ∙ ap (λ x. after (p + 1) (place_of string x)) f)));
}

pub searching-end : (string bytes : List ℕ) (p : ℕ) → drop p bytes ≡ [] → Searching string bytes p → None ≡ place_of string bytes
searching-end string bytes p e known = sym (known.whole ∙ ap (λ x. after p (place_of string x)) e)

-- how much is shared behind so much that is
pub shared-end : (string bytes : List ℕ) (p : ℕ) → p ≡ length string ⊎ (p ≡ length bytes) → shared_front (drop p string) (drop p bytes) ≡ 0
shared-end string bytes p h = elim h [
  | inl e ↦ ap (λ x. shared_front x (drop p bytes)) (drop_all p string (omega arith))
  | inr e ↦ ap (shared_front (drop p string)) (drop_all p bytes (omega arith)) ∙ shared-nothing (drop p string)
]
