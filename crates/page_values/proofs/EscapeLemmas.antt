-- Escapes on bytes and on characters, and fronts of bytes that stand for themselves.
use Rattle.std.proofs.Common.{◌≡◌, ℕ, suc, ◌+◌, ◌<◌, ◌≤◌, Bool, true, false, ◌||◌, cond, List, [], ◌∷◌, ◌++◌, take, length, refl, ap, sym, ◌∙◌, subst, arith}
use Rattle.std.proofs.Common.{true≢false}
use Rattle.std.specs.Prelude.{not, ◌==◌, encode_utf8_all, if◌then◌else◌}
use Rattle.std.specs.List.{flat_map, position_or_len}
use Rattle.std.specs.Str.{chars, IsUtf8}
use Rattle.std.proofs.lemmas.Bool.{cond_both}
use Rattle.std.proofs.lemmas.Bool.Decides.{nat_tests}
use Rattle.inv_base.specs.Characters.{is_white_space}
use Rattle.inv_base.proofs.EscapeLemmas.{IsAsciiEscape, encodes-one, flat_map-encodes}
use Rattle.inv_base.proofs.TextLemmas.{encode-chars}
use Rattle.inv_terms.specs.Attachments.{without_white_space}
use Rattle.page_values.specs.Escapes.{escaped_character, is_marked, in_page}
use Rattle.page_values.specs.Seen.{squeezed}
use lib.Utf8.{encodes, encode}

-- ---- fronts

module _ (f : ℕ → List ℕ) (stops : ℕ → Bool) (plain : (c : ℕ) → stops c ≡ false → f c ≡ c ∷ []) where
  pub front-plain : (bytes : List ℕ) → flat_map f (take (position_or_len stops bytes) bytes) ≡ take (position_or_len stops bytes) bytes
  front-plain [] = refl
  front-plain (b ∷ bytes) = by (stops b) refl (front-plain bytes)
    where
      by : (t : Bool) → stops b ≡ t → flat_map f (take (position_or_len stops bytes) bytes) ≡ take (position_or_len stops bytes) bytes
          → flat_map f (take (cond (not t) (1 + position_or_len stops bytes) 0) (b ∷ bytes)) ≡ take (cond (not t) (1 + position_or_len stops bytes) 0)
          (b ∷ bytes)
      by true e rest = refl
      by false e rest =
          let one : 1 + position_or_len stops bytes ≡ suc (position_or_len stops bytes) = omega arith in
          let front = take (position_or_len stops bytes) bytes in
          ap (λ n. flat_map f (take n (b ∷ bytes))) one
          ∙ (ap (λ x. x ++ flat_map f front) (plain b e) ∙ (ap (λ x. b ∷ x) rest ∙ sym (ap (λ n. take n (b ∷ bytes)) one)))

module _ (f : ℕ → List ℕ) (stops : ℕ → Bool) (moved : (c : ℕ) → stops c ≡ true → f c ≡ c ∷ [] → ⊥) where
  pub front-progress : (bytes : List ℕ) (byte : ℕ) (after : List ℕ) → bytes ≡ byte ∷ after → f byte ≡ byte ∷ [] → 0 < position_or_len stops bytes
  front-progress bytes byte after is own = subst (λ xs. 0 < position_or_len stops xs) (sym is) (by (stops byte) refl)
    where
      by : (t : Bool) → stops byte ≡ t → 0 < cond (not t) (1 + position_or_len stops after) 0
      by true e = absurd (moved byte e own)
      by false e = omega arith

-- ---- values

not-marked : (c : ℕ) (s t u v : Bool) → (s || (t || (u || v))) ≡ false
    → cond s (0x26 ∷ 0x61 ∷ 0x6D ∷ 0x70 ∷ 0x3B ∷ []) (cond t (0x26 ∷ 0x6C ∷ 0x74 ∷ 0x3B ∷ []) (cond u (0x26 ∷ 0x67 ∷ 0x74 ∷ 0x3B ∷ [])
    (cond v (0x26 ∷ 0x71 ∷ 0x75 ∷ 0x6F ∷ 0x74 ∷ 0x3B ∷ []) (c ∷ [])))) ≡ c ∷ []
not-marked c true t u v h = absurd (true≢false h)
not-marked c false true u v h = absurd (true≢false h)
not-marked c false false true v h = absurd (true≢false h)
not-marked c false false false true h = absurd (true≢false h)
not-marked c false false false false h = refl

pub unmarked : (c : ℕ) → is_marked c ≡ false → escaped_character c ≡ c ∷ []
unmarked c h = not-marked c (c == 0x26) (c == 0x3C) (c == 0x3E) (c == 0x22) h

longer : (c : ℕ) (s t u v : Bool) → (s || (t || (u || v))) ≡ true
    → 1 < length (cond s (0x26 ∷ 0x61 ∷ 0x6D ∷ 0x70 ∷ 0x3B ∷ []) (cond t (0x26 ∷ 0x6C ∷ 0x74 ∷ 0x3B ∷ []) (cond u (0x26 ∷ 0x67 ∷ 0x74 ∷ 0x3B ∷ [])
    (cond v (0x26 ∷ 0x71 ∷ 0x75 ∷ 0x6F ∷ 0x74 ∷ 0x3B ∷ []) (c ∷ [])))))
longer c true t u v h = omega arith
longer c false true u v h = omega arith
longer c false false true v h = omega arith
longer c false false false true h = omega arith
longer c false false false false h = absurd (true≢false (sym h))

pub marked-moves : (c : ℕ) → is_marked c ≡ true → escaped_character c ≡ c ∷ [] → ⊥
marked-moves c h e =
    let long = longer c (c == 0x26) (c == 0x3C) (c == 0x3E) (c == 0x22) h in
    let same : length (escaped_character c) ≡ 1 = ap length e in
    omega (arith, long, same)

Same : List ℕ → Type 0
Same xs = encodes xs ≡ xs

escaped-ascii : (c : ℕ) → c < 128 → encodes (escaped_character c) ≡ escaped_character c
unfolding Same encode
escaped-ascii c h =
    cond_both (c == 0x26) _ _ Same (λ _. refl) (λ _.
    cond_both (c == 0x3C) _ _ Same (λ _. refl) (λ _.
    cond_both (c == 0x3E) _ _ Same (λ _. refl) (λ _.
    cond_both (c == 0x22) _ _ Same (λ _. refl) (λ _. encodes-one c h))))

escaped-plain : (c : ℕ) → 128 ≤ c → escaped_character c ≡ c ∷ []
escaped-plain c h = grind (arith, nat_tests)

pub escaped-IsAsciiEscape : IsAsciiEscape escaped_character
escaped-IsAsciiEscape = record { plain = escaped-plain; ascii = escaped-ascii }

-- a value's bytes are escaped as its characters are
pub escaped-bytes : (text : List ℕ) → IsUtf8 text → flat_map escaped_character text ≡ in_page (chars text)
escaped-bytes text u =
    ap (flat_map escaped_character) (sym (encode-chars text u)) ∙ flat_map-encodes escaped_character escaped-IsAsciiEscape (chars text)

-- ---- white space

squeezed-kept : (b : Bool) (c : ℕ) → b ≡ false → (if b then [] else c ∷ []) ≡ c ∷ []
squeezed-kept b c e = ap (λ x. if x then [] else c ∷ []) e

pub not-blank : (c : ℕ) → is_white_space c ≡ false → squeezed c ≡ c ∷ []
not-blank c h = squeezed-kept (is_white_space c) c h

pub blank-goes : (c : ℕ) → is_white_space c ≡ true → squeezed c ≡ []
blank-goes c h = ap (λ x. if x then [] else c ∷ []) h

pub blank-moves : (c : ℕ) → is_white_space c ≡ true → squeezed c ≡ c ∷ [] → ⊥
blank-moves c h e =
    let none : length (squeezed c) ≡ 0 = ap length (blank-goes c h) in
    let one : length (squeezed c) ≡ 1 = ap length e in
    omega (arith, none, one)

squeezed-ascii : (c : ℕ) → c < 128 → encodes (squeezed c) ≡ squeezed c
unfolding Same encode
squeezed-ascii c h = cond_both (is_white_space c) _ _ Same (λ _. refl) (λ _. encodes-one c h)

late-blank : (c : ℕ) → 128 ≤ c → is_white_space c ≡ false
unfolding is_white_space
late-blank c h = grind (arith, nat_tests)

squeezed-IsAsciiEscape : IsAsciiEscape squeezed
squeezed-IsAsciiEscape = record { plain = λ c h. not-blank c (late-blank c h); ascii = squeezed-ascii }

squeezed-filter : (text : List ℕ) → flat_map squeezed text ≡ without_white_space text
squeezed-filter [] = refl
squeezed-filter (c ∷ text) = by (is_white_space c) (squeezed-filter text)
  where
    by : (b : Bool) → flat_map squeezed text ≡ without_white_space text
        → (if b then [] else c ∷ []) ++ flat_map squeezed text ≡ cond (not b) (c ∷ without_white_space text) (without_white_space text)
    by true rest = rest
    by false rest = ap (λ x. c ∷ x) rest

pub squeezed-bytes : (text : List ℕ) → IsUtf8 text → flat_map squeezed text ≡ encode_utf8_all (without_white_space (chars text))
squeezed-bytes text u =
    ap (flat_map squeezed) (sym (encode-chars text u))
    ∙ (flat_map-encodes squeezed squeezed-IsAsciiEscape (chars text) ∙ ap encode_utf8_all (squeezed-filter (chars text)))
