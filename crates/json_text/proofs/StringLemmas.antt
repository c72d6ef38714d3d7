-- Strings on bytes of UTF-8, and the bytes that stand for themselves in them.
use Rattle.std.proofs.Common.{◌≡◌, ℕ, suc, ◌+◌, ◌<◌, ◌≤◌, Bool, true, false, not, ◌||◌, ◌==◌, cond, List, [], ◌∷◌, ◌++◌, take, Some, None, inl, inr}
use Rattle.std.proofs.Common.{refl, sym, ap, ◌∙◌, subst, arith, true≢false}
use Rattle.std.specs.Prelude.{encode_utf8, encode_utf8_all, nat_lt}
use Rattle.std.specs.List.{flat_map, position_or_len}
use Rattle.std.specs.Str.{chars, IsUtf8, bytes_eq}
use Rattle.std.proofs.lemmas.Bool.{agree_below, agree_below_at, or_parts, or_from, or_cases, le-ltb, ltb-false, ne_eqb, eqb-true}
use Rattle.std.proofs.lemmas.Slice.Eq.{bytes_eq-Decides}
use Rattle.std.proofs.lemmas.Str.{encodes-append, encode_ascii}
use lib.Utf8.{encodes, encode}
use Rattle.inv_base.proofs.EscapeLemmas.{IsAsciiEscape, flat_map-encodes}
use Rattle.inv_base.proofs.TextLemmas.{encode-chars}
use Rattle.json_text.specs.Layout.{short_escape, escape_by, long_escape, character_text, string_text}
use Rattle.json_text.specs.Escapes.{is_escaped}

is_same : ℕ → Bool
is_same c = bytes_eq (encodes (character_text c)) (character_text c)

all_same : agree_below is_same (λ _. true) 128 ≡ true
unfolding is_same character_text short_escape encode
all_same = refl

character-ascii : (c : ℕ) → c < 128 → encodes (character_text c) ≡ character_text c
unfolding is_same
character-ascii c h = (bytes_eq-Decides (encodes (character_text c)) (character_text c)).0 (agree_below_at is_same (λ _. true) 128 c all_same h)

-- What isn't escaped stands for itself.
pub character-itself : (c : ℕ) → is_escaped c ≡ false → character_text c ≡ c ∷ []
unfolding character_text short_escape
character-itself c e =
    let parts : (nat_lt c 0x20 ≡ false) × ((c == 0x22 || c == 0x5C) ≡ false) = or_parts (nat_lt c 0x20) (c == 0x22 || c == 0x5C) e in
    let quotes : ((c == 0x22) ≡ false) × ((c == 0x5C) ≡ false) = or_parts (c == 0x22) (c == 0x5C) parts.1 in
    let above : 0x20 ≤ c = ltb-false c 0x20 parts.0 in
    let b : (c == 0x8) ≡ false = ne_eqb c 0x8 (λ same. omega arith) in
    let f : (c == 0xC) ≡ false = ne_eqb c 0xC (λ same. omega arith) in
    let n : (c == 0xA) ≡ false = ne_eqb c 0xA (λ same. omega arith) in
    let r : (c == 0xD) ≡ false = ne_eqb c 0xD (λ same. omega arith) in
    let t : (c == 0x9) ≡ false = ne_eqb c 0x9 (λ same. omega arith) in
    rw (quotes.0, quotes.1, b, f, n, r, t, parts.0) refl

-- What is not ASCII stands for itself.
pub character-plain : (c : ℕ) → 128 ≤ c → character_text c ≡ c ∷ []
character-plain c h =
    character-itself c (or_from (nat_lt c 0x20) (c == 0x22 || c == 0x5C) (le-ltb c 0x20 (omega arith))
    (or_from (c == 0x22) (c == 0x5C) (ne_eqb c 0x22 (λ same. omega arith)) (ne_eqb c 0x5C (λ same. omega arith))))

pub character-IsAsciiEscape : IsAsciiEscape character_text
character-IsAsciiEscape = record { plain = character-plain; ascii = character-ascii }

-- a string in UTF-8
pub encode-string_text : (text : List ℕ) → IsUtf8 text → encode_utf8_all (string_text (chars text)) ≡ 0x22 ∷ (flat_map character_text text ++ 0x22 ∷ [])
encode-string_text text u =
    let inside = flat_map character_text (chars text) in
    ap (λ x. x ++ encode_utf8_all (inside ++ 0x22 ∷ [])) (encode_ascii 0x22 (omega arith))
    ∙ ap (λ x. 0x22 ∷ x) (encodes-append inside (0x22 ∷ [])
    ∙ (ap (λ x. x ++ (encode_utf8 0x22 ++ [])) (sym (flat_map-encodes character_text character-IsAsciiEscape (chars text)) ∙
    ap (flat_map character_text) (encode-chars text u))
    ∙ ap (λ x. flat_map character_text text ++ (x ++ [])) (encode_ascii 0x22 (omega arith))))

-- the bytes before the first that is escaped
pub plain-front : (bytes : List ℕ) → flat_map character_text (take (position_or_len is_escaped bytes) bytes) ≡ take (position_or_len is_escaped bytes) bytes
plain-front [] = refl
plain-front (b ∷ bytes) = by (is_escaped b) refl (plain-front bytes)
  where
    by : (t : Bool) → is_escaped b ≡ t → flat_map character_text (take (position_or_len is_escaped bytes) bytes) ≡ take
        (position_or_len is_escaped bytes) bytes
        → flat_map character_text (take (cond (not t) (1 + position_or_len is_escaped bytes) 0) (b ∷ bytes)) ≡ take
        (cond (not t) (1 + position_or_len is_escaped bytes) 0) (b ∷ bytes)
    by true e rest = refl
    by false e rest =
        let one : 1 + position_or_len is_escaped bytes ≡ suc (position_or_len is_escaped bytes) = omega arith in
        let front = take (position_or_len is_escaped bytes) bytes in
        ap (λ n. flat_map character_text (take n (b ∷ bytes))) one
        ∙ (ap (λ x. x ++ flat_map character_text front) (character-itself b e) ∙ (ap (λ x. b ∷ x) rest ∙ sym (ap (λ n. take n (b ∷ bytes)) one)))

pub plain-progress : (bytes : List ℕ) (byte : ℕ) (after : List ℕ) → bytes ≡ byte ∷ after → is_escaped byte ≡ false → 0 < position_or_len is_escaped bytes
plain-progress bytes byte after is plain = subst (λ xs. 0 < position_or_len is_escaped xs) (sym is) (by (is_escaped byte) plain)
  where
    by : (t : Bool) → t ≡ false → 0 < cond (not t) (1 + position_or_len is_escaped after) 0
    by true e = absurd (true≢false e)
    by false e = omega arith

-- an escaped character without a short escape is a control character
quote-short : short_escape 0x22 ≡ Some 0x22
unfolding short_escape
quote-short = refl

backslash-short : short_escape 0x5C ≡ Some 0x5C
unfolding short_escape
backslash-short = refl

no-short : {A : Type 0} (c d letter : ℕ) → short_escape d ≡ Some letter → short_escape c ≡ None → (c == d) ≡ true → A
no-short c d letter some none same = let one : c ≡ d = eqb-true c d same in let both : Some letter ≡ None = sym some ∙ (ap short_escape (sym one) ∙ none) in cc

control-lt : (c : ℕ) → is_escaped c ≡ true → short_escape c ≡ None → nat_lt c 0x20 ≡ true
control-lt c escaped none =
    elim (or_cases (nat_lt c 0x20) (c == 0x22 || c == 0x5C) escaped) [
      | inl below ↦ below
      | inr quotes ↦ elim (or_cases (c == 0x22) (c == 0x5C) quotes) [
        | inl same ↦ no-short c 0x22 0x22 quote-short none same
        | inr same ↦ no-short c 0x5C 0x5C backslash-short none same
      ]
    ]

-- A short escape, and a long one.
pub character-short : (c letter : ℕ) → short_escape c ≡ Some letter → character_text c ≡ 0x5C ∷ letter ∷ []
unfolding character_text
character-short c letter e = ap (λ o. escape_by o c) e

-- An escaped character without a short escape has a long one.
pub character-long : (c : ℕ) → is_escaped c ≡ true → short_escape c ≡ None → character_text c ≡ long_escape c
unfolding character_text
character-long c escaped e = ap (λ o. escape_by o c) e ∙ ap (λ b. cond b (long_escape c) (c ∷ [])) (control-lt c escaped e)
