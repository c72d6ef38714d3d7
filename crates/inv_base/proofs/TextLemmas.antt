-- Texts and their characters.
use Rattle.std.proofs.Common.{◌≡◌, ℕ, List, [], ◌∷◌, ◌++◌, true, ◌&&◌, Bool, false, ◌<◌, ◌≤◌, refl, ap, sym, ◌∙◌, arith}
use Rattle.std.specs.Str.{chars, IsUtf8, bytes_eq}
use Rattle.std.specs.Prelude.{encode_utf8_all, encode_utf8, ◌==◌}
use Rattle.std.specs.List.{flat_map}
use Rattle.std.proofs.lemmas.Str.{chars-encodes, encodes-append, encodes-chars, encode_ascii}
use Rattle.std.proofs.lemmas.Slice.Eq.{bytes_eq-Decides}
use Rattle.std.proofs.lemmas.Bool.{cond_both}
use Rattle.std.proofs.lemmas.Bool.Decides.{nat_tests, same_from_decides, Decides-like}
use Rattle.inv_base.specs.Text.{quoted, quoted_character}
use Rattle.inv_base.proofs.EscapeLemmas.{IsAsciiEscape, encodes-one, flat_map-encodes}
use lib.Utf8.{scalar, scalars, encodes, encode}

pub both : (a b : Bool) → (a && b) ≡ true → (a ≡ true) × (b ≡ true)
both true b e = (refl, e)
both false b e = cc

scalars-append : (a b : List ℕ) → scalars a ≡ true → scalars b ≡ true → scalars (a ++ b) ≡ true
scalars-append [] b p q = q
scalars-append (c ∷ a) b p q = let h = both (scalar c) (scalars a) p in ap (λ x. x && scalars (a ++ b)) h.0 ∙ scalars-append a b h.1 q

-- A text is the bytes of its characters.
pub encode-chars : (text : List ℕ) → IsUtf8 text → encode_utf8_all (chars text) ≡ text
encode-chars text u = ap encode_utf8_all (ap chars (sym u.1.1) ∙ chars-encodes u.0 u.1.0) ∙ u.1.1

-- The characters of two texts, one behind the other.
pub chars-append : (a b : List ℕ) → IsUtf8 a → IsUtf8 b → chars (a ++ b) ≡ chars a ++ chars b
chars-append a b u v =
    let x = u.0 in
    let y = v.0 in
    ap chars (ap (λ t. t ++ b) (sym u.1.1) ∙ (ap (λ t. encode_utf8_all x ++ t) (sym v.1.1) ∙ sym (encodes-append x y)))
    ∙ (chars-encodes (x ++ y) (scalars-append x y u.1.0 v.1.0)
    ∙ (ap (λ t. t ++ y) (sym (chars-encodes x u.1.0) ∙ ap chars u.1.1) ∙ ap (λ t. chars a ++ t) (sym (chars-encodes y v.1.0) ∙ ap chars v.1.1)))

-- Texts are the same where their characters are.
pub same_chars : (a b : List ℕ) → IsUtf8 a → IsUtf8 b → bytes_eq a b ≡ bytes_eq (chars a) (chars b)
same_chars a b u v = same_from_decides _ _ (bytes_eq-Decides a b)
    (Decides-like _ (λ e. sym (encodes-chars a u) ∙ (ap encode_utf8_all e ∙ encodes-chars b v)) (ap chars) (bytes_eq-Decides (chars a) (chars b)))

-- Quoted text, on the bytes.
Same : List ℕ → Type 0
Same xs = encodes xs ≡ xs

quoted-ascii : (c : ℕ) → c < 128 → encodes (quoted_character c) ≡ quoted_character c
unfolding Same encode
quoted-ascii c h =
    cond_both (c == 0x5C) _ _ Same (λ _. refl) (λ _.
    cond_both (c == 0x22) _ _ Same (λ _. refl) (λ _.
    cond_both (c == 0xA) _ _ Same (λ _. refl) (λ _.
    cond_both (c == 0xD) _ _ Same (λ _. refl) (λ _.
    cond_both (c == 0x9) _ _ Same (λ _. refl) (λ _. encodes-one c h)))))

quoted-plain : (c : ℕ) → 128 ≤ c → quoted_character c ≡ c ∷ []
quoted-plain c h = grind (arith, nat_tests)

quoted-IsAsciiEscape : IsAsciiEscape quoted_character
quoted-IsAsciiEscape = record { plain = quoted-plain; ascii = quoted-ascii }

pub encode-quoted : (text : List ℕ) → IsUtf8 text → encode_utf8_all (quoted (chars text)) ≡ 0x22 ∷ (flat_map quoted_character text ++ 0x22 ∷ [])
encode-quoted text u =
    let inside = flat_map quoted_character (chars text) in
    ap (λ x. x ++ encode_utf8_all (inside ++ 0x22 ∷ [])) (encode_ascii 0x22 (omega arith))
    ∙ ap (λ x. 0x22 ∷ x) (encodes-append inside (0x22 ∷ [])
    ∙ (ap (λ x. x ++ (encode_utf8 0x22 ++ [])) (sym (flat_map-encodes quoted_character quoted-IsAsciiEscape (chars text)) ∙
    ap (flat_map quoted_character) (encode-chars text u))
    ∙ ap (λ x. flat_map quoted_character text ++ (x ++ [])) (encode_ascii 0x22 (omega arith))))
