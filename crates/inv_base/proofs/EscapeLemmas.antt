-- Escapes of ASCII by ASCII, which may be done on bytes of UTF-8 as on characters.
use Rattle.std.proofs.Common.{◌≡◌, ℕ, suc, ◌<◌, ◌≤◌, List, [], ◌∷◌, ◌++◌, length, get_or, inl, inr, refl, ap, sym, ◌∙◌, append-nil, arith}
use Rattle.std.specs.List.{flat_map}
use Rattle.std.proofs.lemmas.List.Concat.{flat_map-append}
use Rattle.std.proofs.lemmas.Bool.{cases_lt}
use Rattle.std.proofs.lemmas.Str.{encodes-append, encode_ascii, inside_one}
use lib.Utf8.{encodes, encode}

-- An escape leaves what isn't ASCII, and stands for ASCII by ASCII.
pub record IsAsciiEscape (f : ℕ → List ℕ) : Type 0 where
  pub plain : (c : ℕ) → 128 ≤ c → f c ≡ c ∷ []
  pub ascii : (c : ℕ) → c < 128 → encodes (f c) ≡ f c

pub encodes-one : (c : ℕ) → c < 128 → encodes (c ∷ []) ≡ c ∷ []
encodes-one c h = append-nil (encode c) ∙ encode_ascii c h

flat_map-plain : (f : ℕ → List ℕ) → IsAsciiEscape f → (bytes : List ℕ) → ((k : ℕ) → k < length bytes → 128 ≤ get_or bytes k 0) → flat_map f bytes ≡ bytes
flat_map-plain f is [] h = refl
flat_map-plain f is (b ∷ bytes) h =
    ap (λ x. x ++ flat_map f bytes) (is.plain b (h 0 (omega arith)))
    ∙ ap (λ x. b ∷ x) (flat_map-plain f is bytes (λ k l. h (suc k) (omega arith)))

-- the bytes of a character that isn't ASCII aren't either
encode-bytes : (c : ℕ) → 128 ≤ c → (k : ℕ) → k < length (encode c) → 128 ≤ get_or (encode c) k 0
encode-bytes c h k l =
    elim (cases_lt (get_or (encode c) k 0) 128) [
      | inl below ↦ let e : c ≡ get_or (encode c) k 0 = inside_one c [] (encode c) k (sym (append-nil (encode c))) l below in absurd (omega arith)
      | inr above ↦ above
    ]

flat_map-encode : (f : ℕ → List ℕ) → IsAsciiEscape f → (c : ℕ) → flat_map f (encode c) ≡ encodes (f c)
flat_map-encode f is c =
    elim (cases_lt c 128) [
      | inl below ↦ ap (flat_map f) (encode_ascii c below) ∙ (append-nil (f c) ∙ sym (is.ascii c below))
      | inr above ↦ flat_map-plain f is (encode c) (encode-bytes c above) ∙ (sym (append-nil (encode c)) ∙ ap encodes (sym (is.plain c above)))
    ]

-- Bytes of UTF-8 are escaped as the characters are.
pub flat_map-encodes : (f : ℕ → List ℕ) → IsAsciiEscape f → (characters : List ℕ) → flat_map f (encodes characters) ≡ encodes (flat_map f characters)
flat_map-encodes f is [] = refl
flat_map-encodes f is (c ∷ characters) =
    flat_map-append f (encode c) (encodes characters)
    ∙ (ap (λ x. x ++ flat_map f (encodes characters)) (flat_map-encode f is c)
    ∙ (ap (λ x. encodes (f c) ++ x) (flat_map-encodes f is characters)
    ∙ sym (encodes-append (f c) (flat_map f characters))))
