-- Characters of XML and their bytes.
use Rattle.std.proofs.Common.{◌≡◌, ℕ, suc, ◌<◌, ◌≤◌, Bool, true, ◌&&◌, ◌||◌, ◌==◌, List, [], ◌∷◌, length, get_or, inl, inr, refl, sym, ap, ◌∙◌, arith, chars}
use Rattle.std.proofs.Common.{encode_utf8_all}
use Rattle.std.specs.List.{list_all}
use Rattle.std.specs.Str.{is_utf8}
use Rattle.std.proofs.lemmas.List.{append-nil}
use Rattle.std.proofs.lemmas.List.Folds.{list_all-append}
use Rattle.std.proofs.lemmas.Bool.{cases_lt}
use Rattle.std.proofs.lemmas.Bool.Decides.{nat_tests}
use Rattle.std.proofs.lemmas.Str.{chars-encodes, encode_ascii, inside_one, is_utf8-from_IsUtf8}
use lib.Utf8.{scalars, encode, encodes}
use Rattle.inv_base.specs.Characters.{is_char, is_within, is_name_char, is_name_start}
use Rattle.inv_base.proofs.TextLemmas.{both}
use Rattle.xml_tokens.specs.WrittenNames.{is_ncname}
use Rattle.inv_base.proofs.CharacterLemmas.{char-scalar}

-- The list is of Chars.
abbrev pub are_chars : List ℕ → Bool
are_chars characters = list_all is_char characters

pub chars-scalars : (cs : List ℕ) → are_chars cs ≡ true → scalars cs ≡ true
chars-scalars [] h = refl
chars-scalars (c ∷ cs) h = let p = both _ _ h in ap (λ t. t && scalars cs) (char-scalar c p.0) ∙ chars-scalars cs p.1

-- Characters are read back from their bytes.
pub chars-back : (cs : List ℕ) → are_chars cs ≡ true → chars (encode_utf8_all cs) ≡ cs
chars-back cs h = chars-encodes cs (chars-scalars cs h)

pub utf8-back : (cs : List ℕ) → are_chars cs ≡ true → is_utf8 (encode_utf8_all cs) ≡ true
utf8-back cs h = is_utf8-from_IsUtf8 (encode_utf8_all cs) (cs, (chars-scalars cs h, refl))

-- The bytes of a character that isn't ASCII aren't either.
encode-high : (c : ℕ) → 128 ≤ c → (k : ℕ) → k < length (encode c) → 128 ≤ get_or (encode c) k 0
encode-high c h k l =
    elim (cases_lt (get_or (encode c) k 0) 128) [
      | inl below ↦ let e : c ≡ get_or (encode c) k 0 = inside_one c [] (encode c) k (sym (append-nil (encode c))) l below in absurd (omega arith)
      | inr above ↦ above
    ]

-- a test that all bytes from 128 on pass
module _ (p : ℕ → Bool) (high : (c : ℕ) → 128 ≤ c → p c ≡ true) where
  all-high : (bytes : List ℕ) → ((k : ℕ) → k < length bytes → 128 ≤ get_or bytes k 0) → list_all p bytes ≡ true
  all-high [] h = refl
  all-high (b ∷ bytes) h = ap (λ t. t && list_all p bytes) (high b (h 0 (omega arith))) ∙ all-high bytes (λ k l. h (suc k) (omega arith))

  passes-encode : (c : ℕ) → p c ≡ true → list_all p (encode c) ≡ true
  passes-encode c h = elim (cases_lt c 128) [
    | inl below ↦ ap (list_all p) (encode_ascii c below) ∙ ap (λ t. t && true) h
    | inr above ↦ all-high (encode c) (encode-high c above)
  ]

  pub passes-encodes : (cs : List ℕ) → list_all p cs ≡ true → list_all p (encode_utf8_all cs) ≡ true
  passes-encodes [] h = refl
  passes-encodes (c ∷ cs) h =
      let q = both _ _ h in
      list_all-append p (encode c) (encodes cs) ∙ (ap (λ t. t && list_all p (encodes cs)) (passes-encode c q.0) ∙ passes-encodes cs q.1)

-- An NCName is of Chars.
name_char-char : (c : ℕ) → is_name_char c ≡ true → is_char c ≡ true
unfolding is_char is_name_char is_name_start
name_char-char c h = grind (arith, nat_tests)

start-name_char : (c : ℕ) → is_name_start c ≡ true → is_name_char c ≡ true
unfolding is_name_char
start-name_char c h =
    ap (λ t. t || (c == 0x2D || (c == 0x2E || (is_within 0x30 0x39 c || (c == 0xB7 || (is_within 0x300 0x36F c || is_within 0x203F 0x2040 c)))))) h

pub ncname-characters : (cs : List ℕ) → is_ncname cs ≡ true → list_all is_name_char cs ≡ true
ncname-characters [] h = cc
ncname-characters (c ∷ cs) h = let p = both _ _ h in ap (λ t. t && list_all is_name_char cs) (start-name_char c p.0) ∙ p.1

pub all-implied : (p q : ℕ → Bool) → ((c : ℕ) → p c ≡ true → q c ≡ true) → (cs : List ℕ) → list_all p cs ≡ true → list_all q cs ≡ true
all-implied p q implied [] h = refl
all-implied p q implied (c ∷ cs) h = let r = both _ _ h in ap (λ t. t && list_all q cs) (implied c r.0) ∙ all-implied p q implied cs r.1

pub ncname-chars : (cs : List ℕ) → is_ncname cs ≡ true → are_chars cs ≡ true
ncname-chars cs h = all-implied is_name_char is_char name_char-char cs (ncname-characters cs h)
