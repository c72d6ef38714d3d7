-- A text of calm bytes has Chars alone.
use Rattle.std.proofs.Common.{◌≡◌, ℕ, ◌+◌, ◌/◌, ◌<◌, ◌≤◌, Bool, true, ◌&&◌, List, [], ◌∷◌, refl, sym, ap, subst, ◌∙◌, arith, inl, inr}
use Rattle.std.specs.Str.{chars, IsUtf8}
use Rattle.std.specs.List.{list_all}
use Rattle.std.proofs.lemmas.Bool.{cases_lt, cases_eq, false≢true}
use Rattle.std.proofs.lemmas.Bool.Decides.{nat_tests}
use Rattle.std.proofs.lemmas.List.Folds.{list_all-append}
use Rattle.std.proofs.lemmas.Str.{encode_ascii, encodes-chars, scalars-chars}
use lib.Utf8.{scalar, scalars, encode, encodes}
use Rattle.inv_base.specs.Characters.{is_char}
use Rattle.inv_base.proofs.TextLemmas.{both}
use Rattle.xml_tokens.specs.Ascii.{is_calm}
use Rattle.xml_tokens.proofs.CharacterLemmas.{encode-three}

-- by the size of the character
calm-one : (c : ℕ) → c < 128 → is_calm c ≡ true → is_char c ≡ true
unfolding is_char
calm-one c l h = grind (arith, nat_tests)

calm-two : (c : ℕ) → 128 ≤ c → c < 2048 → is_char c ≡ true
unfolding is_char
calm-two c l h = grind (arith, nat_tests)

calm-three : (c : ℕ) → 2048 ≤ c → c < 61440 → scalar c ≡ true → is_char c ≡ true
unfolding is_char
calm-three c l h s = grind (arith, nat_tests)

calm-four : (c : ℕ) → 65536 ≤ c → scalar c ≡ true → is_char c ≡ true
unfolding is_char
calm-four c l s = grind (arith, nat_tests)

-- the lead byte of three
calm-lead : (c : ℕ) → c < 65536 → is_calm (224 + c / 4096) ≡ true → c < 61440
calm-lead c h e = elim (cases_eq (224 + c / 4096) 0xEF) [
  | inl same ↦ absurd (false≢true (subst (λ b. is_calm b ≡ true) same e))
  | inr other ↦ omega arith
]

calm-char : (c : ℕ) → scalar c ≡ true → list_all is_calm (encode c) ≡ true → is_char c ≡ true
calm-char c s h = elim (cases_lt c 128) [
  | inl one ↦ calm-one c one (both (is_calm c) true (sym (ap (list_all is_calm) (encode_ascii c one)) ∙ h)).0
  | inr a ↦ elim (cases_lt c 2048) [
    | inl two ↦ calm-two c a two
    | inr b ↦ elim (cases_lt c 65536) [
      | inl three ↦ calm-three c b (calm-lead c three (both _ _ (sym (ap (list_all is_calm) (encode-three c b three)) ∙ h)).0) s
      | inr d ↦ calm-four c d s
    ]
  ]
]

calm-all : (cs : List ℕ) → scalars cs ≡ true → list_all is_calm (encodes cs) ≡ true → list_all is_char cs ≡ true
calm-all [] s h = refl
calm-all (c ∷ cs) s h =
    let scalar_parts = both (scalar c) (scalars cs) s in
    let calm_parts = both (list_all is_calm (encode c)) (list_all is_calm (encodes cs)) (sym (list_all-append is_calm (encode c) (encodes cs)) ∙ h) in
    ap (λ t. t && list_all is_char cs) (calm-char c scalar_parts.0 calm_parts.0) ∙ calm-all cs scalar_parts.1 calm_parts.1

pub calm-told : (bytes text : List ℕ) (result : Bool) → bytes ≡ text → IsUtf8 text → result ≡ list_all is_calm bytes → result ≡ true →
    result ≡ list_all is_char (chars text)
calm-told bytes text result same u e h =
    h ∙ sym (calm-all (chars text) (scalars-chars text u) (ap (list_all is_calm) (encodes-chars text u ∙ sym same) ∙ (sym e ∙ h)))
