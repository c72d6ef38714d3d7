-- Values as canonical text writes them say what they were written from.
use Rattle.std.proofs.Common.{◌≡◌, ℕ, Bool, true, false, not, ◌&&◌, ◌==◌, List, [], ◌∷◌, ◌++◌, inl, inr, refl, sym, ap, ◌∙◌, arith, subst, Option, Some, None}
use Rattle.std.proofs.Common.{option_map, encode_utf8_all, true≢false}
use Rattle.std.specs.List.{list_all, flat_map}
use Rattle.std.proofs.lemmas.List.Folds.{list_all-append}
use Rattle.std.proofs.lemmas.Bool.{cases_eq, cond_both}
use Rattle.std.proofs.lemmas.Bool.Decides.{nat_tests}
use Rattle.inv_base.specs.Characters.{is_char, is_white_space}
use Rattle.inv_base.proofs.TextLemmas.{both}
use Rattle.xml_tokens.specs.Searches.{begins_with}
use Rattle.xml_tokens.specs.References.{reference_at, referred}
use Rattle.xml_tokens.specs.Tags.{value_part, value_of}
use Rattle.xml_tokens.specs.declared.values.ValuePart.{ValuePart}
use Rattle.xml_write.specs.Escapes.{in_text, in_value}
use Rattle.xml_laws.proofs.EncodedLemmas.{are_chars, all-implied, passes-encodes}
use Rattle.xml_tokens.proofs.CharacterLemmas.{passed, same, other}
use Rattle.xml_laws.proofs.TextTokenLemmas.{in_text-plain}

-- one more character of a value
abbrev Says : ℕ → Type 0
Says c = (r : List ℕ) → value_of 0 (in_value c ++ r) ≡ option_map (λ v. c ∷ v) (value_of 0 r)

says-quote : Says 0x22
unfolding in_value value_of reference_at referred
says-quote r = refl

says-tab : Says 0x9
unfolding in_value value_of reference_at referred is_char
says-tab r = refl

says-feed : Says 0xA
unfolding in_value value_of reference_at referred is_char
says-feed r = refl

says-ampersand : Says 0x26
unfolding in_value in_text value_of reference_at referred
says-ampersand r = refl

says-less : Says 0x3C
unfolding in_value in_text value_of reference_at referred
says-less r = refl

says-greater : Says 0x3E
unfolding in_value in_text value_of reference_at referred
says-greater r = refl

says-return : Says 0xD
unfolding in_value in_text value_of reference_at referred is_char
says-return r = refl

says-space : Says 0x20
unfolding in_value in_text value_of is_white_space
says-space r = refl

in_value-plain : (c : ℕ) → ¬ (c ≡ 0x22) → ¬ (c ≡ 0x9) → ¬ (c ≡ 0xA) → in_value c ≡ in_text c
unfolding in_value
in_value-plain c a b d = passed (c == 0x22) _ _ (other c 0x22 a) ∙ (passed (c == 0x9) _ _ (other c 0x9 b) ∙ passed (c == 0xA) _ _ (other c 0xA d))

part-plain : (c : ℕ) (r : List ℕ) → ¬ (c ≡ 0x26) → ¬ (c ≡ 0xD) → is_white_space c ≡ false → value_part c r ≡ Some (record { character = c; more = 0 })
part-plain c r a b w =
    passed (c == 0x26) _ _ (other c 0x26 a)
    ∙ (passed (c == 0xD && begins_with (0xA ∷ []) r) _ _ (ap (λ t. t && begins_with (0xA ∷ []) r) (other c 0xD b))
    ∙ passed (is_white_space c) _ _ w)

abbrev after_part : List ℕ → Option ValuePart → Option (List ℕ)
after_part r part = elim part [ None ↦ None | (Some p) ↦ option_map (λ v. p.character ∷ v) (value_of p.more r) ]

says-plain : (c : ℕ) → ¬ (c ≡ 0x22) → ¬ (c ≡ 0x9) → ¬ (c ≡ 0xA) → ¬ (c ≡ 0x26) → ¬ (c ≡ 0x3C) → ¬ (c ≡ 0x3E) → ¬ (c ≡ 0xD) → ¬ (c ≡ 0x20) → Says c
unfolding value_of is_white_space
says-plain c a b d e f g h i r =
    let white : is_white_space c ≡ false = grind (arith, nat_tests) in
    ap (λ x. value_of 0 (x ++ r)) (in_value-plain c a b d ∙ in_text-plain c e f g h)
    ∙ ap (after_part r) (part-plain c r e h white)

says : (c : ℕ) → Says c
says c = elim (cases_eq c 0x22) [
  | inl p ↦ subst Says (sym p) says-quote
  | inr a ↦ elim (cases_eq c 0x9) [
    | inl p ↦ subst Says (sym p) says-tab
    | inr b ↦ elim (cases_eq c 0xA) [
      | inl p ↦ subst Says (sym p) says-feed
      | inr d ↦ elim (cases_eq c 0x26) [
        | inl p ↦ subst Says (sym p) says-ampersand
        | inr e ↦ elim (cases_eq c 0x3C) [
          | inl p ↦ subst Says (sym p) says-less
          | inr f ↦ elim (cases_eq c 0x3E) [
            | inl p ↦ subst Says (sym p) says-greater
            | inr g ↦ elim (cases_eq c 0xD) [
              | inl p ↦ subst Says (sym p) says-return
              | inr h ↦ elim (cases_eq c 0x20) [ inl p ↦ subst Says (sym p) says-space | inr i ↦ says-plain c a b d e f g h i ]
            ]
          ]
        ]
      ]
    ]
  ]
]

no_characters : value_of 0 [] ≡ Some []
unfolding value_of
no_characters = refl

-- A value is what its escaped characters say.
pub value-back : (value : List ℕ) → value_of 0 (flat_map in_value value) ≡ Some value
value-back [] = no_characters
value-back (c ∷ value) = says c (flat_map in_value value) ∙ ap (option_map (λ v. c ∷ v)) (value-back value)

-- Escaped characters are Chars, and none is a quote or `<`.
abbrev is_inside : ℕ → Bool
is_inside c = is_char c && (not (c == 0x22) && not (c == 0x3C))

abbrev AreInside : List ℕ → Type 0
AreInside cs = list_all is_inside cs ≡ true

plain-inside : (c : ℕ) → is_char c ≡ true → ¬ (c ≡ 0x22) → ¬ (c ≡ 0x3C) → AreInside (c ∷ [])
plain-inside c h a b = ap (λ t. (t && (not (c == 0x22) && not (c == 0x3C))) && true) h ∙
    (ap (λ t. (not t && not (c == 0x3C)) && true) (other c 0x22 a) ∙ ap (λ t. not t && true) (other c 0x3C b))

text-inside : (c : ℕ) → is_char c ≡ true → ¬ (c ≡ 0x22) → AreInside (in_text c)
unfolding in_text is_char
text-inside c h a =
    cond_both (c == 0x26) _ _ AreInside (λ _. refl) (λ _.
    cond_both (c == 0x3C) _ _ AreInside (λ _. refl) (λ e.
    cond_both (c == 0x3E) _ _ AreInside (λ _. refl) (λ _.
    cond_both (c == 0xD) _ _ AreInside (λ _. refl) (λ _. plain-inside c h a (λ f. true≢false (sym (same c 0x3C f) ∙ e))))))

value-inside : (c : ℕ) → is_char c ≡ true → AreInside (in_value c)
unfolding in_value is_char
value-inside c h =
    cond_both (c == 0x22) _ _ AreInside (λ _. refl) (λ e.
    cond_both (c == 0x9) _ _ AreInside (λ _. refl) (λ _.
    cond_both (c == 0xA) _ _ AreInside (λ _. refl) (λ _. text-inside c h (λ f. true≢false (sym (same c 0x22 f) ∙ e)))))

values-inside : (value : List ℕ) → are_chars value ≡ true → AreInside (flat_map in_value value)
values-inside [] h = refl
values-inside (c ∷ value) h =
    let p = both _ _ h in
    list_all-append is_inside (in_value c) (flat_map in_value value)
    ∙ (ap (λ t. t && list_all is_inside (flat_map in_value value)) (value-inside c p.0) ∙ values-inside value p.1)

pub value-chars : (value : List ℕ) → are_chars value ≡ true → are_chars (flat_map in_value value) ≡ true
value-chars value h = all-implied is_inside is_char (λ c q. (both _ _ q).0) (flat_map in_value value) (values-inside value h)

-- the bytes of an escaped value
abbrev pub bytes_of_value : List ℕ → List ℕ
bytes_of_value value = encode_utf8_all (flat_map in_value value)

pub value-unquoted : (value : List ℕ) → are_chars value ≡ true → list_all (λ b. not (b == 0x22)) (bytes_of_value value) ≡ true
value-unquoted value h =
    passes-encodes (λ b. not (b == 0x22)) (λ b l. ap not (other b 0x22 (λ e. omega arith))) (flat_map in_value value)
    (all-implied is_inside (λ b. not (b == 0x22)) (λ c q. (both _ _ (both (is_char c) _ q).1).0) (flat_map in_value value) (values-inside value h))

pub value-no_tag : (value : List ℕ) → are_chars value ≡ true → list_all (λ b. not (b == 0x3C)) (bytes_of_value value) ≡ true
value-no_tag value h =
    passes-encodes (λ b. not (b == 0x3C)) (λ b l. ap not (other b 0x3C (λ e. omega arith))) (flat_map in_value value)
    (all-implied is_inside (λ b. not (b == 0x3C)) (λ c q. (both _ _ (both (is_char c) _ q).1).1) (flat_map in_value value) (values-inside value h))
