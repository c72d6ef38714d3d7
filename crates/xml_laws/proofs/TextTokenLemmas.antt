-- Texts as canonical text writes them are read as their characters.
use Rattle.std.proofs.Common.{◌≡◌, ℕ, ◌<◌, Bool, true, false, ◌&&◌, ◌==◌, List, [], ◌∷◌, ◌++◌, length, ◌⊎◌, inl, inr, refl, sym, ap, ◌∙◌, arith, subst, Some}
use Rattle.std.proofs.Common.{None, encode_utf8_all}
use Rattle.std.specs.List.{flat_map}
use Rattle.std.specs.Prelude.{codes}
use Rattle.std.proofs.lemmas.List.{append_assoc, append-nil}
use Rattle.std.proofs.lemmas.Bool.{cases_eq}
use Rattle.std.proofs.lemmas.Str.{encodes-append, length-encode, len_utf8_bounds}
use lib.Utf8.{encode, encodes}
use Rattle.inv_base.specs.Characters.{is_char, is_white_space}
use Rattle.inv_base.proofs.TextLemmas.{both}
use Rattle.xml_tokens.specs.declared.encoding.Begun.TheVariants as begun
use Rattle.xml_tokens.specs.declared.kind.XmlKind.TheVariants.{TooManyNodes}
use Rattle.xml_tokens.specs.Searches.{begins_with}
use Rattle.xml_tokens.specs.Encoding.{character_at}
use Rattle.xml_tokens.specs.References.{reference_at, referred}
use Rattle.xml_tokens.specs.Markup.{Token, a_character, a_reference}
use Rattle.xml_tokens.specs.Beginnings.{good, beginning, character_token}
use Rattle.xml_tokens.specs.declared.beginning.Position.TheVariants.{Farther}
use Rattle.xml_state.specs.declared.limits.Limits.{Limits}
use Rattle.xml_state.specs.States.{State, is_outside, state_behind, behind_text, events_of, text_events}
use Rattle.xml_state.specs.Admission.{text_fault, fault_of, is_text_too_many}
use Rattle.xml_write.specs.Escapes.{in_text}
use Rattle.inv_base.proofs.CharacterLemmas.{char-scalar}
use Rattle.xml_laws.proofs.EncodedLemmas.{are_chars}
use Rattle.xml_tokens.proofs.CharacterLemmas.{passed, same, other, begins}

pub elim-false : {A : Type 0} (t : Bool) (x y : A) → t ≡ false → (elim t [ true ↦ x | false ↦ y ]) ≡ y
elim-false t x y h = ap (λ t. elim t [ true ↦ x | false ↦ y ]) h

pub elim-true : {A : Type 0} (t : Bool) (x y : A) → t ≡ true → (elim t [ true ↦ x | false ↦ y ]) ≡ x
elim-true t x y h = ap (λ t. elim t [ true ↦ x | false ↦ y ]) h

-- A character stands as it is in a text, but for four.
pub in_text-plain : (c : ℕ) → ¬ (c ≡ 0x26) → ¬ (c ≡ 0x3C) → ¬ (c ≡ 0x3E) → ¬ (c ≡ 0xD) → in_text c ≡ c ∷ []
unfolding in_text
in_text-plain c a b d e = passed (c == 0x26) _ _ (other c 0x26 a) ∙
    (passed (c == 0x3C) _ _ (other c 0x3C b) ∙ (passed (c == 0x3E) _ _ (other c 0x3E d) ∙ passed (c == 0xD) _ _ (other c 0xD e)))

-- A token that is the character of a text.
pub record IsCharacterToken (c : ℕ) (token : Token) : Type 0 where
  pub behind : (s : State) → state_behind s token ≡ behind_text s
  pub tells : (s : State) (place : ℕ) → events_of s token place ≡ text_events s (c ∷ []) place
  pub fault : (limits : Limits) (s : State) → is_outside s ≡ false → is_text_too_many limits s ≡ false → fault_of limits s token ≡ None

text-admitted : (limits : Limits) (s : State) (may : Bool) → is_outside s ≡ false → is_text_too_many limits s ≡ false → text_fault limits s may ≡ None
text-admitted limits s may outside few =
    passed (is_outside s) _ _ outside ∙ passed (is_text_too_many limits s) (Some TooManyNodes) None few

of_character : (c : ℕ) → IsCharacterToken c (a_character c)
unfolding state_behind events_of fault_of
of_character c = record {
  behind = λ s. refl;
  tells = λ s place. refl;
  fault = λ limits s outside few. text-admitted limits s (is_white_space c) outside few;
}

of_reference : (c : ℕ) → IsCharacterToken c (a_reference c)
unfolding state_behind events_of fault_of
of_reference c = record {
  behind = λ s. refl;
  tells = λ s place. refl;
  fault = λ limits s outside few. text-admitted limits s false outside few;
}

-- What is written for a character of a text is its token, whose first byte ends no text.
pub record TextToken (c : ℕ) (r : List ℕ) : Type 0 where
  pub token : Token
  pub is_character : IsCharacterToken c token
  pub reads : beginning Farther true (encode_utf8_all (in_text c) ++ r) ≡ good token (length (encode_utf8_all (in_text c)))
  pub first : ℕ
  pub more : List ℕ
  pub is : encode_utf8_all (in_text c) ++ r ≡ first ∷ more
  pub some : 0 < length (encode_utf8_all (in_text c))
  pub no_end : ¬ (first ≡ 0x3E)
  pub bracket : first ≡ 0x5D → (c ≡ 0x5D) × (more ≡ r)

escaped-ampersand : (r : List ℕ) → TextToken 0x26 r
unfolding in_text beginning reference_at referred encode
escaped-ampersand r = record {
  token = a_reference 0x26;
  is_character = of_reference 0x26;
  reads = refl;
  first = 0x26;
  more = codes "amp;" ++ r;
  is = refl;
  some = omega arith;
  no_end = λ e. omega arith;
  bracket = λ e. absurd (omega arith);
}

escaped-less : (r : List ℕ) → TextToken 0x3C r
unfolding in_text beginning reference_at referred encode
escaped-less r = record {
  token = a_reference 0x3C;
  is_character = of_reference 0x3C;
  reads = refl;
  first = 0x26;
  more = codes "lt;" ++ r;
  is = refl;
  some =
      omega arith;
  no_end = λ e. omega arith;
  bracket = λ e. absurd (omega arith);
}

escaped-greater : (r : List ℕ) → TextToken 0x3E r
unfolding in_text beginning reference_at referred encode
escaped-greater r = record {
  token = a_reference 0x3E;
  is_character = of_reference 0x3E;
  reads = refl;
  first = 0x26;
  more = codes "gt;" ++ r;
  is = refl;
  some =
      omega arith;
  no_end = λ e. omega arith;
  bracket = λ e. absurd (omega arith);
}

escaped-return : (r : List ℕ) → TextToken 0xD r
unfolding in_text beginning reference_at referred encode is_char
escaped-return r = record {
  token = a_reference 0xD;
  is_character = of_reference 0xD;
  reads = refl;
  first = 0x26;
  more = codes "#xD;" ++ r;
  is = refl;
  some =
      omega arith;
  no_end = λ e. omega arith;
  bracket = λ e. absurd (omega arith);
}

-- a `]` before what doesn't go on with `]>`
plain-bracket : (r : List ℕ) → begins_with (codes "]>") r ≡ false → TextToken 0x5D r
unfolding in_text beginning encode
plain-bracket r h = record {
  token = a_character 0x5D;
  is_character = of_character 0x5D;
  reads = elim-false (begins_with (codes "]>") r) _ _ h;
  first = 0x5D;
  more = r;
  is = refl;
  some = omega arith;
  no_end = λ e. omega arith;
  bracket = λ e. (refl, refl);
}

plain-begins : (first : ℕ) (more : List ℕ) (c n : ℕ) → ¬ (first ≡ 0x3C) → ¬ (first ≡ 0x26) → ¬ (first ≡ 0x5D) → ¬ (first ≡ 0xD)
    → character_at first more ≡ begun.Character c n → is_char c ≡ true → beginning Farther true (first ∷ more) ≡ good (a_character c) n
unfolding beginning
plain-begins first more c n a b d e reads char =
    elim-false (first == 0x3C) _ _ (other first 0x3C a)
    ∙ (elim-false (first == 0x26) _ _ (other first 0x26 b)
    ∙ (elim-false (first == 0x5D) _ _ (other first 0x5D d)
    ∙ (elim-false (first == 0xD) _ _ (other first 0xD e)
    ∙ (ap character_token reads ∙ elim-true (is_char c) _ _ char))))

-- a character that stands as it is
plain-character : (c : ℕ) (r : List ℕ) → is_char c ≡ true → ¬ (c ≡ 0x26) → ¬ (c ≡ 0x3C) → ¬ (c ≡ 0x3E) → ¬ (c ≡ 0xD) → ¬ (c ≡ 0x5D) → TextToken c r
plain-character c r char a b d e f =
    let g = begins c r (char-scalar c char) in
    let plain = in_text-plain c a b d e in
    let written : encode_utf8_all (in_text c) ≡ encode c = ap encodes plain ∙ append-nil (encode c) in
    let is : encode_utf8_all (in_text c) ++ r ≡ g.first ∷ g.behind = ap (λ x. x ++ r) written ∙ g.is in
    let apart = λ (k : ℕ) (low : k < 128) (n : ¬ (c ≡ k)) (s : g.first ≡ k). n (sym (g.ascii (omega arith)) ∙ s) in
    record {
      token = a_character c;
      is_character = of_character c;
      reads = ap (beginning Farther true) is
          ∙ (plain-begins g.first g.behind c (length (encode c)) (apart 0x3C (omega arith) b) (apart 0x26 (omega arith) a) (apart 0x5D (omega arith) f)
          (apart 0xD (omega arith) e) g.reads char
          ∙ ap (λ x. good (a_character c) (length x)) (sym written));
      first = g.first;
      more = g.behind;
      is = is;
      some = omega (arith, ap length written, length-encode c, (len_utf8_bounds c).0);
      no_end = apart 0x3E (omega arith) d;
      bracket = λ s. absurd (apart 0x5D (omega arith) f s);
    }

pub text-token : (c : ℕ) (r : List ℕ) → is_char c ≡ true → begins_with (codes "]>") r ≡ false → TextToken c r
text-token c r char h = elim (cases_eq c 0x26) [
  | inl p ↦ subst (λ x. TextToken x r) (sym p) (escaped-ampersand r)
  | inr a ↦ elim (cases_eq c 0x3C) [
    | inl p ↦ subst (λ x. TextToken x r) (sym p) (escaped-less r)
    | inr b ↦ elim (cases_eq c 0x3E) [
      | inl p ↦ subst (λ x. TextToken x r) (sym p) (escaped-greater r)
      | inr d ↦ elim (cases_eq c 0xD) [
        | inl p ↦ subst (λ x. TextToken x r) (sym p) (escaped-return r)
        | inr e ↦ elim (cases_eq c 0x5D) [
          | inl p ↦ subst (λ x. TextToken x r) (sym p) (plain-bracket r h)
          | inr f ↦ plain-character c r char a b d e f
        ]
      ]
    ]
  ]
]

-- what is written of a text, before a tag
abbrev pub text_bytes : List ℕ → List ℕ → List ℕ
text_bytes cs r = encode_utf8_all (flat_map in_text cs) ++ (0x3C ∷ r)

pub text_bytes-cons : (c : ℕ) (cs r : List ℕ) → text_bytes (c ∷ cs) r ≡ encode_utf8_all (in_text c) ++ text_bytes cs r
text_bytes-cons c cs r = ap (λ x. x ++ (0x3C ∷ r)) (encodes-append (in_text c) (flat_map in_text cs)) ∙
    append_assoc (encode_utf8_all (in_text c)) (encode_utf8_all (flat_map in_text cs)) (0x3C ∷ r)

-- Nothing that is written of a text goes on with `]>` or `>`.
pub record Stops (bytes : List ℕ) : Type 0 where
  pub bracket : begins_with (codes "]>") bytes ≡ false
  pub greater : begins_with (0x3E ∷ []) bytes ≡ false

stops-first : (c : ℕ) (r bytes : List ℕ) (t : TextToken c r) → bytes ≡ t.first ∷ t.more → Stops r → Stops bytes
stops-first c r bytes t is rest = subst Stops (sym is) (record {
  bracket = at (cases_eq t.first 0x5D);
  greater = ap (λ b. b && true) (other t.first 0x3E t.no_end);
})
  where
    at : (t.first ≡ 0x5D) ⊎ ¬ (t.first ≡ 0x5D) → begins_with (codes "]>") (t.first ∷ t.more) ≡ false
    at (inl e) = ap (λ b. b && begins_with (0x3E ∷ []) t.more) (same t.first 0x5D e) ∙ (ap (begins_with (0x3E ∷ [])) (t.bracket e).1 ∙ rest.greater)
    at (inr n) = ap (λ b. b && begins_with (0x3E ∷ []) t.more) (other t.first 0x5D n)

pub text-stops : (cs r : List ℕ) → are_chars cs ≡ true → Stops (text_bytes cs r)
text-stops [] r h = record { bracket = refl; greater = refl }
text-stops (c ∷ cs) r h =
    let p = both _ _ h in
    let rest = text-stops cs r p.1 in
    let t = text-token c (text_bytes cs r) p.0 rest.bracket in
    stops-first c (text_bytes cs r) (text_bytes (c ∷ cs) r) t (text_bytes-cons c cs r ∙ t.is) rest
