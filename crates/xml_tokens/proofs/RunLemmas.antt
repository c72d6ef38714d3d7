-- A plain character is a token by itself, wherever it stands but at the start.
use Rattle.std.proofs.Common.{◌≡◌, ℕ, ◌<◌, Bool, true, false, not, ◌||◌, ◌==◌, List, ◌∷◌, ◌++◌, length, refl, sym, ap, ◌∙◌, arith, true≢false}
use Rattle.std.specs.Char.{encode_utf8}
use lib.Utf8.{encode}
use Rattle.inv_base.specs.Characters.{is_char}
use Rattle.inv_base.proofs.CharacterLemmas.{char-scalar}
use Rattle.inv_base.proofs.TextLemmas.{both}
use Rattle.xml_tokens.specs.declared.encoding.Begun.TheVariants as begun
use Rattle.xml_tokens.specs.Encoding.{character_at}
use Rattle.xml_tokens.specs.Markup.{a_character}
use Rattle.xml_tokens.specs.Runs.{is_plain}
use Rattle.xml_tokens.specs.Beginnings.{good, beginning, character_token, begins_with_mark}
use Rattle.xml_tokens.specs.declared.beginning.Position.{Position}
use Rattle.xml_tokens.specs.declared.beginning.Position.TheVariants.{AtStart, BehindMark, Farther}
use Rattle.xml_tokens.proofs.CharacterLemmas.{begins, other}

abbrev pub is_start : Position → Bool
is_start AtStart = true
is_start BehindMark = false
is_start Farther = false

abbrev is_special : ℕ → Bool
is_special c = c == 0x3C || (c == 0x26 || (c == 0x5D || c == 0xD))

not-false : (t : Bool) → not t ≡ true → t ≡ false
not-false true h = sym h
not-false false h = refl

no-special : (c k : ℕ) → is_plain c ≡ true → is_special k ≡ true → ¬ (c ≡ k)
no-special c k h s e = absurd (true≢false (sym s ∙ (ap is_special (sym e) ∙ not-false (is_special c) (both _ _ h).1)))

elim-false : {A : Type 0} (t : Bool) (x y : A) → t ≡ false → (elim t [ true ↦ x | false ↦ y ]) ≡ y
elim-false t x y h = ap (λ t. elim t [ true ↦ x | false ↦ y ]) h

elim-true : {A : Type 0} (t : Bool) (x y : A) → t ≡ true → (elim t [ true ↦ x | false ↦ y ]) ≡ x
elim-true t x y h = ap (λ t. elim t [ true ↦ x | false ↦ y ]) h

begins-plain : (p : Position) (ended : Bool) (first : ℕ) (more : List ℕ) (c n : ℕ) → is_start p ≡ false → ¬ (first ≡ 0x3C) → ¬ (first ≡ 0x26) → ¬ (first ≡ 0x5D)
    → ¬ (first ≡ 0xD)
    → character_at first more ≡ begun.Character c n → is_char c ≡ true → beginning p ended (first ∷ more) ≡ good (a_character c) n
unfolding beginning
begins-plain p ended first more c n s a b d e reads char =
    elim-false (first == 0x3C) _ _ (other first 0x3C a)
    ∙ (elim-false (first == 0x26) _ _ (other first 0x26 b)
    ∙ (elim-false (first == 0x5D) _ _ (other first 0x5D d)
    ∙ (elim-false (first == 0xD) _ _ (other first 0xD e)
    ∙ (elim-false (begins_with_mark p (first ∷ more)) _ _ (unmarked p s)
    ∙ (ap character_token reads ∙ elim-true (is_char c) _ _ char)))))
  where
    unmarked : (p : Position) → is_start p ≡ false → begins_with_mark p (first ∷ more) ≡ false
    unmarked AtStart h = absurd (true≢false h)
    unmarked BehindMark h = refl
    unmarked Farther h = refl

pub plain-begins : (p : Position) (ended : Bool) (c : ℕ) (more : List ℕ) → is_start p ≡ false → is_plain c ≡ true
    → beginning p ended (encode_utf8 c ++ more) ≡ good (a_character c) (length (encode_utf8 c))
unfolding encode_utf8
plain-begins p ended c more s h =
    let char : is_char c ≡ true = (both _ _ h).0 in
    let g = begins c more (char-scalar c char) in
    let apart = λ (k : ℕ) (low : k < 128) (n : ¬ (c ≡ k)) (e : g.first ≡ k). n (sym (g.ascii (omega arith)) ∙ e) in
    ap (beginning p ended) g.is
    ∙ begins-plain p ended g.first g.behind c (length (encode c)) s
    (apart 0x3C (omega arith) (no-special c 0x3C h refl)) (apart 0x26 (omega arith) (no-special c 0x26 h refl))
    (apart 0x5D (omega arith) (no-special c 0x5D h refl)) (apart 0xD (omega arith) (no-special c 0xD h refl)) g.reads char
