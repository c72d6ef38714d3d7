-- What begins where the input has ended: a token lies within the bytes, and a `]` is one.
use Rattle.std.proofs.Common.{◌≡◌, ℕ, suc, ◌<◌, ◌≤◌, ◌==◌, Bool, true, false, List, [], ◌∷◌, length, refl, arith}
use Rattle.std.specs.Prelude.{codes}
use Rattle.std.proofs.lemmas.Bool.Decides.{nat_tests}
use Rattle.xml_tokens.specs.Searches.{begins_with}
use Rattle.xml_tokens.specs.Markup.{a_character, a_mark}
use Rattle.xml_tokens.specs.References.{reference_at}
use Rattle.xml_tokens.specs.Encoding as encoding
use Rattle.xml_tokens.specs.declared.kind.XmlKind.TheVariants.{BadMarkup}
use Rattle.xml_tokens.specs.Beginnings.{Beginning, good, bad, later, beginning, markup_at, reference_token, bracket_at, line_end_at, character_token}
use Rattle.xml_tokens.specs.Beginnings.{begins_with_mark}
use Rattle.xml_tokens.specs.declared.beginning.Position.{Position}
use Rattle.xml_tokens.proofs.BeginningLemmas.{Within}
use Rattle.xml_tokens.proofs.WithinLemmas.{beginning-within}

line-end-ends : (k : ℕ) (a : List ℕ) → suc (length a) ≤ k → Within k (line_end_at true a)
line-end-ends k [] h = (omega arith, omega arith)
line-end-ends k (c ∷ a) h = by (c == 0xA)
  where
    by : (t : Bool) → Within k (elim t [ true ↦ good (a_character 0xA) 2 | false ↦ good (a_character 0xA) 1 ])
    by true = (omega arith, omega arith)
    by false = (omega arith, omega arith)

bracket-ends : (k : ℕ) (a : List ℕ) → suc (length a) ≤ k → Within k (bracket_at true a)
bracket-ends k a h = by (begins_with (codes "]>") a)
  where
    by : (t : Bool) → Within k (elim t [ true ↦ bad BadMarkup 3 | false ↦ good (a_character 0x5D) 1 ])
    by true = tt
    by false = (omega arith, omega arith)

-- what begins, by the tests of its first byte
abbrev by_tests : Position → Bool → ℕ → List ℕ → Bool → Bool → Bool → Bool → Beginning
by_tests p e c a t1 t2 t3 t4 = elim t1 [
  | true ↦ markup_at p a
  | false ↦ elim t2 [
    | true ↦ reference_token (reference_at a)
    | false ↦ elim t3 [
      | true ↦ bracket_at e a
      | false ↦ elim t4 [
        | true ↦ line_end_at e a
        | false ↦ elim (begins_with_mark p (c ∷ a)) [ true ↦ good a_mark 3 | false ↦ character_token (encoding.character_at c a) ]
      ]
    ]
  ]
]

pub begins-within : (p : Position) (e : Bool) (c : ℕ) (a : List ℕ) → Within (suc (length a)) (beginning p e (c ∷ a))
unfolding beginning
begins-within p false c a = beginning-within p c a
begins-within p true c a = by (c == 0x3C) (c == 0x26) (c == 0x5D) (c == 0xD) (beginning-within p c a)
  where
    by : (t1 t2 t3 t4 : Bool) → Within (suc (length a)) (by_tests p false c a t1 t2 t3 t4) → Within (suc (length a)) (by_tests p true c a t1 t2 t3 t4)
    by true t2 t3 t4 w = w
    by false true t3 t4 w = w
    by false false true t4 w = bracket-ends (suc (length a)) a (omega arith)
    by false false false true w = line-end-ends (suc (length a)) a (omega arith)
    by false false false false w = w

differs : (c d : ℕ) → (c == d) ≡ true → (c == 0x5D) ≡ true → d < 0x5D → ⊥
differs c d h g l = grind (arith, nat_tests)

bracket-whole : (t : Bool) → elim t [ true ↦ bad BadMarkup 3 | false ↦ good (a_character 0x5D) 1 ] ≡ later → ⊥
bracket-whole true h = cc
bracket-whole false h = cc

-- Where the input has ended, a `]` isn't unfinished.
pub bracket-begins : (p : Position) (c : ℕ) (a : List ℕ) → beginning p true (c ∷ a) ≡ later → (c == 0x5D) ≡ false
unfolding beginning
bracket-begins p c a h = by (c == 0x3C) (c == 0x26) (c == 0x5D) refl refl refl h
  where
    by : (t1 t2 t3 : Bool) → (c == 0x3C) ≡ t1 → (c == 0x26) ≡ t2 → (c == 0x5D) ≡ t3 → by_tests p true c a t1 t2 t3 (c == 0xD) ≡ later → t3 ≡ false
    by t1 t2 false e1 e2 e3 g = refl
    by true t2 true e1 e2 e3 g = absurd (differs c 0x3C e1 e3 (omega arith))
    by false true true e1 e2 e3 g = absurd (differs c 0x26 e2 e3 (omega arith))
    by false false true e1 e2 e3 g = absurd (bracket-whole (begins_with (codes "]>") a) g)
