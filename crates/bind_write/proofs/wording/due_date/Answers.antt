use Rattle.std.proofs.Common.{◌≡◌, ℕ, Bool, true, false, List, ap, sym, ◌∙◌, refl}
use Rattle.std.specs.Prelude.{codes, bytes_eq}
use Rattle.std.specs.Str.{chars}
use Rattle.inv_terms.specs.Values.{spelled}
use Rattle.bind_meaning.specs.Writing.{written_among}
use Rattle.bind_meaning.specs.Values.{images}
use Rattle.bind_write.proofs.WordLemmas.{chars-word}
use Rattle.bind_write.proofs.wording.due_date.Goals as goal

abbrev chain : Bool → Bool → Bool → List ℕ → List ℕ
chain a b c code = elim a [ true ↦ codes "5" | false ↦ elim b [ true ↦ codes "29" | false ↦ elim c [ true ↦ codes "72" | false ↦ code ] ] ]

is_chain : (code : List ℕ) → written_among images code ≡ chain (bytes_eq (codes "3") code) (bytes_eq (codes "35") code) (bytes_eq (codes "432") code) code
is_chain code = refl

-- what a test of the code's text says of the code
tested : (word text code : List ℕ) (r b : Bool) → chars word ≡ word → chars text ≡ code → r ≡ bytes_eq (chars word) (chars text) → r ≡ b →
    bytes_eq word code ≡ b
tested word text code r b w t e v = ap (bytes_eq word) (sym t) ∙ (ap (λ x. bytes_eq x (chars text)) (sym w) ∙ (sym e ∙ v))

first : (code : List ℕ) → bytes_eq (codes "3") code ≡ true → codes "5" ≡ written_among images code
first code a = ap (λ x. chain x (bytes_eq (codes "35") code) (bytes_eq (codes "432") code) code) (sym a)

second : (code : List ℕ) → bytes_eq (codes "3") code ≡ false → bytes_eq (codes "35") code ≡ true → codes "29" ≡ written_among images code
second code a b = ap (λ x. chain false x (bytes_eq (codes "432") code) code) (sym b) ∙
    ap (λ x. chain x (bytes_eq (codes "35") code) (bytes_eq (codes "432") code) code) (sym a)

third : (code : List ℕ) → bytes_eq (codes "3") code ≡ false → bytes_eq (codes "35") code ≡ false → bytes_eq (codes "432") code ≡ true →
    codes "72" ≡ written_among images code
third code a b c =
    ap (λ x. chain false false x code) (sym c)
    ∙ (ap (λ x. chain false x (bytes_eq (codes "432") code) code) (sym b) ∙ ap (λ x. chain x (bytes_eq (codes "35") code) (bytes_eq (codes "432") code) code)
    (sym a))

none : (code : List ℕ) → bytes_eq (codes "3") code ≡ false → bytes_eq (codes "35") code ≡ false → bytes_eq (codes "432") code ≡ false →
    code ≡ written_among images code
none code a b c =
    ap (λ x. chain false false x code) (sym c)
    ∙ (ap (λ x. chain false x (bytes_eq (codes "432") code) code) (sym b) ∙ ap (λ x. chain x (bytes_eq (codes "35") code) (bytes_eq (codes "432") code) code)
    (sym a))

pub returns-then-is_word : goal.returns-then-is_word
returns-then-is_word c = first (spelled c.args.value.now)
    (tested _ _ _ _ _ (chars-word (codes "3") refl) c.text-code.ensures c.is_word.ensures c.if-is_word.true)

pub returns-then-is_word-2 : goal.returns-then-is_word-2
returns-then-is_word-2 c =
    second (spelled c.args.value.now) (tested _ _ _ _ _ (chars-word (codes "3") refl) c.text-code.ensures c.is_word.ensures c.if-is_word.false)
    (tested _ _ _ _ _ (chars-word (codes "35") refl) c.text-code.ensures c.is_word-2.ensures c.if-is_word-2.true)

pub returns-then-is_word-3 : goal.returns-then-is_word-3
returns-then-is_word-3 c =
    third (spelled c.args.value.now) (tested _ _ _ _ _ (chars-word (codes "3") refl) c.text-code.ensures c.is_word.ensures c.if-is_word.false)
    (tested _ _ _ _ _ (chars-word (codes "35") refl) c.text-code.ensures c.is_word-2.ensures c.if-is_word-2.false)
    (tested _ _ _ _ _ (chars-word (codes "432") refl) c.text-code.ensures c.is_word-3.ensures c.if-is_word-3.true)

pub returns : goal.returns
returns c =
    none (spelled c.args.value.now) (tested _ _ _ _ _ (chars-word (codes "3") refl) c.text-code.ensures c.is_word.ensures c.if-is_word.false)
    (tested _ _ _ _ _ (chars-word (codes "35") refl) c.text-code.ensures c.is_word-2.ensures c.if-is_word-2.false)
    (tested _ _ _ _ _ (chars-word (codes "432") refl) c.text-code.ensures c.is_word-3.ensures c.if-is_word-3.false)
