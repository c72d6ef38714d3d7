-- The words of a constant beside literals.
use Rattle.std.proofs.Common.{◌≡◌, ℕ, Bool, true, false, List, [], ◌∷◌, refl, ap, sym, ◌∙◌}
use Rattle.std.specs.Prelude.{nat_lt, codes, bytes_eq}
use Rattle.std.specs.List.{list_all}
use Rattle.std.specs.Str.{chars, IsAscii}
use Rattle.std.proofs.lemmas.Bool.{ltb-true, and_parts}
use Rattle.std.proofs.lemmas.Str.{chars-IsAscii}
use Rattle.std.proofs.lemmas.Str.Ascii.{IsAscii-nil, IsAscii-cons}
use Rattle.bind_meaning.specs.Elements.{is_one_of}
use Rattle.bind_meaning.specs.Said.{words, other_words}
use Rattle.bind_said.proofs.ListLemmas.{or-false}

ascii : (bytes : List ℕ) → list_all (λ b. nat_lt b 128) bytes ≡ true → IsAscii bytes
ascii [] e = IsAscii-nil
ascii (b ∷ bytes) e = let parts = and_parts (nat_lt b 128) (list_all (λ b. nat_lt b 128) bytes) e in
    IsAscii-cons b bytes (ltb-true b 128 parts.0) (ascii bytes parts.1)

-- a literal is the characters that it has
pub literal : (code : List ℕ) → list_all (λ b. nat_lt b 128) code ≡ true → chars code ≡ code
literal code plain = chars-IsAscii code (ascii code plain)

-- a text compared with a literal
pub like-literal : (r : Bool) (text code : List ℕ) → list_all (λ b. nat_lt b 128) code ≡ true → r ≡ bytes_eq text (chars code) → r ≡ bytes_eq text code
like-literal r text code plain e = e ∙ ap (bytes_eq text) (literal code plain)

pub own-word : (text word : List ℕ) → bytes_eq word text ≡ true → true ≡ is_one_of (words text) word
own-word text word h = rw h refl

pub other-word : (text word : List ℕ) (r : Bool) → bytes_eq word text ≡ false → r ≡ is_one_of (other_words text) word → r ≡ is_one_of (words text) word
other-word text word r h e = e ∙ rw h refl

one : (word code : List ℕ) (r : Bool) → r ≡ bytes_eq word code → r ≡ is_one_of (code ∷ []) word
one word code r e = e ∙ sym (or-false (bytes_eq word code))

-- the other words by which constant the text is
abbrev words_by : Bool → Bool → Bool → List (List ℕ)
words_by a b c = elim a [
  | true ↦ codes "0" ∷ []
  | false ↦ elim b [ true ↦ codes "1" ∷ [] | false ↦ elim c [ true ↦ codes "FC" ∷ [] | false ↦ [] ] ]
]

chosen : (text word : List ℕ) (a b c : Bool) → bytes_eq text (codes "false") ≡ a → bytes_eq text (codes "true") ≡ b → bytes_eq text (codes "TAX") ≡ c
    → is_one_of (words_by a b c) word ≡ is_one_of (other_words text) word
chosen text word a b c h k t =
    ap (λ x. is_one_of (words_by x b c) word) (sym h)
    ∙ (ap (λ x. is_one_of (words_by (bytes_eq text (codes "false")) x c) word) (sym k)
    ∙ ap (λ x. is_one_of (words_by (bytes_eq text (codes "false")) (bytes_eq text (codes "true")) x) word) (sym t))

pub word-for-false : (text word : List ℕ) (r : Bool) → bytes_eq text (codes "false") ≡ true → r ≡ bytes_eq word (codes "0")
    → r ≡ is_one_of (other_words text) word
word-for-false text word r h e =
    one word (codes "0") r e ∙ chosen text word true (bytes_eq text (codes "true")) (bytes_eq text (codes "TAX")) h refl refl

pub word-for-true : (text word : List ℕ) (r : Bool) → bytes_eq text (codes "false") ≡ false → bytes_eq text (codes "true") ≡ true
    → r ≡ bytes_eq word (codes "1") → r ≡ is_one_of (other_words text) word
word-for-true text word r h k e = one word (codes "1") r e ∙ chosen text word false true (bytes_eq text (codes "TAX")) h k refl

pub word-for-tax : (text word : List ℕ) (r : Bool) → bytes_eq text (codes "false") ≡ false → bytes_eq text (codes "true") ≡ false
    → bytes_eq text (codes "TAX") ≡ true → r ≡ bytes_eq word (codes "FC") → r ≡ is_one_of (other_words text) word
word-for-tax text word r h k t e = one word (codes "FC") r e ∙ chosen text word false false true h k t

pub no-other-word : (text word : List ℕ) → bytes_eq text (codes "false") ≡ false → bytes_eq text (codes "true") ≡ false
    → bytes_eq text (codes "TAX") ≡ false → false ≡ is_one_of (other_words text) word
no-other-word text word h k t = chosen text word false false false h k t
