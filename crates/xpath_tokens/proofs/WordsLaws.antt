-- The words of a text, as far as a loop over its places has come.
use Rattle.std.proofs.Common.{◌≡◌, ℕ, zero, suc, ◌+◌, ◌<◌, ◌≤◌, List, [], ◌∷◌, ◌++◌, Result, Ok, Err, length, take, drop, refl, ap, ◌∙◌, append_assoc, arith}
use Rattle.xpath_tokens.specs.Longest.{longest_length}
use Rattle.xpath_tokens.specs.Words.{is_word, separator_length, with_word, words_from}

-- the words before the words
abbrev pub with_words : List (List ℕ) → Result (List (List ℕ)) ℕ → Result (List (List ℕ)) ℕ
with_words front (Ok found) = Ok (front ++ found)
with_words front (Err place) = Err place

pub with_words-none : (read : Result (List (List ℕ)) ℕ) → with_words [] read ≡ read
with_words-none (Ok found) = refl
with_words-none (Err place) = refl

pub with_words-push : (front : List (List ℕ)) (word : List ℕ) (read : Result (List (List ℕ)) ℕ) →
    with_words (front ++ word ∷ []) read ≡ with_words front (with_word word read)
with_words-push front word (Ok found) = ap Ok (append_assoc front (word ∷ []) found)
with_words-push front word (Err place) = refl

-- what is skipped at the front
skipped : (place k : ℕ) (text : List ℕ) → k ≤ length text → words_from place k text ≡ words_from (place + k) 0 (drop k text)
unfolding words_from
skipped place zero text h = let e : place ≡ place + 0 = omega arith in ap (λ p. words_from p 0 text) e
skipped place (suc k) [] h = absurd (omega arith)
skipped place (suc k) (c ∷ text) h = skipped (place + 1) k text (omega arith) ∙
    (let e : place + 1 + k ≡ place + suc k = omega arith in ap (λ p. words_from p 0 (drop k text)) e)

-- what stands at a place, by the two lengths there
at_place : ℕ → ℕ → List ℕ → ℕ → ℕ → Result (List (List ℕ)) ℕ
at_place place c text separator word = elim separator [
  | suc n ↦ words_from (place + 1) n text
  | zero ↦ elim word [ suc n ↦ with_word (take (suc n) (c ∷ text)) (words_from (place + 1) n text) | zero ↦ Err place ]
]

at_place-is : (place c : ℕ) (text : List ℕ) (separator word : ℕ) → separator_length (c ∷ text) ≡ separator → longest_length is_word (c ∷ text) ≡ word →
    words_from place 0 (c ∷ text) ≡ at_place place c text separator word
unfolding words_from at_place
at_place-is place c text separator word e f = ap (λ s. at_place place c text s (longest_length is_word (c ∷ text))) e ∙ ap (at_place place c text separator) f

pub after-separator : (place n : ℕ) (text : List ℕ) → 0 < n → n ≤ length text → separator_length text ≡ n →
    words_from place 0 text ≡ words_from (place + n) 0 (drop n text)
unfolding words_from at_place
after-separator place n [] h k e = absurd (omega arith)
after-separator place zero (c ∷ text) h k e = absurd (omega arith)
after-separator place (suc n) (c ∷ text) h k e = at_place-is place c text (suc n) _ e refl ∙
    (skipped (place + 1) n text (omega arith) ∙ (let f : place + 1 + n ≡ place + suc n = omega arith in ap (λ p. words_from p 0 (drop n text)) f))

pub after-word : (place n : ℕ) (text : List ℕ) → 0 < n → n ≤ length text → separator_length text ≡ 0 → longest_length is_word text ≡ n
    → words_from place 0 text ≡ with_word (take n text) (words_from (place + n) 0 (drop n text))
unfolding words_from at_place
after-word place n [] h k e f = absurd (omega arith)
after-word place zero (c ∷ text) h k e f = absurd (omega arith)
after-word place (suc n) (c ∷ text) h k e f = at_place-is place c text 0 (suc n) e f ∙
    (ap (with_word (c ∷ take n text)) (skipped (place + 1) n text (omega arith) ∙
    (let g : place + 1 + n ≡ place + suc n = omega arith in ap (λ p. words_from p 0 (drop n text)) g)))

pub no-word : (place : ℕ) (text : List ℕ) → 0 < length text → separator_length text ≡ 0 → longest_length is_word text ≡ 0 → words_from place 0 text ≡ Err place
unfolding words_from at_place
no-word place [] h e f = absurd (omega arith)
no-word place (c ∷ text) h e f = at_place-is place c text 0 0 e f

pub no-text : (place : ℕ) → words_from place 0 [] ≡ Ok []
unfolding words_from
no-text place = refl
