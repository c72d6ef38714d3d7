-- Messages, one character behind the other.
use Rattle.std.proofs.Common.{◌≡◌, ℕ, ◌+◌, ◌<◌, Bool, true, false, List, [], ◌∷◌, ◌++◌, length, take, get_or, refl, ap, sym, ◌∙◌, append_assoc, append-nil}
use Rattle.std.proofs.lemmas.List.{take_more}
use Rattle.inv_base.specs.Characters.{is_white_space}
use Rattle.schematron_texts.specs.Messages.{spaced, squeezed_behind, begun_behind, waits_behind, Written, message_of}

squeezed-step : (white begun waits : Bool) (c : ℕ) (xs ys : List ℕ)
    → squeezed_behind begun begun (xs ++ ys) ≡ squeezed_behind begun begun xs ++ squeezed_behind (begun_behind begun xs) (waits_behind begun begun xs) ys
    → squeezed_behind true false (xs ++ ys) ≡ squeezed_behind true false xs ++ squeezed_behind (begun_behind true xs) (waits_behind true false xs) ys
    → (elim white as (λ _. List ℕ) [ true ↦ squeezed_behind begun begun (xs ++ ys) | false ↦ spaced waits c ++ squeezed_behind true false (xs ++ ys) ])
    ≡ (elim white as (λ _. List ℕ) [ true ↦ squeezed_behind begun begun xs | false ↦ spaced waits c ++ squeezed_behind true false xs ])
    ++ squeezed_behind (elim white as (λ _. Bool) [ true ↦ begun_behind begun xs | false ↦ begun_behind true xs ])
    (elim white as (λ _. Bool) [ true ↦ waits_behind begun begun xs | false ↦ waits_behind true false xs ]) ys
squeezed-step true begun waits c xs ys p q = p
squeezed-step false begun waits c xs ys p q = ap (λ t. spaced waits c ++ t) q ∙
    sym (append_assoc (spaced waits c) (squeezed_behind true false xs) (squeezed_behind (begun_behind true xs) (waits_behind true false xs) ys))

squeezed-append : (begun waits : Bool) (xs ys : List ℕ) → squeezed_behind begun waits (xs ++ ys) ≡ squeezed_behind begun waits xs ++
    squeezed_behind (begun_behind begun xs) (waits_behind begun waits xs) ys
squeezed-append begun waits [] ys = refl
squeezed-append begun waits (c ∷ xs) ys = squeezed-step (is_white_space c) begun waits c xs ys (squeezed-append begun begun xs ys)
    (squeezed-append true false xs ys)

begun-step : (white a b c d : Bool) → a ≡ c → b ≡ d →
    (elim white as (λ _. Bool) [ true ↦ a | false ↦ b ]) ≡ (elim white as (λ _. Bool) [ true ↦ c | false ↦ d ])
begun-step true a b c d p q = p
begun-step false a b c d p q = q

begun-append : (begun : Bool) (xs ys : List ℕ) → begun_behind begun (xs ++ ys) ≡ begun_behind (begun_behind begun xs) ys
begun-append begun [] ys = refl
begun-append begun (c ∷ xs) ys = begun-step (is_white_space c) _ _ _ _ (begun-append begun xs ys) (begun-append true xs ys) ∙ moved (is_white_space c)
  where
    moved : (white : Bool) → (elim white as (λ _. Bool) [ true ↦ begun_behind (begun_behind begun xs) ys | false ↦ begun_behind (begun_behind true xs) ys ])
        ≡ begun_behind (elim white as (λ _. Bool) [ true ↦ begun_behind begun xs | false ↦ begun_behind true xs ]) ys
    moved true = refl
    moved false = refl

waits-append : (begun waits : Bool) (xs ys : List ℕ) → waits_behind begun waits (xs ++ ys) ≡ waits_behind (begun_behind begun xs)
    (waits_behind begun waits xs) ys
waits-append begun waits [] ys = refl
waits-append begun waits (c ∷ xs) ys = begun-step (is_white_space c) _ _ _ _ (waits-append begun begun xs ys) (waits-append true false xs ys) ∙
    moved (is_white_space c)
  where
    moved : (white : Bool) → (elim white as (λ _. Bool) [
      | true ↦ waits_behind (begun_behind begun xs) (waits_behind begun begun xs) ys
      | false ↦ waits_behind (begun_behind true xs) (waits_behind true false xs) ys
    ])
        ≡ waits_behind (elim white as (λ _. Bool) [ true ↦ begun_behind begun xs | false ↦ begun_behind true xs ])
        (elim white as (λ _. Bool) [ true ↦ waits_behind begun begun xs | false ↦ waits_behind true false xs ]) ys
    moved true = refl
    moved false = refl

-- a message and one character more, by whether that is white space
abbrev one_more : Bool → Written → ℕ → Written
one_more white w c = record {
  text = w.text ++ (elim white as (λ _. List ℕ) [ true ↦ [] | false ↦ spaced w.waits c ++ [] ]);
  begun = elim white as (λ _. Bool) [ true ↦ w.begun | false ↦ true ];
  waits = elim white as (λ _. Bool) [ true ↦ w.begun | false ↦ false ];
}

message_of-more : (told : List ℕ) (c : ℕ) → message_of (told ++ c ∷ []) ≡ one_more (is_white_space c) (message_of told) c
message_of-more told c = λ i. record {
  text = squeezed-append false false told (c ∷ []) i;
  begun = begun-append false told (c ∷ []) i;
  waits = waits-append false false told (c ∷ []) i;
}

-- a character that is white space
pub message-white : (text : List ℕ) (begun waits : Bool) (c : ℕ) → is_white_space c ≡ true → (told : List ℕ) →
    record { text = text; begun = begun; waits = waits } ≡ message_of told
    → record { text = text; begun = begun; waits = begun } ≡ message_of (told ++ c ∷ [])
message-white text begun waits c white told e =
    let w : Written = record { text = text; begun = begun; waits = waits } in
    let more : one_more true w c ≡ message_of (told ++ c ∷ []) = ap (λ b. one_more b w c) (sym white) ∙
    (ap (λ m. one_more (is_white_space c) m c) e ∙ sym (message_of-more told c)) in
    ap (λ t. let r : Written = record { text = t; begun = begun; waits = begun } in r) (sym (append-nil text)) ∙ more

-- one that is none
pub message-plain : (text grown : List ℕ) (begun waits : Bool) (c : ℕ) → is_white_space c ≡ false → grown ≡ text ++ spaced waits c → (told : List ℕ) →
    record { text = text; begun = begun; waits = waits } ≡ message_of told
    → record { text = grown; begun = true; waits = false } ≡ message_of (told ++ c ∷ [])
message-plain text grown begun waits c white g told e =
    let w : Written = record { text = text; begun = begun; waits = waits } in
    let more : one_more false w c ≡ message_of (told ++ c ∷ []) = ap (λ b. one_more b w c) (sym white) ∙
    (ap (λ m. one_more (is_white_space c) m c) e ∙ sym (message_of-more told c)) in
    ap (λ t. let r : Written = record { text = t; begun = true; waits = false } in r) (g ∙ ap (λ t. text ++ t) (sym (append-nil (spaced waits c)))) ∙ more

-- one character more of those that were told
pub told_more : (told xs : List ℕ) (k c : ℕ) → (k < length xs) × (c ≡ get_or xs k c) → (told ++ take k xs) ++ c ∷ [] ≡ told ++ take (k + 1) xs
told_more told xs k c h =
    append_assoc told (take k xs) (c ∷ [])
    ∙ ap (λ t. told ++ t) (ap (λ d. take k xs ++ d ∷ []) h.1 ∙ sym (take_more xs k c h.0))
