-- A word in two tables, one behind the other.
use Rattle.std.proofs.Common.{◌≡◌, ℕ, Bool, true, false, List, [], ◌∷◌, ◌++◌, Option, Some, None}
use Rattle.std.specs.Str.{bytes_eq}
use Rattle.xpath_tokens.specs.Tokens.{entry_of}

pub entry_first : {X : Type 0} (a b : List (List ℕ × X)) (word : List ℕ) (x : X) → Some x ≡ entry_of a word → Some x ≡ entry_of (a ++ b) word
entry_first [] b word x e = cc
entry_first {X} (entry ∷ a) b word x e = by_cases (bytes_eq word entry.0) (entry_first a b word x) e where
  by_cases : (t : Bool) → (Some x ≡ entry_of a word → Some x ≡ entry_of (a ++ b) word) →
      Some x ≡ elim t as (λ _. Option X) [ true ↦ Some entry.1 | false ↦ entry_of a word ]
      → Some x ≡ elim t as (λ _. Option X) [ true ↦ Some entry.1 | false ↦ entry_of (a ++ b) word ]
  by_cases true h e = e
  by_cases false h e = h e

pub entry_later : {X : Type 0} (a b : List (List ℕ × X)) (word : List ℕ) (found : Option X) → None ≡ entry_of a word → found ≡ entry_of b word →
    found ≡ entry_of (a ++ b) word
entry_later [] b word found e f = f
entry_later {X} (entry ∷ a) b word found e f = by_cases (bytes_eq word entry.0) (λ h. entry_later a b word found h f) e where
  by_cases : (t : Bool) → (None ≡ entry_of a word → found ≡ entry_of (a ++ b) word) →
      None ≡ elim t as (λ _. Option X) [ true ↦ Some entry.1 | false ↦ entry_of a word ]
      → found ≡ elim t as (λ _. Option X) [ true ↦ Some entry.1 | false ↦ entry_of (a ++ b) word ]
  by_cases true h e = cc
  by_cases false h e = h e
