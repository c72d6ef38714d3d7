-- Differences, one after another.
use Rattle.std.proofs.Common.{◌≡◌, ℕ, zero, suc, ◌+◌, ◌<◌, List, [], ◌∷◌, ◌++◌, ap, ◌∙◌, append_assoc, take, length, get_or, arith}
use Rattle.std.specs.Prelude.{flat_map, Result, Ok, Err, OnOk}
use Rattle.std.proofs.lemmas.List.{append-nil, take_more}
use Rattle.std.proofs.lemmas.Grind.{flat_map-append}
use Rattle.inv_totals.specs.Totals.{numbers_from}

-- a piece behind others
pub found-append : {A : Type 0} (old mid new a b : List A) → mid ≡ old ++ a → new ≡ mid ++ b → new ≡ old ++ (a ++ b)
found-append old mid new a b p q = q ∙ (ap (λ x. x ++ b) p ∙ append_assoc old a b)

-- the last call of several
pub found-last : {A E : Type 0} (result : Result (Unit {0}) E) (old mid new a b : List A) → mid ≡ old ++ a → OnOk result (new ≡ mid ++ b)
    → OnOk result (new ≡ old ++ (a ++ b))
found-last (Ok done) old mid new a b p q = found-append old mid new a b p q
found-last (Err fault) old mid new a b p q = tt

pub one_number : {A : Type 0} (f : ℕ → List A) (n : ℕ) → flat_map f (n ∷ []) ≡ f n
one_number f n = append-nil (f n)

-- a total of the document more
pub root-more : {A : Type 0} (f : ℕ → List A) (xs : List ℕ) (k : ℕ) → k < length xs → flat_map f (take (k + 1) xs) ≡ flat_map f (take k xs) ++ f (get_or xs k 0)
root-more f xs k within =
    ap (flat_map f) (take_more xs k 0 within) ∙ (flat_map-append f (take k xs) (get_or xs k 0 ∷ [])
    ∙ ap (λ x. flat_map f (take k xs) ++ x) (one_number f (get_or xs k 0)))

pub numbers-more : (from n : ℕ) → numbers_from from (suc n) ≡ numbers_from from n ++ (from + n) ∷ []
numbers-more from zero = ap (λ k. k ∷ []) (let e : from ≡ from + 0 = omega arith in e)
numbers-more from (suc n) =
    ap (λ xs. from ∷ xs) (numbers-more (from + 1) n ∙ ap (λ k. numbers_from (from + 1) n ++ k ∷ []) (let e : from + 1 + n ≡ from + suc n = omega arith in e))

-- a breakdown more
pub breakdowns-more : {A : Type 0} (f : ℕ → List A) (n : ℕ) → flat_map f (numbers_from 1 (n + 1)) ≡ flat_map f (numbers_from 1 n) ++ f (n + 1)
breakdowns-more f n =
    ap (λ m. flat_map f (numbers_from 1 m)) (let e : n + 1 ≡ suc n = omega arith in e)
    ∙ (ap (flat_map f) (numbers-more 1 n) ∙ (flat_map-append f (numbers_from 1 n) ((1 + n) ∷ [])
    ∙ ap (λ x. flat_map f (numbers_from 1 n) ++ x) (one_number f (1 + n) ∙ ap f (let e : 1 + n ≡ n + 1 = omega arith in e))))
