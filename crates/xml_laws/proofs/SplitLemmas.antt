-- Where a test first holds in what is written behind a front.
use Rattle.std.proofs.Common.{◌≡◌, ℕ, suc, ◌+◌, Bool, true, false, not, ◌||◌, List, [], ◌∷◌, ◌++◌, length, take, drop, refl, sym, ap, ◌∙◌, arith, cond}
use Rattle.std.specs.List.{list_all, list_any, prefix_len, position_or_len, before_first, after_first}
use Rattle.std.proofs.Math.Seq.{take-append_seam, drop-append-add}
use Rattle.std.proofs.lemmas.List.{append-nil}
use Rattle.inv_base.proofs.TextLemmas.{both}

module _ (p : ℕ → Bool) where
  not_false : (b : Bool) → not b ≡ true → b ≡ false
  not_false true h = cc
  not_false false h = refl

  pub position-front : (front : List ℕ) (c : ℕ) (rest : List ℕ) → list_all (λ c. not (p c)) front ≡ true → p c ≡ true →
      position_or_len p (front ++ (c ∷ rest)) ≡ length front
  position-front [] c rest h e = ap (λ t. cond (not t) (1 + prefix_len (λ x. not (p x)) rest) 0) e
  position-front (b ∷ front) c rest h e =
      let s : 1 + length front ≡ suc (length front) = omega arith in
      let q = both _ _ h in
      ap (λ t. cond t (1 + position_or_len p (front ++ (c ∷ rest))) 0) q.0 ∙ (ap (λ n. 1 + n) (position-front front c rest q.1 e) ∙ s)

  pub position-all : (front : List ℕ) → list_all (λ c. not (p c)) front ≡ true → position_or_len p front ≡ length front
  position-all [] h = refl
  position-all (b ∷ front) h =
      let s : 1 + length front ≡ suc (length front) = omega arith in
      let q = both _ _ h in
      ap (λ t. cond t (1 + position_or_len p front) 0) q.0 ∙ (ap (λ n. 1 + n) (position-all front q.1) ∙ s)

  pub before-front : (front : List ℕ) (c : ℕ) (rest : List ℕ) → list_all (λ c. not (p c)) front ≡ true → p c ≡ true →
      before_first p (front ++ (c ∷ rest)) ≡ front
  before-front front c rest h e = ap (λ n. take n (front ++ (c ∷ rest))) (position-front front c rest h e) ∙ take-append_seam front (c ∷ rest)

  pub after-front : (front : List ℕ) (c : ℕ) (rest : List ℕ) → list_all (λ c. not (p c)) front ≡ true → p c ≡ true → after_first p (front ++ (c ∷ rest)) ≡ rest
  after-front front c rest h e = ap (λ n. drop (n + 1) (front ++ (c ∷ rest))) (position-front front c rest h e) ∙ drop-append-add front (c ∷ rest) 1

  pub before-all : (front : List ℕ) → list_all (λ c. not (p c)) front ≡ true → before_first p front ≡ front
  before-all front h = ap (λ n. take n front) (position-all front h) ∙ (ap (take (length front)) (sym (append-nil front)) ∙ take-append_seam front [])

  pub any-front : (front : List ℕ) (c : ℕ) (rest : List ℕ) → p c ≡ true → list_any p (front ++ (c ∷ rest)) ≡ true
  any-front [] c rest e = ap (λ t. t || list_any p rest) e
  any-front (b ∷ front) c rest e = ap (λ t. p b || t) (any-front front c rest e) ∙ or_true (p b)
    where
      or_true : (b : Bool) → (b || true) ≡ true
      or_true true = refl
      or_true false = refl

  pub any-none : (front : List ℕ) → list_all (λ c. not (p c)) front ≡ true → list_any p front ≡ false
  any-none [] h = refl
  any-none (b ∷ front) h = let q = both _ _ h in ap (λ t. t || list_any p front) (not_false (p b) q.0) ∙ any-none front q.1
