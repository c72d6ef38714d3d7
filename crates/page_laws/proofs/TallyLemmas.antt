-- How many of some things pass a test.
use Rattle.std.proofs.Common.{◌≡◌, ◌≢◌, ℕ, zero, suc, ◌+◌, ◌<◌, ◌≤◌, Bool, true, false, cond, List, [], ◌∷◌, ◌++◌, map, length, refl, ap, ap₂, sym, ◌∙◌, inl}
use Rattle.std.proofs.Common.{inr, arith, append-nil, true≢false}
use Rattle.std.specs.Prelude.{Some, filter, find, is_some, if◌then◌else◌}
use Rattle.std.specs.List.{flat_map, list_all}
use Rattle.std.proofs.lemmas.Bool.{and_parts, cases_eq}
use Rattle.std.proofs.lemmas.Grind.{flat_map-append}
use Rattle.std.proofs.lemmas.List.{length-append}
use Rattle.std.proofs.lemmas.List.Elements.{filter-append}
use Rattle.page_values.specs.Places.{numbers_to}

abbrev pub tally : {X : Type 0} → (X → Bool) → List X → ℕ
tally p xs = length (filter p xs)

abbrev pub bit : Bool → ℕ
bit b = if b then 1 else 0

module _ {X : Type 0} (p : X → Bool) where
  pub tally-append : (xs ys : List X) → tally p (xs ++ ys) ≡ tally p xs + tally p ys
  tally-append xs ys = ap length (filter-append p xs ys) ∙ length-append (filter p xs) (filter p ys)

  pub tally-one : (x : X) → tally p (x ∷ []) ≡ bit (p x)
  tally-one x = by (p x)
    where
      by : (b : Bool) → length (cond b (x ∷ []) []) ≡ bit b
      by true = refl
      by false = refl

  pub tally-none : {A : Type 0} (f : A → List X) → ((a : A) → tally p (f a) ≡ 0) → (xs : List A) → tally p (flat_map f xs) ≡ 0
  tally-none f none [] = refl
  tally-none f none (a ∷ xs) = tally-append (f a) (flat_map f xs) ∙ ap₂ (λ m n. m + n) (none a) (tally-none f none xs)

  -- a filter that leaves all that pass, and one that leaves none of them
  pub tally-kept : (r : X → Bool) → ((x : X) → p x ≡ true → r x ≡ true) → (xs : List X) → tally p (filter r xs) ≡ tally p xs
  tally-kept r keeps [] = refl
  tally-kept r keeps (x ∷ xs) = by (p x) refl (r x) refl (tally-kept r keeps xs)
    where
      counted : (a : Bool) → tally p (filter r xs) ≡ tally p xs
          → length (cond a (x ∷ filter p (filter r xs)) (filter p (filter r xs))) ≡ length (cond a (x ∷ filter p xs) (filter p xs))
      counted true rest = ap suc rest
      counted false rest = rest

      by : (a : Bool) → p x ≡ a → (b : Bool) → r x ≡ b → tally p (filter r xs) ≡ tally p xs
          → tally p (cond b (x ∷ filter r xs) (filter r xs)) ≡ length (cond a (x ∷ filter p xs) (filter p xs))
      by a e true f rest = ap (λ t. length (cond t (x ∷ filter p (filter r xs)) (filter p (filter r xs)))) e ∙ counted a rest
      by true e false f rest = absurd (true≢false (sym (keeps x e) ∙ f))
      by false e false f rest = rest

  pub tally-dropped : (r : X → Bool) → ((x : X) → p x ≡ true → r x ≡ false) → (xs : List X) → tally p (filter r xs) ≡ 0
  tally-dropped r drops [] = refl
  tally-dropped r drops (x ∷ xs) = by (p x) refl (r x) refl (tally-dropped r drops xs)
    where
      by : (a : Bool) → p x ≡ a → (b : Bool) → r x ≡ b → tally p (filter r xs) ≡ 0 → tally p (cond b (x ∷ filter r xs) (filter r xs)) ≡ 0
      by true e true f rest = absurd (true≢false (sym f ∙ drops x e))
      by false e true f rest = ap (λ t. length (cond t (x ∷ filter p (filter r xs)) (filter p (filter r xs)))) e ∙ rest
      by a e false f rest = rest

  pub tally-map : {A : Type 0} (f : A → X) (xs : List A) → tally p (map f xs) ≡ tally (λ a. p (f a)) xs
  tally-map f [] = refl
  tally-map f (a ∷ xs) = by (p (f a)) (tally-map f xs)
    where
      by : (b : Bool) → tally p (map f xs) ≡ tally (λ y. p (f y)) xs
          → length (cond b (f a ∷ filter p (map f xs)) (filter p (map f xs))) ≡ length (cond b (a ∷ filter (λ y. p (f y)) xs) (filter (λ y. p (f y)) xs))
      by true rest = ap suc rest
      by false rest = rest

  -- where one passes, one is found
  pub tally-found : (q : X → Bool) → ((x : X) → p x ≡ true → q x ≡ true) → (xs : List X) → tally p xs ≡ 1 → is_some (find q xs) ≡ true
  tally-found q also [] h = absurd (omega (arith, h))
  tally-found q also (x ∷ xs) h = by (p x) refl (q x) refl (tally-found q also xs) h
    where
      by : (a : Bool) → p x ≡ a → (b : Bool) → q x ≡ b → (tally p xs ≡ 1 → is_some (find q xs) ≡ true)
          → length (cond a (x ∷ filter p xs) (filter p xs)) ≡ 1 → is_some (cond b (Some x) (find q xs)) ≡ true
      by a e true f rest k = refl
      by true e false f rest k = absurd (true≢false (sym (also x e) ∙ f))
      by false e false f rest k = rest k

  -- numbers of which one alone gives what passes, or none
  pub tally-below : (f : ℕ → List X) (n k : ℕ) → n < k → ((j : ℕ) → j ≢ k → tally p (f j) ≡ 0) → tally p (flat_map f (numbers_to n)) ≡ 0
  tally-below f zero k below others = refl
  tally-below f (suc n) k below others =
      let other : suc n ≢ k = omega arith in
      ap (tally p) (flat_map-append f (numbers_to n) (suc n ∷ []))
      ∙ (tally-append (flat_map f (numbers_to n)) (f (suc n) ++ [])
      ∙ ap₂ (λ a b. a + b) (tally-below f n k (omega arith) others) (ap (tally p) (append-nil (f (suc n))) ∙ others (suc n) other))

  pub tally-numbers : (f : ℕ → List X) (n k : ℕ) → 1 ≤ k → k ≤ n → ((j : ℕ) → j ≢ k → tally p (f j) ≡ 0)
      → tally p (flat_map f (numbers_to n)) ≡ tally p (f k)
  tally-numbers f zero k first last others = absurd (omega arith)
  tally-numbers f (suc n) k first last others =
      ap (tally p) (flat_map-append f (numbers_to n) (suc n ∷ []))
      ∙ (tally-append (flat_map f (numbers_to n)) (f (suc n) ++ [])
      ∙ (ap (λ b. tally p (flat_map f (numbers_to n)) + b) (ap (tally p) (append-nil (f (suc n)))) ∙ here (λ l. tally-numbers f n k first l others)))
    where
      here : (k ≤ n → tally p (flat_map f (numbers_to n)) ≡ tally p (f k)) → tally p (flat_map f (numbers_to n)) + tally p (f (suc n)) ≡ tally p (f k)
      here earlier = elim (cases_eq k (suc n)) [
        | inl same ↦ (let below : n < k = omega arith in
            let none = tally-below f n k below others in
            let it : tally p (f (suc n)) ≡ tally p (f k) = ap (λ j. tally p (f j)) (sym same) in
            omega (arith, none, it))
        | inr other ↦ (let next : suc n ≢ k = λ e. other (sym e) in
            let none = others (suc n) next in
            let rest = earlier (omega (arith, other)) in
            omega (arith, none, rest))
      ]

-- two tallies that go over the same things
pub tally-pair : {A X Y : Type 0} (p : X → Bool) (q : Y → Bool) (f : A → List X) (g : A → List Y) (test : A → Bool)
    → ((a : A) → test a ≡ true → tally p (f a) ≡ tally q (g a)) → (xs : List A) → list_all test xs ≡ true
    → tally p (flat_map f xs) ≡ tally q (flat_map g xs)
tally-pair p q f g test each [] h = refl
tally-pair p q f g test each (a ∷ xs) h =
    let parts = and_parts (test a) (list_all test xs) h in
    tally-append p (f a) (flat_map f xs)
    ∙ (ap₂ (λ m n. m + n) (each a parts.0) (tally-pair p q f g test each xs parts.1) ∙ sym (tally-append q (g a) (flat_map g xs)))

pub tally-both : {A X Y : Type 0} (p : X → Bool) (q : Y → Bool) (f : A → List X) (g : A → List Y)
    → ((a : A) → tally p (f a) ≡ tally q (g a)) → (xs : List A) → tally p (flat_map f xs) ≡ tally q (flat_map g xs)
tally-both p q f g each [] = refl
tally-both p q f g each (a ∷ xs) =
    tally-append p (f a) (flat_map f xs)
    ∙ (ap₂ (λ m n. m + n) (each a) (tally-both p q f g each xs) ∙ sym (tally-append q (g a) (flat_map g xs)))

-- pieces in a row
pub tally-row : {X Y : Type 0} (p : X → Bool) (q : Y → Bool) (a b : List X) (c d : List Y) → tally p a ≡ tally q c → tally p b ≡ tally q d
    → tally p (a ++ b) ≡ tally q (c ++ d)
tally-row p q a b c d h k = tally-append p a b ∙ (ap₂ (λ m n. m + n) h k ∙ sym (tally-append q c d))
