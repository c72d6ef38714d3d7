-- Loops over lists and over numbers of occurrences.
use Rattle.std.proofs.Common.{◌≡◌, ℕ, zero, suc, ◌+◌, ◌<◌, ◌≤◌, List, [], ◌∷◌, ◌++◌, map, length, get_or, take, drop, drop-cons, add-one, ap, sym, refl, ◌∙◌}
use Rattle.std.proofs.Common.{append-nil, arith}
use Rattle.std.specs.List.{flat_map}
use Rattle.std.proofs.lemmas.Grind.{common_steps, flat_map-append}
use Rattle.std.proofs.lemmas.List.{take_all, map-append}
use Rattle.page_values.specs.Places.{numbers_to}

module _ {X : Type 0} where
  pub drop-next : (xs : List X) (k : ℕ) (x : X) → k < length xs → x ≡ get_or xs k x → drop k xs ≡ x ∷ drop (k + 1) xs
  drop-next xs k x h is = rw (add-one, drop-cons xs k x h) (ap (λ y. y ∷ drop (suc k) xs) (sym is))

  pub drop-past : (xs : List X) (k : ℕ) → length xs ≤ k → drop k xs ≡ []
  drop-past xs k h = grind (arith, common_steps)

  pub take-next : (xs : List X) (k : ℕ) (x : X) → k < length xs → x ≡ get_or xs k x → take (k + 1) xs ≡ take k xs ++ (x ∷ [])
  take-next xs k x h is = grind (arith, common_steps)

  -- what is within doesn't hang on what stands for the rest
  pub get_or-within : (xs : List X) (k : ℕ) (d e : X) → k < length xs → get_or xs k d ≡ get_or xs k e
  get_or-within [] k d e h = absurd (omega (arith, h))
  get_or-within (x ∷ xs) zero d e h = refl
  get_or-within (x ∷ xs) (suc k) d e h = get_or-within xs k d e (omega (arith, h))

  pub drop-at : (xs : List X) (k : ℕ) (d : X) → k < length xs → drop k xs ≡ get_or xs k d ∷ drop (k + 1) xs
  drop-at xs k d h = drop-next xs k (get_or xs k d) h (get_or-within xs k d (get_or xs k d) h)

-- one number more
pub numbers-next : (k : ℕ) → numbers_to (k + 1) ≡ numbers_to k ++ ((k + 1) ∷ [])
numbers-next k = rw add-one refl

pub over-next : (f : ℕ → List ℕ) (k : ℕ) → flat_map f (numbers_to (k + 1)) ≡ flat_map f (numbers_to k) ++ f (k + 1)
over-next f k =
    ap (flat_map f) (numbers-next k) ∙ (flat_map-append f (numbers_to k) ((k + 1) ∷ []) ∙ ap (λ x. flat_map f (numbers_to k) ++ x) (append-nil (f (k + 1))))

-- what one item more gives
pub of-next : {X Y : Type 0} (f : Y → List ℕ) (g : X → Y) (xs : List X) (k : ℕ) (x : X) → k < length xs → x ≡ get_or xs k x
    → flat_map f (map g (take (k + 1) xs)) ≡ flat_map f (map g (take k xs)) ++ f (g x)
of-next f g xs k x h is =
    ap (λ ys. flat_map f (map g ys)) (take-next xs k x h is)
    ∙ (ap (flat_map f) (map-append g (take k xs) (x ∷ []))
    ∙ (flat_map-append f (map g (take k xs)) (g x ∷ []) ∙ ap (λ y. flat_map f (map g (take k xs)) ++ y) (append-nil (f (g x)))))

pub of-at : {X Y : Type 0} (f : Y → List ℕ) (g : X → Y) (xs : List X) (k : ℕ) (d : X) → k < length xs
    → flat_map f (map g (take (k + 1) xs)) ≡ flat_map f (map g (take k xs)) ++ f (g (get_or xs k d))
of-at f g xs k d h = of-next f g xs k (get_or xs k d) h (get_or-within xs k d (get_or xs k d) h)

pub of-all : {X Y : Type 0} (f : Y → List ℕ) (g : X → Y) (xs : List X) (k : ℕ) → length xs ≤ k
    → flat_map f (map g (take k xs)) ≡ flat_map f (map g xs)
of-all f g xs k h = ap (λ ys. flat_map f (map g ys)) (take_all k xs h)

-- the same of items as they are
pub items-next : {X : Type 0} (f : X → List ℕ) (xs : List X) (k : ℕ) (x : X) → k < length xs → x ≡ get_or xs k x
    → flat_map f (take (k + 1) xs) ≡ flat_map f (take k xs) ++ f x
items-next f xs k x h is =
    ap (flat_map f) (take-next xs k x h is)
    ∙ (flat_map-append f (take k xs) (x ∷ []) ∙ ap (λ y. flat_map f (take k xs) ++ y) (append-nil (f x)))

pub items-all : {X : Type 0} (f : X → List ℕ) (xs : List X) (k : ℕ) → length xs ≤ k → flat_map f (take k xs) ≡ flat_map f xs
items-all f xs k h = ap (flat_map f) (take_all k xs h)

pub items-at : {X : Type 0} (f : X → List ℕ) (xs : List X) (k : ℕ) (d : X) → k < length xs
    → flat_map f (take (k + 1) xs) ≡ flat_map f (take k xs) ++ f (get_or xs k d)
items-at f xs k d h = items-next f xs k (get_or xs k d) h (get_or-within xs k d (get_or xs k d) h)
