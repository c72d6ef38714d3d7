-- Lists that are gone over, and what stands at their places.
use Rattle.std.proofs.Common.{◌≡◌, ℕ, zero, suc, ◌+◌, ◌<◌, ◌≤◌, List, [], ◌∷◌, ◌++◌, length, take, drop, get_or, map, flat_map, Some, refl, ap, sym, ◌∙◌}
use Rattle.std.proofs.Common.{append-nil}
use Rattle.std.specs.List.{slice_get}
use Rattle.std.proofs.lemmas.List.{take_more, take_all}
use Rattle.std.proofs.lemmas.Grind.{flat_map-append}

-- what stands at the front of what is left
pub record Stands {X : Type 0} (xs : List X) (k : ℕ) (y : X) (ys : List X) : Type 0 where
  pub here : slice_get xs k ≡ Some y
  pub behind : drop (suc k) xs ≡ ys

pub stands : {X : Type 0} (xs : List X) (k : ℕ) (y : X) (ys : List X) → drop k xs ≡ y ∷ ys → Stands xs k y ys
stands [] zero y ys e = cc
stands [] (suc k) y ys e = cc
stands (x ∷ xs) zero y ys e = record { here = cc; behind = cc }
stands (x ∷ xs) (suc k) y ys e = let rest = stands xs k y ys e in record { here = rest.here; behind = rest.behind }

pub flat_map-map : {X Y Z : Type 0} (f : Y → List Z) (g : X → Y) (xs : List X) → flat_map f (map g xs) ≡ flat_map (λ x. f (g x)) xs
flat_map-map f g [] = refl
flat_map-map f g (x ∷ xs) = ap (λ t. f (g x) ++ t) (flat_map-map f g xs)

pub flat_map-one : {X Y : Type 0} (f : X → Y) (xs : List X) → flat_map (λ x. f x ∷ []) xs ≡ map f xs
flat_map-one f [] = refl
flat_map-one f (x ∷ xs) = ap (λ t. f x ∷ t) (flat_map-one f xs)

-- the texts of those that were gone over, and of one more
pub text-more : {X : Type 0} (f : X → List ℕ) (xs : List X) (k : ℕ) (x : X) → k < length xs → x ≡ get_or xs k x
    → flat_map f (take k xs) ++ f x ≡ flat_map f (take (k + 1) xs)
text-more f xs k x h e =
    ap (λ t. flat_map f (take k xs) ++ t) (sym (append-nil (f x)))
    ∙ (sym (flat_map-append f (take k xs) (x ∷ [])) ∙ ap (flat_map f) (ap (λ d. take k xs ++ d ∷ []) e ∙ sym (take_more xs k x h)))

pub text-all : {X : Type 0} (f : X → List ℕ) (xs : List X) (k : ℕ) → length xs ≤ k → flat_map f (take k xs) ≡ flat_map f xs
text-all f xs k h = ap (flat_map f) (take_all k xs h)
