-- Tests of truth values and of lists.
use Rattle.std.proofs.Common.{◌≡◌, ℕ, suc, ◌≤◌, max, Bool, true, false, not, ◌&&◌, ◌||◌, List, [], ◌∷◌, ◌++◌, ◌⊎◌, inl, inr, refl, ap, sym, ◌∙◌, arith, nat_le}
use Rattle.std.specs.Prelude.{◌==◌}
use Rattle.std.specs.List.{list_all, AllByRecursion}
use Rattle.std.proofs.lemmas.Bool.{false≢true}
use Rattle.std.proofs.lemmas.Bool.Decides.{nat_tests}

pub both : (a b : Bool) → (a && b) ≡ true → (a ≡ true) × (b ≡ true)
both true b h = (refl, h)
both false b h = absurd (false≢true h)

pub and-true : (a b : Bool) → a ≡ true → b ≡ true → (a && b) ≡ true
and-true a b h k = ap (λ t. t && b) h ∙ k

pub or-left : (a b : Bool) → a ≡ true → (a || b) ≡ true
or-left a b h = ap (λ t. t || b) h

pub or-right : (a b : Bool) → b ≡ true → (a || b) ≡ true
or-right true b h = refl
or-right false b h = h

pub neither : (a b : Bool) → (a || b) ≡ false → (a ≡ false) × (b ≡ false)
neither true b h = absurd (false≢true (sym h))
neither false b h = (refl, h)

pub not-true : (a : Bool) → not a ≡ true → a ≡ false
not-true true h = absurd (false≢true h)
not-true false h = refl

pub not-false : (a : Bool) → a ≡ false → not a ≡ true
not-false a h = ap not h

pub at-most : (n limit : ℕ) → nat_le n limit ≡ true → n ≤ limit
at-most n limit h = grind (arith, nat_tests)

pub up : (a b c : ℕ) → a ≤ b → b ≤ c → a ≤ c
up a b c h k = omega arith

pub one-longer : (a b : ℕ) → a ≤ b → suc a ≤ suc b
one-longer a b h = omega arith

pub no-longer : (a b : ℕ) → a ≤ b → a ≤ suc b
no-longer a b h = omega arith

pub left-below : (a b : ℕ) → a ≤ max a b
left-below a b = omega arith

pub right-below : (a b : ℕ) → b ≤ max a b
right-below a b = omega arith

pub is-at-most : (n limit : ℕ) → n ≤ limit → nat_le n limit ≡ true
is-at-most n limit h = grind (arith, nat_tests)

pub other-than-none : (n : ℕ) → 1 ≤ n → (n == 0) ≡ false
other-than-none n h = grind (arith, nat_tests)

pub all-append : {X : Type 0} (p : X → Bool) (xs ys : List X) → list_all p xs ≡ true → list_all p ys ≡ true → list_all p (xs ++ ys) ≡ true
all-append p [] ys h k = k
all-append p (x ∷ xs) ys h k = let w = both (p x) (list_all p xs) h in and-true (p x) (list_all p (xs ++ ys)) w.0 (all-append p xs ys w.1 k)

-- ---- members

abbrev pub Among : {X : Type 0} → X → List X → Type 0
Among x [] = ⊥
Among x (y ∷ ys) = (y ≡ x) ⊎ Among x ys

pub among-front : {X : Type 0} (x : X) (xs ys : List X) → Among x xs → Among x (xs ++ ys)
among-front x [] ys h = absurd h
among-front x (y ∷ xs) ys (inl e) = inl e
among-front x (y ∷ xs) ys (inr h) = inr (among-front x xs ys h)

pub among-back : {X : Type 0} (x : X) (xs ys : List X) → Among x ys → Among x (xs ++ ys)
among-back x [] ys h = h
among-back x (y ∷ xs) ys h = inr (among-back x xs ys h)

-- Each of the one list is among the other.
abbrev pub Within : {X : Type 0} → List X → List X → Type 0
Within xs ys = AllByRecursion (λ x. Among x ys) xs

pub within-more : {X : Type 0} (y : X) (xs ys : List X) → Within xs ys → Within xs (y ∷ ys)
within-more y [] ys h = tt
within-more y (x ∷ xs) ys h = (inr h.0, within-more y xs ys h.1)

pub each-append : {X : Type 0} (P : X → Type 0) (xs ys : List X) → AllByRecursion P xs → AllByRecursion P ys → AllByRecursion P (xs ++ ys)
each-append P [] ys h k = k
each-append P (x ∷ xs) ys h k = (h.0, each-append P xs ys h.1 k)

pub each-weaker : {X : Type 0} (P Q : X → Type 0) (xs : List X) → ((x : X) → P x → Q x) → AllByRecursion P xs → AllByRecursion Q xs
each-weaker P Q [] f h = tt
each-weaker P Q (x ∷ xs) f h = (f x h.0, each-weaker P Q xs f h.1)
