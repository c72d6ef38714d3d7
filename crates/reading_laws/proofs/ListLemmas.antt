-- Truth values, and what holds of each of a list or of some of it.
use Rattle.std.proofs.Common.{◌≡◌, suc, Bool, true, false, not, ◌&&◌, ◌||◌, List, [], ◌∷◌, ◌++◌, map, filter, flat_map, length, All, ◌⊎◌, inl, inr, refl, ap}
use Rattle.std.proofs.Common.{sym, ◌∙◌, arith}
use Rattle.std.specs.Prelude.{if◌then◌else◌}
use Rattle.std.specs.List.{list_any, list_all, AllByRecursion}
use Rattle.std.proofs.lemmas.Bool.{false≢true}
use Rattle.std.proofs.lemmas.List.Elements.{All-nil, All-cons, All-head, All-tail}

-- ---- truth values

pub both : (a b : Bool) → (a && b) ≡ true → (a ≡ true) × (b ≡ true)
both true b h = (refl, h)
both false b h = absurd (false≢true h)

pub and-true : (a b : Bool) → a ≡ true → b ≡ true → (a && b) ≡ true
and-true a b h k = ap (λ t. t && b) h ∙ k

pub or-left : (a b : Bool) → a ≡ true → (a || b) ≡ true
or-left a b h = ap (λ t. t || b) h

pub or-right : (a b : Bool) → b ≡ true → (a || b) ≡ true
or-right true b h = refl
or-right false b h = h

pub neither : (a b : Bool) → (a || b) ≡ false → (a ≡ false) × (b ≡ false)
neither true b h = absurd (false≢true (sym h))
neither false b h = (refl, h)

pub not-not : (b : Bool) → not b ≡ false → b ≡ true
not-not true h = refl
not-not false h = absurd (false≢true (sym h))

pub bool-cases : (b : Bool) → (b ≡ true) ⊎ (b ≡ false)
bool-cases true = inl refl
bool-cases false = inr refl

-- ---- lists

pub none-of-both : {X : Type 0} (xs ys : List X) → xs ++ ys ≡ [] → (xs ≡ []) × (ys ≡ [])
none-of-both [] ys h = (refl, h)
none-of-both (x ∷ xs) ys h = absurd (let z : suc (length (xs ++ ys)) ≡ 0 = ap length h in omega arith)

pub any-append : {X : Type 0} (p : X → Bool) (xs ys : List X) → list_any p (xs ++ ys) ≡ (list_any p xs || list_any p ys)
any-append p [] ys = refl
any-append p (x ∷ xs) ys = go (p x) (any-append p xs ys)
  where
    go : (b : Bool) → list_any p (xs ++ ys) ≡ (list_any p xs || list_any p ys) → (b || list_any p (xs ++ ys)) ≡ ((b || list_any p xs) || list_any p ys)
    go true e = refl
    go false e = e

pub any-map : {X Y : Type 0} (f : X → Y) (q : Y → Bool) (xs : List X) → list_any q (map f xs) ≡ list_any (λ x. q (f x)) xs
any-map f q [] = refl
any-map f q (x ∷ xs) = ap (λ t. q (f x) || t) (any-map f q xs)

-- ---- what holds of each

pub each-append : {X : Type 0} (P : X → Type 0) (xs ys : List X) → AllByRecursion P xs → AllByRecursion P ys → AllByRecursion P (xs ++ ys)
each-append P [] ys h k = k
each-append P (x ∷ xs) ys h k = (h.0, each-append P xs ys h.1 k)

pub each-map : {X Y : Type 0} (P : Y → Type 0) (f : X → Y) (xs : List X) → AllByRecursion (λ x. P (f x)) xs → AllByRecursion P (map f xs)
each-map P f [] h = tt
each-map P f (x ∷ xs) h = (h.0, each-map P f xs h.1)

pub each-weaker : {X : Type 0} (P Q : X → Type 0) → ((x : X) → P x → Q x) → (xs : List X) → AllByRecursion P xs → AllByRecursion Q xs
each-weaker P Q f [] h = tt
each-weaker P Q f (x ∷ xs) h = (f x h.0, each-weaker P Q f xs h.1)

pub each-flat : {X Y : Type 0} (P : Y → Type 0) (Q : X → Type 0) (f : X → List Y) → ((x : X) → Q x → AllByRecursion P (f x)) → (xs : List X)
    → AllByRecursion Q xs → AllByRecursion P (flat_map f xs)
each-flat P Q f h [] all = tt
each-flat P Q f h (x ∷ xs) all = each-append P (f x) (flat_map f xs) (h x all.0) (each-flat P Q f h xs all.1)

pub each-filter : {X : Type 0} (P : X → Type 0) (q : X → Bool) (xs : List X) → AllByRecursion P xs → AllByRecursion P (filter q xs)
each-filter P q [] h = tt
each-filter P q (x ∷ xs) h = go (q x) (each-filter P q xs h.1)
  where
    go : (b : Bool) → AllByRecursion P (filter q xs) → AllByRecursion P (if b then x ∷ filter q xs else filter q xs)
    go true k = (h.0, k)
    go false k = k

pub each-passes : {X : Type 0} (q : X → Bool) (xs : List X) → AllByRecursion (λ x. q x ≡ true) (filter q xs)
each-passes q [] = tt
each-passes q (x ∷ xs) = go (q x) refl (each-passes q xs)
  where
    go : (b : Bool) → q x ≡ b → AllByRecursion (λ x. q x ≡ true) (filter q xs) → AllByRecursion (λ x. q x ≡ true) (if b then x ∷ filter q xs else filter q xs)
    go true e k = (e, k)
    go false e k = k

pub each-any : {X : Type 0} (P : X → Type 0) → ((x : X) → P x) → (xs : List X) → AllByRecursion P xs
each-any P f [] = tt
each-any P f (x ∷ xs) = (f x, each-any P f xs)

pub each-both : {X : Type 0} (P Q : X → Type 0) (xs : List X) → AllByRecursion P xs → AllByRecursion Q xs → AllByRecursion (λ x. P x × Q x) xs
each-both P Q [] h k = tt
each-both P Q (x ∷ xs) h k = ((h.0, k.0), each-both P Q xs h.1 k.1)

pub each-of-all : {X : Type 0} (P : X → Type 0) (xs : List X) → All P xs → AllByRecursion P xs
each-of-all P [] h = tt
each-of-all P (x ∷ xs) h = (All-head P x xs h, each-of-all P xs (All-tail P x xs h))

pub all-of-each : {X : Type 0} (P : X → Type 0) (xs : List X) → AllByRecursion P xs → All P xs
all-of-each P [] h = All-nil P
all-of-each P (x ∷ xs) h = All-cons P x xs h.0 (all-of-each P xs h.1)

pub each-unmap : {X Y : Type 0} (P : Y → Type 0) (f : X → Y) (xs : List X) → AllByRecursion P (map f xs) → AllByRecursion (λ x. P (f x)) xs
each-unmap P f [] h = tt
each-unmap P f (x ∷ xs) h = (h.0, each-unmap P f xs h.1)

pub tests-each : {X : Type 0} (q : X → Bool) (xs : List X) → list_all q xs ≡ true → AllByRecursion (λ x. q x ≡ true) xs
tests-each q [] h = tt
tests-each q (x ∷ xs) h = let w = both (q x) (list_all q xs) h in (w.0, tests-each q xs w.1)

pub tests-hold : {X : Type 0} (q : X → Bool) (xs : List X) → AllByRecursion (λ x. q x ≡ true) xs → list_all q xs ≡ true
tests-hold q [] h = refl
tests-hold q (x ∷ xs) h = and-true (q x) (list_all q xs) h.0 (tests-hold q xs h.1)

pub any-here : {X : Type 0} (P : X → Type 0) (q : X → Bool) (xs : List X) → AllByRecursion P xs → list_any q xs ≡ true → (x : X) × P x × (q x ≡ true)
any-here P q [] h k = absurd (false≢true k)
any-here P q (x ∷ xs) h k = go (q x) refl k (any-here P q xs h.1)
  where
    go : (b : Bool) → q x ≡ b → (b || list_any q xs) ≡ true → (list_any q xs ≡ true → (y : _) × P y × (q y ≡ true)) → (y : _) × P y × (q y ≡ true)
    go true e l f = (x, h.0, e)
    go false e l f = f l

-- what some of a part of a list passes, some of the list passes
pub any-of-flat : {X Y : Type 0} (f : X → List Y) (xs : List X)
    → AllByRecursion (λ x. (q : Y → Bool) → list_any q (f x) ≡ true → list_any q (flat_map f xs) ≡ true) xs
any-of-flat f [] = tt
any-of-flat f (x ∷ xs) = (
  λ q h. any-append q (f x) (flat_map f xs) ∙ or-left (list_any q (f x)) (list_any q (flat_map f xs)) h,
  each-weaker (λ y. (q : _ → Bool) → list_any q (f y) ≡ true → list_any q (flat_map f xs) ≡ true)
      (λ y. (q : _ → Bool) → list_any q (f y) ≡ true → list_any q (flat_map f (x ∷ xs)) ≡ true)
      (λ y h q k. any-append q (f x) (flat_map f xs) ∙ or-right (list_any q (f x)) (list_any q (flat_map f xs)) (h q k)) xs (any-of-flat f xs),
)
