-- What holds of each of a list, kept by filters and by joining.
use Rattle.std.proofs.Common.{◌≡◌, Bool, true, false, cond, List, [], ◌∷◌, ◌++◌, map, Some, refl, ap, sym, ◌∙◌, subst}
use Rattle.std.specs.Prelude.{◌||◌, filter, flat_map, find}
use Rattle.std.specs.List.{list_any}
pub use Rattle.schematron_faults.specs.Each.{Each}

pub each_all : {X : Type 0} (P : X → Type 0) (xs : List X) → ((x : X) → P x) → Each P xs
each_all P [] h = tt
each_all P (x ∷ xs) h = (h x, each_all P xs h)

pub each-weaker : {X : Type 0} (P Q : X → Type 0) (xs : List X) → ((x : X) → P x → Q x) → Each P xs → Each Q xs
each-weaker P Q [] h e = tt
each-weaker P Q (x ∷ xs) h e = (h x e.0, each-weaker P Q xs h e.1)

pub each-append : {X : Type 0} (P : X → Type 0) (xs ys : List X) → Each P xs → Each P ys → Each P (xs ++ ys)
each-append P [] ys h k = k
each-append P (x ∷ xs) ys h k = (h.0, each-append P xs ys h.1 k)

pub each-both : {X : Type 0} (P Q : X → Type 0) (xs : List X) → Each P xs → Each Q xs → Each (λ (x : X). P x × Q x) xs
each-both P Q [] h k = tt
each-both P Q (x ∷ xs) h k = ((h.0, k.0), each-both P Q xs h.1 k.1)

-- the two parts of a list
pub each-front : {X : Type 0} (P : X → Type 0) (xs ys : List X) → Each P (xs ++ ys) → Each P xs
each-front P [] ys h = tt
each-front P (x ∷ xs) ys h = (h.0, each-front P xs ys h.1)

pub each-behind : {X : Type 0} (P : X → Type 0) (xs ys : List X) → Each P (xs ++ ys) → Each P ys
each-behind P [] ys h = h
each-behind P (x ∷ xs) ys h = each-behind P xs ys h.1

-- what passes a test passes it
pub each-filter : {X : Type 0} (P : X → Type 0) (test : X → Bool) (xs : List X) → Each P xs → Each (λ (x : X). P x × (test x ≡ true)) (filter test xs)
each-filter P test [] h = tt
each-filter {X} P test (x ∷ xs) h = by (test x) refl (each-filter P test xs h.1)
  where
    by : (b : Bool) → test x ≡ b → Each (λ (y : X). P y × (test y ≡ true)) (filter test xs) →
        Each (λ (y : X). P y × (test y ≡ true)) (cond (test x) (x ∷ filter test xs) (filter test xs))
    by true t rest = subst (λ (c : Bool). Each (λ (y : X). P y × (test y ≡ true)) (cond c (x ∷ filter test xs) (filter test xs))) (sym t) ((h.0, t), rest)
    by false t rest = subst (λ (c : Bool). Each (λ (y : X). P y × (test y ≡ true)) (cond c (x ∷ filter test xs) (filter test xs))) (sym t) rest

pub each-map : {X Y : Type 0} (P : Y → Type 0) (f : X → Y) (xs : List X) → Each (λ (x : X). P (f x)) xs → Each P (map f xs)
each-map P f [] h = tt
each-map P f (x ∷ xs) h = (h.0, each-map P f xs h.1)

pub each-flat_map : {X Y : Type 0} (P : Y → Type 0) (f : X → List Y) (xs : List X) → Each (λ (x : X). Each P (f x)) xs → Each P (flat_map f xs)
each-flat_map P f [] h = tt
each-flat_map P f (x ∷ xs) h = each-append P (f x) (flat_map f xs) h.0 (each-flat_map P f xs h.1)

-- of parts that were joined, all of each
pub each-joined : {X Y : Type 0} (P : Y → Type 0) (f : X → List Y) (xs : List X) → Each P (flat_map f xs) → Each (λ (x : X). Each P (f x)) xs
each-joined P f [] h = tt
each-joined P f (x ∷ xs) h = (each-front P (f x) (flat_map f xs) h, each-joined P f xs (each-behind P (f x) (flat_map f xs) h))

-- what holds of each holds of one that passes a test, if some does
pub each-any : {X : Type 0} (P : X → Type 0) (test : X → Bool) (xs : List X) → Each P xs → list_any test xs ≡ true → (x : X) × (test x ≡ true) × P x
each-any P test [] h t = absurd (cc)
each-any {X} P test (x ∷ xs) h t = by (test x) refl t (each-any P test xs h.1)
  where
    by : (b : Bool) → test x ≡ b → (b || list_any test xs) ≡ true → (list_any test xs ≡ true → (y : X) × (test y ≡ true) × P y) → (y : X) × (test y ≡ true) ×
        P y
    by true e t rest = (x, e, h.0)
    by false e t rest = rest t

-- what is found passes the test
pub find_passes : {X : Type 0} (test : X → Bool) (xs : List X) (x : X) → find test xs ≡ Some x → test x ≡ true
find_passes test [] x h = absurd (cc)
find_passes {X} test (y ∷ xs) x h = by (test y) refl (find_passes test xs x)
  where
    by : (b : Bool) → test y ≡ b → (find test xs ≡ Some x → test x ≡ true) → test x ≡ true
    by true t rest = let e : Some y ≡ Some x = sym (ap (λ c. cond c (Some y) (find test xs)) t) ∙ h in let s : y ≡ x = cc in
        subst (λ (z : X). test z ≡ true) s t
    by false t rest = rest (sym (ap (λ c. cond c (Some y) (find test xs)) t) ∙ h)
