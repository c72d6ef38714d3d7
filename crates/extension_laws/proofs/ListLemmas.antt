-- Tests over lists with one element more.
use Rattle.std.proofs.Common.{◌≡◌, Bool, true, false, ◌&&◌, ◌||◌, List, [], ◌∷◌, ◌++◌, flat_map, inl, inr, refl, sym, ap, ◌∙◌, subst}
use Rattle.std.specs.List.{list_all, list_any}
use Rattle.std.proofs.lemmas.Bool.{false≢true}
use Rattle.std.proofs.lemmas.List.Concat.{flat_map-append}
use Rattle.binding_laws.proofs.ReachLemmas.{Among}
use Rattle.binding_laws.proofs.ListLemmas.{append-nil}

pub or-mono : (a b c d : Bool) → (a ≡ true → c ≡ true) → (b ≡ true → d ≡ true) → (a || b) ≡ true → (c || d) ≡ true
or-mono true b c d f g h = ap (λ x. x || d) (f refl)
or-mono false b true d f g h = refl
or-mono false b false d f g h = g h

pub and-mono : (a b c d : Bool) → (a ≡ true → c ≡ true) → (b ≡ true → d ≡ true) → (a && b) ≡ true → (c && d) ≡ true
and-mono true b c d f g h = ap (λ x. x && d) (f refl) ∙ g h
and-mono false b c d f g h = absurd (false≢true h)

-- ---- any

pub any-front : {X : Type 0} (p q : X → Bool) (xs ys : List X) → ((x : X) → Among x xs → p x ≡ true → q x ≡ true) → list_any p xs ≡ true
    → list_any q (xs ++ ys) ≡ true
any-front p q [] ys f h = absurd (false≢true h)
any-front p q (x ∷ xs) ys f h = or-mono (p x) (list_any p xs) (q x) (list_any q (xs ++ ys)) (f x (inl refl)) (any-front p q xs ys (λ y a. f y (inr a))) h

or-nothing : (a : Bool) → (a || false) ≡ a
or-nothing true = refl
or-nothing false = refl

pub any-same : {X : Type 0} (p q : X → Bool) (xs : List X) (y : X) → ((x : X) → Among x xs → q x ≡ p x) → q y ≡ false
    → list_any q (xs ++ y ∷ []) ≡ list_any p xs
any-same p q [] y f e = or-nothing (q y) ∙ e
any-same p q (x ∷ xs) y f e = λ i. f x (inl refl) i || any-same p q xs y (λ z a. f z (inr a)) e i

-- ---- all

and-nothing : (a : Bool) → (a && true) ≡ a
and-nothing true = refl
and-nothing false = refl

pub all-more : {X : Type 0} (q : X → Bool) (xs : List X) (y : X) → ((x : X) → Among x xs → q x ≡ true) → q y ≡ true → list_all q (xs ++ y ∷ []) ≡ true
all-more q [] y f e = and-nothing (q y) ∙ e
all-more q (x ∷ xs) y f e = ap (λ b. b && list_all q (xs ++ y ∷ [])) (f x (inl refl)) ∙ all-more q xs y (λ z a. f z (inr a)) e

-- ---- flat_map

pub flat-same : {X Y : Type 0} (f g : X → List Y) (xs : List X) → ((x : X) → Among x xs → g x ≡ f x) → flat_map g xs ≡ flat_map f xs
flat-same f g [] h = refl
flat-same f g (x ∷ xs) h = λ i. h x (inl refl) i ++ flat-same f g xs (λ y a. h y (inr a)) i

pub flat-more : {X Y : Type 0} (f g : X → List Y) (xs : List X) (y : X) → ((x : X) → Among x xs → g x ≡ f x) → g y ≡ []
    → flat_map g (xs ++ y ∷ []) ≡ flat_map f xs
flat-more f g xs y h e =
    flat_map-append g xs (y ∷ []) ∙ ((λ i. flat-same f g xs h i ++ (e i ++ [])) ∙ append-nil (flat_map f xs))

nil-front : {X : Type 0} (xs ys : List X) → xs ++ ys ≡ [] → (xs ≡ []) × (ys ≡ [])
nil-front [] ys h = (refl, h)
nil-front (x ∷ xs) ys h = cc

-- where nothing comes of any, nothing does
pub flat-none : {X Y : Type 0} (f : X → List Y) (xs : List X) → flat_map f xs ≡ [] → (x : X) → Among x xs → f x ≡ []
flat-none f [] h x a = absurd a
flat-none f (y ∷ xs) h x (inl e) = ap f (sym e) ∙ (nil-front (f y) (flat_map f xs) h).0
flat-none f (y ∷ xs) h x (inr a) = flat-none f xs (nil-front (f y) (flat_map f xs) h).1 x a

pub none-flat : {X Y : Type 0} (f : X → List Y) (xs : List X) → ((x : X) → Among x xs → f x ≡ []) → flat_map f xs ≡ []
none-flat f [] h = refl
none-flat f (x ∷ xs) h = ap (λ l. l ++ flat_map f xs) (h x (inl refl)) ∙ none-flat f xs (λ y a. h y (inr a))

pub among-more : {X : Type 0} (P : X → Type 0) (xs : List X) (y : X) → ((x : X) → Among x xs → P x) → P y → (x : X) → Among x (xs ++ y ∷ []) → P x
among-more P [] y f k x (inl e) = subst P e k
among-more P [] y f k x (inr a) = absurd a
among-more P (z ∷ xs) y f k x (inl e) = f x (inl e)
among-more P (z ∷ xs) y f k x (inr a) = among-more P xs y (λ w b. f w (inr b)) k x a

-- what comes of those that fail a test: of none, if it came of none
pub unless-more : {X Y : Type 0} (f g : X → Bool) (l : X → List Y) (xs : List X) (y : X) → ((x : X) → Among x xs → f x ≡ true → g x ≡ true) → l y ≡ []
    → flat_map (λ x. elim (f x) [ true ↦ [] | false ↦ l x ]) xs ≡ [] → flat_map (λ x. elim (g x) [ true ↦ [] | false ↦ l x ]) (xs ++ y ∷ []) ≡ []
unless-more {X = X} {Y = Y} f g l xs y h e none =
    none-flat (λ x. elim (g x) [ true ↦ [] | false ↦ l x ]) (xs ++ y ∷ [])
    (among-more (λ x. ◌≡◌ {A = List Y} (elim (g x) [ true ↦ [] | false ↦ l x ]) []) xs y
    (λ x a. by x a (f x) refl (flat-none (λ z. elim (f z) [ true ↦ [] | false ↦ l z ]) xs none x a)) (either-way (g y) (l y) e))
  where
    either-way : (b : Bool) (k : List Y) → k ≡ [] → ◌≡◌ {A = List Y} (elim b [ true ↦ [] | false ↦ k ]) []
    either-way true k e = refl
    either-way false k e = e

    by : (x : X) → Among x xs → (b : Bool) → f x ≡ b → ◌≡◌ {A = List Y} (elim b [ true ↦ [] | false ↦ l x ]) []
        → ◌≡◌ {A = List Y} (elim (g x) [ true ↦ [] | false ↦ l x ]) []
    by x a true e k = ap (λ b. elim b [ true ↦ [] | false ↦ l x ]) (h x a e)
    by x a false e k = either-way (g x) (l x) k
