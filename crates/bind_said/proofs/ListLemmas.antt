-- Lists by tests: what is among them, and what some of them passes.
use Rattle.std.proofs.Common.{◌≡◌, ℕ, Bool, true, false, cond, ◌&&◌, ◌||◌, ◌==◌, List, [], ◌∷◌, ◌++◌, map, refl, ap, sym, ◌∙◌}
use Rattle.std.specs.Prelude.{filter}
use Rattle.std.specs.List.{flat_map, list_any}
use Rattle.std.proofs.lemmas.Bool.{eqb-true}
use Rattle.std.proofs.lemmas.List.Concat.{flat_map-append}
use Rattle.std.proofs.lemmas.List.Elements.{filter-append}
use Rattle.inv_base.specs.Tree.{is_among}
use Rattle.bind_walk.proofs.SortLemmas.{Every}

-- ---- truth values

pub or-or : (a b c : Bool) → ((a || b) || c) ≡ (a || (b || c))
or-or true b c = refl
or-or false b c = refl

pub or-false : (b : Bool) → (b || false) ≡ b
or-false true = refl
or-false false = refl

and-or : (a b c : Bool) → ((a && b) || (a && c)) ≡ (a && (b || c))
and-or true b c = refl
and-or false b c = refl

across : (a b c d : Bool) → ((a || b) || (c || d)) ≡ ((a || c) || (b || d))
across true b c d = refl
across false true true d = refl
across false true false d = refl
across false false true d = refl
across false false false d = refl

and-false : (b : Bool) → (b && false) ≡ false
and-false true = refl
and-false false = refl

-- ---- lists of lists

module _ {X Y : Type 0} where
  pub flat-same : (f g : X → List Y) → ((x : X) → f x ≡ g x) → (xs : List X) → flat_map f xs ≡ flat_map g xs
  flat-same f g h [] = refl
  flat-same f g h (x ∷ xs) = ap (λ ys. ys ++ flat_map f xs) (h x) ∙ ap (λ ys. g x ++ ys) (flat-same f g h xs)

  pub map-same : (f g : X → Y) → ((x : X) → f x ≡ g x) → (xs : List X) → map f xs ≡ map g xs
  map-same f g h [] = refl
  map-same f g h (x ∷ xs) = ap (λ y. y ∷ map f xs) (h x) ∙ ap (λ ys. g x ∷ ys) (map-same f g h xs)

  pub filter-flat : (p : Y → Bool) (f : X → List Y) (xs : List X) → flat_map (λ x. filter p (f x)) xs ≡ filter p (flat_map f xs)
  filter-flat p f [] = refl
  filter-flat p f (x ∷ xs) = ap (λ ys. filter p (f x) ++ ys) (filter-flat p f xs) ∙ sym (filter-append p (f x) (flat_map f xs))

  pub any-map : (p : Y → Bool) (f : X → Y) (xs : List X) → list_any p (map f xs) ≡ list_any (λ x. p (f x)) xs
  any-map p f [] = refl
  any-map p f (x ∷ xs) = ap (λ b. p (f x) || b) (any-map p f xs)

module _ {X Y Z : Type 0} where
  pub flat-flat : (g : Y → List Z) (f : X → List Y) (xs : List X) → flat_map g (flat_map f xs) ≡ flat_map (λ x. flat_map g (f x)) xs
  flat-flat g f [] = refl
  flat-flat g f (x ∷ xs) = flat_map-append g (f x) (flat_map f xs) ∙ ap (λ zs. flat_map g (f x) ++ zs) (flat-flat g f xs)

-- ---- what some of them passes

module _ {X : Type 0} where
  pub any-same : (u v : X → Bool) → ((x : X) → u x ≡ v x) → (xs : List X) → list_any u xs ≡ list_any v xs
  any-same u v h [] = refl
  any-same u v h (x ∷ xs) = ap (λ b. b || list_any u xs) (h x) ∙ ap (λ b. v x || b) (any-same u v h xs)

  pub any-every : (u v : X → Bool) (xs : List X) → Every (λ x. u x ≡ v x) xs → list_any u xs ≡ list_any v xs
  any-every u v [] h = refl
  any-every u v (x ∷ xs) h = ap (λ b. b || list_any u xs) h.0 ∙ ap (λ b. v x || b) (any-every u v xs h.1)

  pub any-or : (u v : X → Bool) (xs : List X) → list_any (λ x. u x || v x) xs ≡ (list_any u xs || list_any v xs)
  any-or u v [] = refl
  any-or u v (x ∷ xs) = ap (λ b. (u x || v x) || b) (any-or u v xs) ∙ across (u x) (v x) (list_any u xs) (list_any v xs)

  pub any-and : (a : Bool) (u : X → Bool) (xs : List X) → list_any (λ x. a && u x) xs ≡ (a && list_any u xs)
  any-and a u [] = sym (and-false a)
  any-and a u (x ∷ xs) = ap (λ b. (a && u x) || b) (any-and a u xs) ∙ and-or a (u x) (list_any u xs)

  pub any-filter : (t u : X → Bool) (xs : List X) → list_any u (filter t xs) ≡ list_any (λ x. t x && u x) xs
  any-filter t u [] = refl
  any-filter t u (x ∷ xs) = at (t x) (any-filter t u xs)
    where
      at : (b : Bool) → list_any u (filter t xs) ≡ list_any (λ x. t x && u x) xs
          → list_any u (cond b (x ∷ filter t xs) (filter t xs)) ≡ ((b && u x) || list_any (λ x. t x && u x) xs)
      at true e = ap (λ b. u x || b) e
      at false e = e

-- ---- numbers among others

pub among-append : (n : ℕ) (ns ms : List ℕ) → is_among n (ns ++ ms) ≡ (is_among n ns || is_among n ms)
among-append n [] ms = refl
among-append n (m ∷ ns) ms = ap (λ b. (n == m) || b) (among-append n ns ms) ∙ sym (or-or (n == m) (is_among n ns) (is_among n ms))

pub among-flat : {X : Type 0} (n : ℕ) (f : X → List ℕ) (xs : List X) → is_among n (flat_map f xs) ≡ list_any (λ x. is_among n (f x)) xs
among-flat n f [] = refl
among-flat n f (x ∷ xs) = among-append n (f x) (flat_map f xs) ∙ ap (λ b. is_among n (f x) || b) (among-flat n f xs)

pub among-filter : (p : ℕ → Bool) (n : ℕ) (ns : List ℕ) → is_among n (filter p ns) ≡ (p n && is_among n ns)
among-filter p n [] = sym (and-false (p n))
among-filter p n (m ∷ ns) = at (p m) refl (n == m) refl (among-filter p n ns)
  where
    at : (a : Bool) → p m ≡ a → (b : Bool) → (n == m) ≡ b → is_among n (filter p ns) ≡ (p n && is_among n ns)
        → is_among n (cond a (m ∷ filter p ns) (filter p ns)) ≡ (p n && ((n == m) || is_among n ns))
    at true e true f h =
        let own : p n ≡ true = ap p (eqb-true n m f) ∙ e in
        ap (λ b. b || is_among n (filter p ns)) f ∙ (sym (ap (λ a. a && (true || is_among n ns)) own) ∙ ap (λ b. p n && (b || is_among n ns)) (sym f))
    at true e false f h = ap (λ b. b || is_among n (filter p ns)) f ∙ (h ∙ ap (λ b. p n && (b || is_among n ns)) (sym f))
    at false e true f h =
        let own : p n ≡ false = ap p (eqb-true n m f) ∙ e in
        h ∙ (ap (λ a. a && is_among n ns) own ∙ sym (ap (λ a. a && ((n == m) || is_among n ns)) own))
    at false e false f h = h ∙ ap (λ b. p n && (b || is_among n ns)) (sym f)

-- ---- lists by a test of each

abbrev pub one_if : (ℕ → Bool) → ℕ → List ℕ
one_if p n = elim (p n) [ true ↦ n ∷ [] | false ↦ [] ]

pub ones : (p : ℕ → Bool) (ns : List ℕ) → flat_map (one_if p) ns ≡ filter p ns
ones p [] = refl
ones p (n ∷ ns) = at (p n) (ones p ns)
  where
    at : (b : Bool) → flat_map (one_if p) ns ≡ filter p ns
        → ((elim b as (λ _. List ℕ) [ true ↦ n ∷ [] | false ↦ [] ]) ++ flat_map (one_if p) ns) ≡ cond b (n ∷ filter p ns) (filter p ns)
    at true e = ap (λ ms. n ∷ ms) e
    at false e = e

abbrev pub lists_if : (ℕ → Bool) → (ℕ → List ℕ) → ℕ → List ℕ
lists_if p f n = elim (p n) [ true ↦ f n | false ↦ [] ]

pub lists : (p : ℕ → Bool) (f : ℕ → List ℕ) (ns : List ℕ) → flat_map (lists_if p f) ns ≡ flat_map f (filter p ns)
lists p f [] = refl
lists p f (n ∷ ns) = at (p n) (lists p f ns)
  where
    at : (b : Bool) → flat_map (lists_if p f) ns ≡ flat_map f (filter p ns)
        → ((elim b as (λ _. List ℕ) [ true ↦ f n | false ↦ [] ]) ++ flat_map (lists_if p f) ns) ≡ flat_map f (cond b (n ∷ filter p ns) (filter p ns))
    at true e = ap (λ ms. f n ++ ms) e
    at false e = e
