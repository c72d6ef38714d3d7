-- Lists, their tests and their numbers.
use Rattle.std.proofs.Common.{◌≡◌, ℕ, ◌+◌, ◌<◌, Bool, true, false, ◌&&◌, ◌||◌, List, [], ◌∷◌, ◌++◌, length, drop, get_or, Option, Some, None, refl, sym, ap}
use Rattle.std.proofs.Common.{subst, ◌∙◌, cond, inl, inr, arith}
use Rattle.std.specs.Prelude.{◌==◌, filter, map, flat_map, find, filter_map, option_map}
use Rattle.std.specs.List.{list_any, All, AllByRecursion, cons_option}
use Rattle.std.proofs.lemmas.Bool.{false≢true, cases_Bool, cases_order, eqb-true}
use Rattle.std.proofs.lemmas.Bool.Decides.{nat_tests}
use Rattle.std.proofs.lemmas.List.{map-append, get_or-drop}
use Rattle.std.proofs.lemmas.List.Concat.{flat_map-append}
use Rattle.std.proofs.lemmas.List.Elements.{All-nil, All-head, All-tail, All-append}
use Rattle.inv_base.specs.Tree.{is_among}

-- ---- tests

and-assoc : (a b c : Bool) → ((a && b) && c) ≡ (a && (b && c))
and-assoc true b c = refl
and-assoc false b c = refl

or-assoc : (a b c : Bool) → ((a || b) || c) ≡ (a || (b || c))
or-assoc true b c = refl
or-assoc false b c = refl

pub or-middle : (a b c d : Bool) → ((a || b) || (c || d)) ≡ ((a || c) || (b || d))
or-middle true true c d = refl
or-middle true false true d = refl
or-middle true false false d = refl
or-middle false true true d = refl
or-middle false true false d = refl
or-middle false false true d = refl
or-middle false false false d = refl

-- ---- filters

pub filter-twice : {X : Type 0} (p q : X → Bool) (xs : List X) → filter p (filter q xs) ≡ filter (λ x. q x && p x) xs
filter-twice p q [] = refl
filter-twice p q (x ∷ xs) = elim (cases_Bool (q x)) [
  | inl e ↦ rw e (ap (λ zs. cond (p x) (x ∷ zs) zs) (filter-twice p q xs))
  | inr e ↦ rw e (filter-twice p q xs)
]

pub filter-swap : {X : Type 0} (p q : X → Bool) (xs : List X) → filter p (filter q xs) ≡ filter q (filter p xs)
filter-swap p q [] = refl
filter-swap p q (x ∷ xs) = elim (cases_Bool (q x)) [
  | inl e ↦ elim (cases_Bool (p x)) [
    | inl f ↦ rw (e, f) (rw e (ap (λ zs. x ∷ zs) (filter-swap p q xs)))
    | inr f ↦ rw (e, f) (filter-swap p q xs)
  ]
  | inr e ↦ elim (cases_Bool (p x)) [
    | inl f ↦ rw (e, f) (rw e (filter-swap p q xs))
    | inr f ↦ rw (e, f) (filter-swap p q xs)
  ]
]

-- tests that agree at each element
pub filter-alike : {X : Type 0} (p q : X → Bool) (xs : List X) → All (λ x. p x ≡ q x) xs → filter p xs ≡ filter q xs
filter-alike p q [] h = refl
filter-alike p q (x ∷ xs) h =
    rw (All-head (λ y. p y ≡ q y) x xs h) (ap (λ zs. cond (q x) (x ∷ zs) zs) (filter-alike p q xs (All-tail (λ y. p y ≡ q y) x xs h)))

pub filter-all : {X : Type 0} (p : X → Bool) (xs : List X) → All (λ x. p x ≡ true) xs → filter p xs ≡ xs
filter-all p [] h = refl
filter-all p (x ∷ xs) h = rw (All-head (λ y. p y ≡ true) x xs h) (ap (λ zs. x ∷ zs) (filter-all p xs (All-tail (λ y. p y ≡ true) x xs h)))

pub filter-none : {X : Type 0} (p : X → Bool) (xs : List X) → All (λ x. p x ≡ false) xs → filter p xs ≡ []
filter-none p [] h = refl
filter-none p (x ∷ xs) h = rw (All-head (λ y. p y ≡ false) x xs h) (filter-none p xs (All-tail (λ y. p y ≡ false) x xs h))

pub filter-map : {X Y : Type 0} (f : X → Y) (p : Y → Bool) (xs : List X) → filter p (map f xs) ≡ map f (filter (λ x. p (f x)) xs)
filter-map f p [] = refl
filter-map f p (x ∷ xs) = elim (cases_Bool (p (f x))) [
  | inl e ↦ rw e (ap (λ zs. f x ∷ zs) (filter-map f p xs))
  | inr e ↦ rw e (filter-map f p xs)
]

pub map-alike : {X Y : Type 0} (f g : X → Y) (xs : List X) → All (λ x. f x ≡ g x) xs → map f xs ≡ map g xs
map-alike f g [] h = refl
map-alike f g (x ∷ xs) h =
    ap (λ y. y ∷ map f xs) (All-head (λ y. f y ≡ g y) x xs h) ∙ ap (λ zs. g x ∷ zs) (map-alike f g xs (All-tail (λ y. f y ≡ g y) x xs h))

pub map-twice : {X Y Z : Type 0} (f : Y → Z) (g : X → Y) (xs : List X) → map f (map g xs) ≡ map (λ x. f (g x)) xs
map-twice f g [] = refl
map-twice f g (x ∷ xs) = ap (λ zs. f (g x) ∷ zs) (map-twice f g xs)

-- ---- lists of lists

pub flat_map-alike : {X Y : Type 0} (f g : X → List Y) (xs : List X) → ((x : X) → f x ≡ g x) → flat_map f xs ≡ flat_map g xs
flat_map-alike f g [] h = refl
flat_map-alike f g (x ∷ xs) h = ap (λ ys. ys ++ flat_map f xs) (h x) ∙ ap (λ ys. g x ++ ys) (flat_map-alike f g xs h)

pub map-flat_map : {X Y Z : Type 0} (f : Y → Z) (g : X → List Y) (xs : List X) → map f (flat_map g xs) ≡ flat_map (λ x. map f (g x)) xs
map-flat_map f g [] = refl
map-flat_map f g (x ∷ xs) = map-append f (g x) (flat_map g xs) ∙ ap (λ ys. map f (g x) ++ ys) (map-flat_map f g xs)

pub flat_map-flat_map : {X Y Z : Type 0} (f : Y → List Z) (g : X → List Y) (xs : List X) → flat_map f (flat_map g xs) ≡ flat_map (λ x. flat_map f (g x)) xs
flat_map-flat_map f g [] = refl
flat_map-flat_map f g (x ∷ xs) = flat_map-append f (g x) (flat_map g xs) ∙ ap (λ ys. flat_map f (g x) ++ ys) (flat_map-flat_map f g xs)

pub All-flat_map : {X Y : Type 0} (P : Y → Type 0) (f : X → List Y) (xs : List X) → All (λ x. All P (f x)) xs → All P (flat_map f xs)
All-flat_map P f [] h = All-nil P
All-flat_map P f (x ∷ xs) h =
    All-append P (f x) (flat_map f xs) (All-head (λ y. All P (f y)) x xs h) (All-flat_map P f xs (All-tail (λ y. All P (f y)) x xs h))

pub All-each : {X : Type 0} (P : X → Type 0) → ((x : X) → P x) → (xs : List X) → All P xs
All-each P h xs = λ k d l. h (get_or xs k d)

pub All-both : {X : Type 0} (P Q : X → Type 0) (xs : List X) → All P xs → All Q xs → All (λ x. P x × Q x) xs
All-both P Q xs p q = λ k d l. (p k d l, q k d l)

-- the item at a place from which on both lists are the same
item-same : {X : Type 0} (xs ys : List X) (k : ℕ) (d : X) → drop k xs ≡ drop k ys → get_or xs k d ≡ get_or ys k d
item-same xs ys k d e =
    let at : k + 0 ≡ k = omega arith in
    sym (get_or-drop k xs 0 d ∙ ap (λ i. get_or xs i d) at) ∙ (ap (λ zs. get_or zs 0 d) e ∙ (get_or-drop k ys 0 d ∙ ap (λ i. get_or ys i d) at))

-- What holds of all items of a list holds of the item of another list at a place from which on both are the same.
pub All-same-behind : {X : Type 0} (P : X → Type 0) (xs ys : List X) (k : ℕ) (x : X) → All P xs → drop k ys ≡ drop k xs → k < length xs → x ≡ get_or ys k x
    → P x
All-same-behind P xs ys k x h e less is = subst P (sym (is ∙ item-same ys xs k x e)) (h k x less)

-- ---- any of them

pub any-filter : {X : Type 0} (f p : X → Bool) (xs : List X) → list_any f (filter p xs) ≡ list_any (λ x. p x && f x) xs
any-filter f p [] = refl
any-filter f p (x ∷ xs) = elim (cases_Bool (p x)) [
  | inl e ↦ rw e (ap (λ b. f x || b) (any-filter f p xs))
  | inr e ↦ rw e (any-filter f p xs)
]

pub any-or : {X : Type 0} (f g : X → Bool) (xs : List X) → list_any (λ x. f x || g x) xs ≡ (list_any f xs || list_any g xs)
any-or f g [] = refl
any-or f g (x ∷ xs) = ap (λ b. (f x || g x) || b) (any-or f g xs) ∙ or-middle (f x) (g x) (list_any f xs) (list_any g xs)

pub any-alike : {X : Type 0} (f g : X → Bool) (xs : List X) → All (λ x. f x ≡ g x) xs → list_any f xs ≡ list_any g xs
any-alike f g [] h = refl
any-alike f g (x ∷ xs) h =
    ap (λ b. b || list_any f xs) (All-head (λ y. f y ≡ g y) x xs h) ∙ ap (λ b. g x || b) (any-alike f g xs (All-tail (λ y. f y ≡ g y) x xs h))

pub any-map : {X Y : Type 0} (f : Y → Bool) (g : X → Y) (xs : List X) → list_any f (map g xs) ≡ list_any (λ x. f (g x)) xs
any-map f g [] = refl
any-map f g (x ∷ xs) = ap (λ b. f (g x) || b) (any-map f g xs)

pub any-none : {X : Type 0} (xs : List X) → list_any (λ x. false) xs ≡ false
any-none [] = refl
any-none (x ∷ xs) = any-none xs

-- an option's value passes
abbrev pub passes : {X : Type 0} → (X → Bool) → Option X → Bool
passes f None = false
passes f (Some x) = f x

any-option : {Y : Type 0} (f : Y → Bool) (o : Option Y) (ys : List Y) → list_any f (cons_option o ys) ≡ (passes f o || list_any f ys)
any-option f None ys = refl
any-option f (Some y) ys = refl

pub any-filter_map : {X Y : Type 0} (f : Y → Bool) (g : X → Option Y) (xs : List X) → list_any f (filter_map g xs) ≡ list_any (λ x. passes f (g x)) xs
any-filter_map f g [] = refl
any-filter_map f g (x ∷ xs) = any-option f (g x) (filter_map g xs) ∙ ap (λ b. passes f (g x) || b) (any-filter_map f g xs)

pub among-flat_map : {X : Type 0} (n : ℕ) (g : X → List ℕ) (xs : List X) → is_among n (flat_map g xs) ≡ list_any (λ x. is_among n (g x)) xs
among-flat_map n g [] = refl
among-flat_map n g (x ∷ xs) = among-append n (g x) (flat_map g xs) ∙ ap (λ b. is_among n (g x) || b) (among-flat_map n g xs)
  where
    among-append : (n : ℕ) (ms ks : List ℕ) → is_among n (ms ++ ks) ≡ (is_among n ms || is_among n ks)
    among-append n [] ks = refl
    among-append n (m ∷ ms) ks = ap (λ b. (n == m) || b) (among-append n ms ks) ∙ sym (or-assoc (n == m) (is_among n ms) (is_among n ks))

-- ---- the first

abbrev pub first : {X : Type 0} → List X → Option X
first [] = None
first (x ∷ xs) = Some x

pub find-first : {X : Type 0} (p : X → Bool) (xs : List X) → find p xs ≡ first (filter p xs)
find-first p [] = refl
find-first p (x ∷ xs) = elim (cases_Bool (p x)) [
  | inl e ↦ rw e refl
  | inr e ↦ rw e (find-first p xs)
]

pub first-map : {X Y : Type 0} (f : X → Y) (xs : List X) → first (map f xs) ≡ option_map f (first xs)
first-map f [] = refl
first-map f (x ∷ xs) = refl

-- ---- numbers that rise

abbrev pub Rises : List ℕ → Type 0
Rises [] = Unit {0}
Rises (n ∷ ns) = AllByRecursion (λ m. n < m) ns × Rises ns

pub by-weaker : {X : Type 0} (P Q : X → Type 0) → ((x : X) → P x → Q x) → (xs : List X) → AllByRecursion P xs → AllByRecursion Q xs
by-weaker P Q f [] h = tt
by-weaker P Q f (x ∷ xs) h = (f x h.0, by-weaker P Q f xs h.1)

pub by-filter : {X : Type 0} (P : X → Type 0) (p : X → Bool) (xs : List X) → AllByRecursion P xs → AllByRecursion P (filter p xs)
by-filter P p [] h = tt
by-filter P p (x ∷ xs) h = elim (cases_Bool (p x)) [
  | inl e ↦ rw e (h.0, by-filter P p xs h.1)
  | inr e ↦ rw e (by-filter P p xs h.1)
]

pub Rises-filter : (p : ℕ → Bool) (ns : List ℕ) → Rises ns → Rises (filter p ns)
Rises-filter p [] h = tt
Rises-filter p (n ∷ ns) h = elim (cases_Bool (p n)) [
  | inl e ↦ rw e (by-filter (λ m. n < m) p ns h.0, Rises-filter p ns h.1)
  | inr e ↦ rw e (Rises-filter p ns h.1)
]

pub none-below : (n : ℕ) (ns : List ℕ) → AllByRecursion (λ m. n < m) ns → is_among n ns ≡ false
none-below n [] h = refl
none-below n (m ∷ ns) h = rw (other n m h.0) (none-below n ns h.1)
  where
    other : (n m : ℕ) → n < m → (n == m) ≡ false
    other n m h = grind (arith, nat_tests)

itself : (n : ℕ) (ns : List ℕ) → is_among n (n ∷ ns) ≡ true
itself n ns = rw (same n) refl
  where
    same : (n : ℕ) → (n == n) ≡ true
    same n = grind (arith, nat_tests)

missing : (n : ℕ) (ns : List ℕ) → is_among n (n ∷ ns) ≡ is_among n [] → ⊥
missing n ns h = false≢true (sym h ∙ itself n ns)

heads : (n m : ℕ) (ns ms : List ℕ) → AllByRecursion (λ k. n < k) ns → AllByRecursion (λ k. m < k) ms → ((k : ℕ) → is_among k (n ∷ ns) ≡ is_among k (m ∷ ms))
    → n ≡ m
heads n m ns ms hn hm same = elim (cases_order n m) [
  | inl e ↦ e
  | inr (inl lt) ↦ absurd (false≢true (sym (none-below n (m ∷ ms) (lt, by-weaker (λ k. m < k) (λ k. n < k) (λ k l. omega (arith, l)) ms hm))
      ∙ (sym (same n) ∙ itself n ns)))
  | inr (inr lt) ↦ absurd (false≢true (sym (none-below m (n ∷ ns) (lt, by-weaker (λ k. n < k) (λ k. m < k) (λ k l. omega (arith, l)) ns hn))
      ∙ (same m ∙ itself m ms)))
]

tails : (n : ℕ) (ns ms : List ℕ) → AllByRecursion (λ k. n < k) ns → AllByRecursion (λ k. n < k) ms → ((k : ℕ) → is_among k (n ∷ ns) ≡ is_among k (n ∷ ms))
    → (k : ℕ) → is_among k ns ≡ is_among k ms
tails n ns ms hn hm same k = go (k == n) refl (same k)
  where
    go : (b : Bool) → (k == n) ≡ b → ((k == n) || is_among k ns) ≡ ((k == n) || is_among k ms) → is_among k ns ≡ is_among k ms
    go true e h = let is : k ≡ n = eqb-true k n e in ap (λ x. is_among x ns) is
        ∙ (none-below n ns hn ∙ (sym (none-below n ms hm) ∙ sym (ap (λ x. is_among x ms) is)))
    go false e h = rw e at h

-- Numbers that rise and have the same members are the same.
pub same-rising : (ns ms : List ℕ) → Rises ns → Rises ms → ((k : ℕ) → is_among k ns ≡ is_among k ms) → ns ≡ ms
same-rising [] [] hn hm same = refl
same-rising [] (m ∷ ms) hn hm same = absurd (missing m ms (sym (same m)))
same-rising (n ∷ ns) [] hn hm same = absurd (missing n ns (same n))
same-rising (n ∷ ns) (m ∷ ms) hn hm same =
    let e = heads n m ns ms hn.0 hm.0 same in
    let hm' : AllByRecursion (λ k. n < k) ms = rw e hm.0 in
    let same' : (k : ℕ) → is_among k (n ∷ ns) ≡ is_among k (n ∷ ms) = λ k. same k ∙ ap (λ x. is_among k (x ∷ ms)) (sym e) in
    ap (λ x. x ∷ ns) e ∙ ap (λ xs. m ∷ xs) (same-rising ns ms hn.1 hm.1 (tails n ns ms hn.0 hm' same'))
