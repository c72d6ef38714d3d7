-- Lists that are in order and have the same items are equal.
use Rattle.std.proofs.Common.{◌≡◌, ℕ, suc, ◌+◌, ◌<◌, ◌≤◌, Bool, true, false, cond, List, [], ◌∷◌, ◌++◌, length, map, get_or, refl, ap, sym, ◌∙◌, arith}
use Rattle.std.proofs.Common.{Ordering}
use Rattle.std.specs.Prelude.{filter}
use Rattle.std.specs.Cmp.{IsTotalOrder}
use Rattle.std.specs.List.{sum_by, flat_map}
use Rattle.std.specs.List.Sorted.{IsSorted}
use Rattle.std.specs.Ordering.{is_lt, ordering_reverse}
use Rattle.std.specs.declared.cmp.Ordering.TheVariants.{Less, Equal, Greater}
use Rattle.std.proofs.lemmas.Cmp.{tied_itself}
use Rattle.std.proofs.lemmas.List.Sums.{sum_by-cons, sum_by-append}
use Rattle.std.proofs.lemmas.List.Sorted.{sorted_far, ranks_by}

-- ---- what holds of each item, and of each two in their order

abbrev pub Every : {X : Type 0} → (X → Type 0) → List X → Type 0
Every P [] = Unit {0}
Every P (x ∷ xs) = P x × Every P xs

abbrev pub Up : {X : Type 0} → (X → X → Type 0) → List X → Type 0
Up L [] = Unit {0}
Up L (x ∷ xs) = Every (L x) xs × Up L xs

module _ {X : Type 0} where
  pub every-weaker : (P Q : X → Type 0) → ((x : X) → P x → Q x) → (xs : List X) → Every P xs → Every Q xs
  every-weaker P Q f [] h = tt
  every-weaker P Q f (x ∷ xs) h = (f x h.0, every-weaker P Q f xs h.1)

  pub every-append : (P : X → Type 0) (xs ys : List X) → Every P xs → Every P ys → Every P (xs ++ ys)
  every-append P [] ys h k = k
  every-append P (x ∷ xs) ys h k = (h.0, every-append P xs ys h.1 k)

  pub every-at : (P : X → Type 0) (xs : List X) (d : X) → ((j : ℕ) → j < length xs → P (get_or xs j d)) → Every P xs
  every-at P [] d h = tt
  every-at P (x ∷ xs) d h = (h 0 (omega arith), every-at P xs d (λ j l. h (suc j) (omega (arith, l))))

  pub every-filter : (P : X → Type 0) (test : X → Bool) (xs : List X) → Every P xs → Every (λ x. P x × (test x ≡ true)) (filter test xs)
  every-filter P test [] h = tt
  every-filter P test (x ∷ xs) h = at (test x) refl (every-filter P test xs h.1)
    where
      at : (b : Bool) → test x ≡ b → Every (λ x. P x × (test x ≡ true)) (filter test xs)
          → Every (λ x. P x × (test x ≡ true)) (cond b (x ∷ filter test xs) (filter test xs))
      at true e k = ((h.0, e), k)
      at false e k = k

  pub up-append : (L : X → X → Type 0) (xs ys : List X) → Up L xs → Up L ys → Every (λ x. Every (L x) ys) xs → Up L (xs ++ ys)
  up-append L [] ys h k c = k
  up-append L (x ∷ xs) ys h k c = (every-append (L x) xs ys h.0 c.0, up-append L xs ys h.1 k c.1)

  -- any two items that are so
  pub up-any : (P : X → Type 0) (L : X → X → Type 0) → ((x y : X) → P x → P y → L x y) → (xs : List X) → Every P xs → Up L xs
  up-any P L f [] h = tt
  up-any P L f (x ∷ xs) h = (every-weaker P (L x) (λ y. f x y h.0) xs h.1, up-any P L f xs h.1)

  pub up-filter : (L : X → X → Type 0) (test : X → Bool) (xs : List X) → Up L xs → Up L (filter test xs)
  up-filter L test [] h = tt
  up-filter L test (x ∷ xs) h = at (test x) (up-filter L test xs h.1)
    where
      at : (b : Bool) → Up L (filter test xs) → Up L (cond b (x ∷ filter test xs) (filter test xs))
      at true k = (every-weaker (λ y. L x y × (test y ≡ true)) (L x) (λ y m. m.0) (filter test xs) (every-filter (L x) test xs h.0), k)
      at false k = k

  pub up-weaker : (P : X → Type 0) (L M : X → X → Type 0) → ((x y : X) → P x → P y → L x y → M x y) → (xs : List X) → Every P xs → Up L xs → Up M xs
  up-weaker P L M f [] p h = tt
  up-weaker P L M f (x ∷ xs) p h = (both xs p.1 h.0, up-weaker P L M f xs p.1 h.1)
    where
      both : (ys : List X) → Every P ys → Every (L x) ys → Every (M x) ys
      both [] q k = tt
      both (y ∷ ys) q k = (f x y p.0 q.0 k.0, both ys q.1 k.1)

module _ {X Y : Type 0} where
  pub every-map : (P : Y → Type 0) (f : X → Y) (xs : List X) → Every (λ x. P (f x)) xs → Every P (map f xs)
  every-map P f [] h = tt
  every-map P f (x ∷ xs) h = (h.0, every-map P f xs h.1)

  pub every-flat_map : (P : Y → Type 0) (f : X → List Y) (xs : List X) → Every (λ x. Every P (f x)) xs → Every P (flat_map f xs)
  every-flat_map P f [] h = tt
  every-flat_map P f (x ∷ xs) h = every-append P (f x) (flat_map f xs) h.0 (every-flat_map P f xs h.1)

  pub up-map : (L : Y → Y → Type 0) (f : X → Y) (xs : List X) → Up (λ x y. L (f x) (f y)) xs → Up L (map f xs)
  up-map L f [] h = tt
  up-map L f (x ∷ xs) h = (every-map (L (f x)) f xs h.0, up-map L f xs h.1)

  -- of lists one behind another
  pub up-flat_map : (L : Y → Y → Type 0) (M : X → X → Type 0) (f : X → List Y) → ((x : X) → Up L (f x))
      → ((x y : X) → M x y → Every (λ a. Every (L a) (f y)) (f x))
      → (xs : List X) → Up M xs → Up L (flat_map f xs)
  up-flat_map L M f one two [] h = tt
  up-flat_map L M f one two (x ∷ xs) h = up-append L (f x) (flat_map f xs) (one x) (up-flat_map L M f one two xs h.1) (across xs h.0)
    where
      joined : (ds bs cs : List Y) → Every (λ a. Every (L a) bs) ds → Every (λ a. Every (L a) cs) ds → Every (λ a. Every (L a) (bs ++ cs)) ds
      joined [] bs cs h k = tt
      joined (a ∷ ds) bs cs h k = (every-append (L a) bs cs h.0 k.0, joined ds bs cs h.1 k.1)

      none : (ds : List Y) → Every (λ a. Every (L a) []) ds
      none [] = tt
      none (a ∷ ds) = (tt, none ds)

      across : (ys : List X) → Every (M x) ys → Every (λ a. Every (L a) (flat_map f ys)) (f x)
      across [] k = none (f x)
      across (y ∷ ys) k = joined (f x) (f y) (flat_map f ys) (two x y k.0) (across ys k.1)

-- ---- lists with the same items

tie : (a b : Ordering) → a ≡ ordering_reverse b → is_lt a ≡ false → is_lt b ≡ false → a ≡ Equal
tie Less b e p q = cc
tie Equal b e p q = refl
tie Greater Less e p q = cc
tie Greater Equal e p q = cc
tie Greater Greater e p q = cc

abbrev one_if : Bool → ℕ
one_if true = 1
one_if false = 0

not_one : (b : Bool) → one_if b ≡ 0 → b ≡ false
not_one true e = absurd (omega (arith, e))
not_one false e = refl

module _ {X : Type 0} (R : X → X → Ordering) (total : IsTotalOrder R) (exact : (x y : X) → R x y ≡ Equal → x ≡ y) where
  abbrev pub below : X → X → Bool
  below x y = is_lt (R x y)

  abbrev pub NotAbove : X → X → Type 0
  NotAbove x y = below y x ≡ false

  up-far : (xs : List X) → ((i j : ℕ) (d : X) → i ≤ j → j < length xs → below (get_or xs j d) (get_or xs i d) ≡ false) → Up NotAbove xs
  up-far [] h = tt
  up-far (x ∷ xs) h = (
    every-at (NotAbove x) xs x (λ j l. h 0 (suc j) x (omega arith) (omega (arith, l))),
    up-far xs
        (λ i j d le l. h (suc i) (suc j) d (omega (arith, le)) (omega (arith, l))),
  )

  pub up-sorted : (xs : List X) → IsSorted R xs → Up NotAbove xs
  up-sorted xs s = up-far xs (sorted_far below (ranks_by total (λ x. x)) xs s)

  counted : X → X → ℕ
  counted x y = one_if (below y x)

  none-below : (x : X) (ys : List X) → Every (NotAbove x) ys → sum_by (λ y. one_if (below y x)) ys ≡ 0
  none-below x [] h = refl
  none-below x (y ∷ ys) h = sum_by-cons (λ z. one_if (below z x)) y ys
      ∙ (ap (λ b. one_if b + sum_by (λ z. one_if (below z x)) ys) h.0 ∙ (let e = none-below x ys h.1 in omega (arith, e)))

  itself : (x : X) → below x x ≡ false
  itself x = ap is_lt (tied_itself total x)

  head-not : (x y : X) (xs ys : List X) → ((f : X → ℕ) → sum_by f (y ∷ ys) ≡ sum_by f (x ∷ xs)) → Every (NotAbove x) xs → below y x ≡ false
  head-not x y xs ys h ax =
      let f : X → ℕ = λ z. one_if (below z x) in
      let zero : sum_by f (x ∷ xs) ≡ 0 = none-below x (x ∷ xs) (itself x, ax) in
      let cons : sum_by f (y ∷ ys) ≡ f y + sum_by f ys = sum_by-cons f y ys in
      let all : sum_by f (y ∷ ys) ≡ sum_by f (x ∷ xs) = h f in
      not_one (below y x) (let e : f y ≡ 0 = omega (arith, zero, cons, all) in e)

  pub unique : (xs ys : List X) → ((f : X → ℕ) → sum_by f ys ≡ sum_by f xs) → Up NotAbove xs → Up NotAbove ys → xs ≡ ys
  unique [] [] h u v = refl
  unique [] (y ∷ ys) h u v = let e = h (λ z. 1) in let c = sum_by-cons (λ (z : X). 1) y ys in absurd (omega (arith, e, c))
  unique (x ∷ xs) [] h u v = let e = h (λ z. 1) in let c = sum_by-cons (λ (z : X). 1) x xs in absurd (omega (arith, e, c))
  unique (x ∷ xs) (y ∷ ys) h u v =
      let same : x ≡ y = exact x y (tie (R x y) (R y x) (total.antisymm x y) (head-not y x ys xs (λ f. sym (h f)) v.0) (head-not x y xs ys h u.0)) in
      let rest : xs ≡ ys = unique xs ys
      (λ f. let a = sum_by-cons f x xs in let b = sum_by-cons f y ys in let e = h f in let s : f x ≡ f y = ap f same in omega (arith, a, b, e, s)) u.1 v.1 in
      ap (λ zs. x ∷ zs) rest ∙ ap (λ z. z ∷ ys) same

-- ---- counts of lists one behind another

pub sum-flat_map : {X Y : Type 0} (f : Y → ℕ) (g : X → List Y) (xs : List X) → sum_by f (flat_map g xs) ≡ sum_by (λ x. sum_by f (g x)) xs
sum-flat_map f g [] = refl
sum-flat_map f g (x ∷ xs) =
    sum_by-append f (g x) (flat_map g xs) ∙ (ap (λ n. sum_by f (g x) + n) (sum-flat_map f g xs) ∙ sym (sum_by-cons (λ y. sum_by f (g y)) x xs))

pub sum-map : {X Y : Type 0} (f : Y → ℕ) (g : X → Y) (xs : List X) → sum_by f (map g xs) ≡ sum_by (λ x. f (g x)) xs
sum-map f g [] = refl
sum-map f g (x ∷ xs) = sum_by-cons f (g x) (map g xs) ∙ (ap (λ n. f (g x) + n) (sum-map f g xs) ∙ sym (sum_by-cons (λ y. f (g y)) x xs))
