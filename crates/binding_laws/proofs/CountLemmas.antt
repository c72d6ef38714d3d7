-- The number of an occurrence among others: how many of the nodes before its element are elements of others.
use Rattle.std.proofs.Common.{◌≡◌, ℕ, zero, suc, ◌+◌, ◌<◌, ◌≤◌, Bool, true, false, ◌&&◌, ◌||◌, List, [], ◌∷◌, length, map, filter, ◌⊎◌, inl, inr, refl, sym, ap}
use Rattle.std.proofs.Common.{◌∙◌, subst, arith}
use Rattle.std.specs.Prelude.{◌==◌, nat_lt, if◌then◌else◌}
use Rattle.std.specs.List.{range_with_len}
use Rattle.std.proofs.lemmas.Bool.{false≢true}
use Rattle.std.proofs.lemmas.Bool.Decides.{nat_tests}
use Rattle.inv_base.specs.Tree.{Node, is_among}
use Rattle.bind_meaning.specs.Seats.{place_among}
use Rattle.binding_laws.proofs.TreeLemmas.{Each, each-weaker, filter-same, same-is, other-is}
use Rattle.binding_laws.proofs.NodeLemmas.{and-false}
use Rattle.binding_laws.proofs.ListLemmas.{map-filter}
use Rattle.binding_laws.proofs.ContextLemmas.{Rising}
use Rattle.binding_laws.proofs.ReachLemmas.{Among, among-map}

-- ---- numbers that rise

abbrev pub Below : ℕ → ℕ → Type 0
Below a b = a < b

pub each-among : {X : Type 0} (P : X → Type 0) (x : X) (xs : List X) → Each P xs → Among x xs → P x
each-among P x [] h a = absurd a
each-among P x (y ∷ ys) h (inl e) = subst P e h.0
each-among P x (y ∷ ys) h (inr a) = each-among P x ys h.1 a

pub rising-same : (xs ys : List ℕ) → Rising Below xs → Rising Below ys → ((m : ℕ) → Among m xs → Among m ys) → ((m : ℕ) → Among m ys → Among m xs) → xs ≡ ys
rising-same [] [] h k f g = refl
rising-same [] (y ∷ ys) h k f g = absurd (g y (inl refl))
rising-same (x ∷ xs) [] h k f g = absurd (f x (inl refl))
rising-same (x ∷ xs) (y ∷ ys) h k f g = λ i. same i ∷ rising-same xs ys h.1 k.1 down up i
  where
    same : x ≡ y
    same = elim (f x (inl refl)) [
      | inl e ↦ sym e
      | inr a ↦ elim (g y (inl refl)) [
        | inl e ↦ e
        | inr b ↦ let l : y < x = each-among (Below y) x ys k.0 a in let r : x < y = each-among (Below x) y xs h.0 b in absurd (omega (arith, l, r))
      ]
    ]

    down : (m : ℕ) → Among m xs → Among m ys
    down m a = elim (f m (inr a)) [
      | inl e ↦ let l : x < m = each-among (Below x) m xs h.0 a in absurd (let s : x ≡ y = same in let z : y ≡ m = e in omega (arith, l, s, z))
      | inr b ↦ b
    ]

    up : (m : ℕ) → Among m ys → Among m xs
    up m a = elim (g m (inr a)) [
      | inl e ↦ let l : y < m = each-among (Below y) m ys k.0 a in absurd (let s : x ≡ y = same in let z : x ≡ m = e in omega (arith, l, s, z))
      | inr b ↦ b
    ]

pub range-from : (a k n : ℕ) → a ≤ k → Each (λ m. a ≤ m) (range_with_len k n)
range-from a k zero l = tt
range-from a k (suc n) l = (l, range-from a (k + 1) n (omega (arith, l)))

pub range-rising : (k n : ℕ) → Rising Below (range_with_len k n)
range-rising k zero = tt
range-rising k (suc n) = (
  each-weaker (λ m. k + 1 ≤ m) (Below k) (range_with_len (k + 1) n) (λ m l. omega (arith, l))
      (range-from (k + 1) (k + 1) n (omega arith)),
  range-rising (k + 1) n,
)

pub of-range : (k n m : ℕ) → Among m (range_with_len k n) → (k ≤ m) × (m < k + n)
of-range k zero m a = absurd a
of-range k (suc n) m (inl e) = (omega (arith, e), omega (arith, e))
of-range k (suc n) m (inr a) = let w = of-range (k + 1) n m a in let l = w.0 in let r = w.1 in (omega (arith, l), omega (arith, r))

pub to-range : (k n m : ℕ) → k ≤ m → m < k + n → Among m (range_with_len k n)
to-range k zero m l r = absurd (omega (arith, l, r))
to-range k (suc n) m l r = go (to-range (k + 1) n m) (nat_lt k m) refl
  where
    go : (k + 1 ≤ m → m < k + 1 + n → Among m (range_with_len (k + 1) n)) → (b : Bool) → nat_lt k m ≡ b → (k ≡ m) ⊎ Among m (range_with_len (k + 1) n)
    go later true e = inr (later (let z : k < m = grind (arith, nat_tests, e) in omega (arith, z)) (omega (arith, r)))
    go later false e = inl (let z : m ≤ k = grind (arith, nat_tests, e) in omega (arith, l, z))

-- ---- membership as a test

pub among-is : (m : ℕ) (ms : List ℕ) → Among m ms → is_among m ms ≡ true
among-is m [] a = absurd a
among-is m (k ∷ ms) (inl e) = ap (λ b. b || is_among m ms) (ap (λ x. m == x) e ∙ same-is m)
among-is m (k ∷ ms) (inr a) = ap (λ b. m == k || b) (among-is m ms a) ∙ or-true (m == k)
  where
    or-true : (b : Bool) → (b || true) ≡ true
    or-true true = refl
    or-true false = refl

pub is-among : (m : ℕ) (ms : List ℕ) → is_among m ms ≡ true → Among m ms
is-among m [] h = absurd (false≢true h)
is-among m (k ∷ ms) h = go (is-among m ms) (m == k) refl h
  where
    go : (is_among m ms ≡ true → Among m ms) → (b : Bool) → (m == k) ≡ b → (b || is_among m ms) ≡ true → (k ≡ m) ⊎ Among m ms
    go later true e z = inl (let w : k ≡ m = grind (arith, nat_tests, e) in w)
    go later false e z = inr (later z)

pub same-among : (m : ℕ) (xs ys : List ℕ) → (Among m xs → Among m ys) → (Among m ys → Among m xs) → is_among m xs ≡ is_among m ys
same-among m xs ys f g = go (is_among m xs) (is_among m ys) refl refl
  where
    go : (a b : Bool) → is_among m xs ≡ a → is_among m ys ≡ b → a ≡ b
    go true true e h = refl
    go false false e h = refl
    go true false e h = absurd (false≢true (sym h ∙ among-is m ys (f (is-among m xs e))))
    go false true e h = absurd (false≢true (sym e ∙ among-is m xs (g (is-among m ys h))))

-- ---- numbers of a range that are among others

not-among : (m : ℕ) (ms : List ℕ) → Each (λ k. m < k) ms → is_among m ms ≡ false
not-among m [] h = refl
not-among m (k ∷ ms) h = rw (other-is m k (inl h.0)) (not-among m ms h.1)

in-range : (t : ℕ → Bool) (a n : ℕ) (ms : List ℕ) → Rising Below ms → Each (λ m. a ≤ m) ms → Each (λ m. m < a + n) ms →
    filter (λ k. t k && is_among k ms) (range_with_len a n) ≡ filter t ms
in-range t a zero [] h l r = refl
in-range t a zero (m ∷ ms) h l r = let x = l.0 in let y = r.0 in absurd (omega (arith, x, y))
in-range t a (suc n) [] h l r =
    ap (λ b. if b then a ∷ filter (λ k. t k && false) (range_with_len (a + 1) n) else filter (λ k. t k && false) (range_with_len (a + 1) n)) (and-false (t a)) ∙
    in-range t (a + 1) n [] tt tt tt
in-range t a (suc n) (m ∷ ms) h l r = go (λ ks. in-range t (a + 1) n ks) (nat_lt a m) refl
  where
    go : ((ks : List ℕ) → Rising Below ks → Each (λ m. a + 1 ≤ m) ks → Each (λ m. m < a + 1 + n) ks →
        filter (λ k. t k && is_among k ks) (range_with_len (a + 1) n) ≡ filter t ks)
        → (b : Bool) → nat_lt a m ≡ b → filter (λ k. t k && is_among k (m ∷ ms)) (range_with_len a (suc n)) ≡ filter t (m ∷ ms)
    go further true e =
        let z : a < m = grind (arith, nat_tests, e) in
        let none : (t a && is_among a (m ∷ ms)) ≡ false =
        ap (λ b. t a && b) (not-among a (m ∷ ms) (z, each-weaker (Below m) (λ k. a < k) ms (λ k q. omega (arith, z, q)) h.0)) ∙ and-false (t a) in
        ap (λ b. if b then a ∷ filter (λ k. t k && is_among k (m ∷ ms)) (range_with_len (a + 1) n) else filter (λ k. t k && is_among k (m ∷ ms))
        (range_with_len (a + 1) n)) none
        ∙ further (m ∷ ms) h (omega (arith, z), each-weaker (Below m) (λ k. a + 1 ≤ k) ms (λ k q. omega (arith, z, q)) h.0)
        (each-weaker (λ k. k < a + suc n) (λ k. k < a + 1 + n) (m ∷ ms) (λ k q. omega (arith, q)) r)
    go further false e =
        let z : m ≤ a = grind (arith, nat_tests, e) in
        let x = l.0 in
        let same : m ≡ a = omega (arith, z, x) in
        let here : (t a && is_among a (m ∷ ms)) ≡ t m =
        ap (λ b. t a && (b || is_among a ms)) (ap (λ y. a == y) same ∙ same-is a) ∙ (and-true (t a) ∙ ap t (sym same)) in
        let later : filter (λ k. t k && is_among k (m ∷ ms)) (range_with_len (a + 1) n) ≡ filter t ms =
        filter-same (λ k. t k && is_among k (m ∷ ms)) (λ k. t k && is_among k ms) (range_with_len (a + 1) n)
        (each-weaker (λ k. a + 1 ≤ k) (λ k. (t k && is_among k (m ∷ ms)) ≡ (t k && is_among k ms)) (range_with_len (a + 1) n)
        (λ k q. ap (λ b. t k && (b || is_among k ms)) (other-is k m (inr (omega (arith, q, same))))) (range-from (a + 1) (a + 1) n (omega arith)))
        ∙ further ms h.1 (each-weaker (Below m) (λ k. a + 1 ≤ k) ms (λ k q. omega (arith, same, q)) h.0)
        (each-weaker (λ k. k < a + suc n) (λ k. k < a + 1 + n) ms (λ k q. omega (arith, q)) r.1) in
        ap (λ b. if b then a ∷ filter (λ k. t k && is_among k (m ∷ ms)) (range_with_len (a + 1) n) else filter (λ k. t k && is_among k (m ∷ ms))
        (range_with_len (a + 1) n)) here
        ∙ (ap (λ xs. if t m then a ∷ xs else xs) later ∙ ap (λ y. if t m then y ∷ filter t ms else filter t ms) (sym same))
      where
        and-true : (b : Bool) → (b && true) ≡ b
        and-true true = refl
        and-true false = refl

-- ---- the number of an element

module _ {X : Type 0} (num idx : X → ℕ) where
  abbrev pub Rises : List X → Type 0
  Rises qs = Rising (λ a b. num a < num b) qs

  pub numbers-rise : (qs : List X) → Rises qs → Rising Below (map num qs)
  numbers-rise [] h = tt
  numbers-rise (q ∷ qs) h = (each-numbers qs h.0, numbers-rise qs h.1)
    where
      each-numbers : (xs : List X) → Each (λ b. num q < num b) xs → Each (Below (num q)) (map num xs)
      each-numbers [] k = tt
      each-numbers (x ∷ xs) k = (k.0, each-numbers xs k.1)

  count-place : (s n : ℕ) (qs : List X) → Rises qs → map idx qs ≡ range_with_len s n → (q : X) → Among q qs →
      s + length (filter (λ m. nat_lt m (num q)) (map num qs)) ≡ idx q
  count-place s n [] h e q a = absurd a
  count-place s zero (x ∷ qs) h e q a = absurd (let z : ◌≡◌ {A = List ℕ} (idx x ∷ map idx qs) [] = e in cc)
  count-place s (suc n) (x ∷ qs) h e q a = go (count-place (s + 1) n qs h.1) a
    where
      first : idx x ≡ s
      first = let z : idx x ∷ map idx qs ≡ s ∷ range_with_len (s + 1) n = e in cc

      further : map idx qs ≡ range_with_len (s + 1) n
      further = let z : idx x ∷ map idx qs ≡ s ∷ range_with_len (s + 1) n = e in cc

      none-below : (xs : List X) → Each (λ b. num x < num b) xs → filter (λ m. nat_lt m (num x)) (map num xs) ≡ []
      none-below [] k = refl
      none-below (y ∷ xs) k = rw (let l = k.0 in let z : nat_lt (num y) (num x) ≡ false = grind (arith, nat_tests, l) in z) (none-below xs k.1)

      go : (map idx qs ≡ range_with_len (s + 1) n → (q : X) → Among q qs → s + 1 + length (filter (λ m. nat_lt m (num q)) (map num qs)) ≡ idx q)
          → (x ≡ q) ⊎ Among q qs → s + length (filter (λ m. nat_lt m (num q)) (map num (x ∷ qs))) ≡ idx q
      go rest (inl same) =
          subst (λ y. s + length (filter (λ m. nat_lt m (num y)) (map num (x ∷ qs))) ≡ idx y) same
          (let none : filter (λ m. nat_lt m (num x)) (num x ∷ map num qs) ≡ [] = rw (let z : nat_lt (num x) (num x) ≡ false = grind (arith, nat_tests) in z)
          (none-below qs h.0) in
          let zero_long : length (filter (λ m. nat_lt m (num x)) (num x ∷ map num qs)) ≡ 0 = ap length none in
          let f = first in
          omega (arith, zero_long, f))
      go rest (inr m) =
          let less : num x < num q = each-among (λ b. num x < num b) q qs h.0 m in
          let later = rest further q m in
          let more : length (filter (λ k. nat_lt k (num q)) (num x ∷ map num qs)) ≡ suc (length (filter (λ k. nat_lt k (num q)) (map num qs))) =
          ap (λ b. length (if b then num x ∷ filter (λ k. nat_lt k (num q)) (map num qs) else filter (λ k. nat_lt k (num q)) (map num qs)))
          (let z : nat_lt (num x) (num q) ≡ true = grind (arith, nat_tests, less) in z) in
          omega (arith, later, more)

  node-number : Node → ℕ
  node-number node = node.number

  length-map : (xs : List Node) → length (map (λ (node : Node). node.number) xs) ≡ length xs
  length-map [] = refl
  length-map (x ∷ xs) = ap suc (length-map xs)

  -- the elements of occurrences rise, and so do the numbers of the occurrences, from 1 on
  pub place-is : (nodes : List Node) (long : ℕ) → map (λ (node : Node). node.number) nodes ≡ range_with_len 0 long → (n : ℕ) (qs : List X) → Rises qs →
      map idx qs ≡ range_with_len 1 n
      → Each (λ q. num q < long) qs → (elements : List ℕ) → ((m : ℕ) → Among m elements → Among m (map num qs)) →
      ((m : ℕ) → Among m (map num qs) → Among m elements)
      → (q : X) → Among q qs → place_among nodes elements (num q) ≡ idx q
  place-is nodes long are n qs rises counted below elements f g q a =
      let t : ℕ → Bool = λ m. nat_lt m (num q) in
      let same : filter (λ k. t k && is_among k elements) (range_with_len 0 long) ≡ filter t (map num qs) =
      filter-same (λ k. t k && is_among k elements) (λ k. t k && is_among k (map num qs)) (range_with_len 0 long)
      (each-weaker (λ m. 0 ≤ m) (λ k. (t k && is_among k elements) ≡ (t k && is_among k (map num qs))) (range_with_len 0 long)
      (λ k l. ap (λ b. t k && b) (same-among k elements (map num qs) (f k) (g k)))
      (range-from 0 0 long (omega arith)))
      ∙ in-range t 0 long (map num qs) (numbers-rise qs rises) (all-above qs) (all-below qs below) in
      let counts : length (filter (λ (node : Node). t node.number && is_among node.number elements) nodes) ≡ length (filter t (map num qs)) =
      sym (length-map (filter (λ (node : Node). t node.number && is_among node.number elements) nodes))
      ∙ ap length (map-filter (λ (node : Node). node.number) (λ k. t k && is_among k elements) nodes ∙
      (ap (filter (λ k. t k && is_among k elements)) are ∙ same)) in
      ap (λ k. 1 + k) counts ∙ count-place 1 n qs rises counted q a
    where
      all-above : (xs : List X) → Each (λ m. 0 ≤ m) (map num xs)
      all-above [] = tt
      all-above (x ∷ xs) = (omega arith, all-above xs)

      all-below : (xs : List X) → Each (λ x. num x < long) xs → Each (λ m. m < 0 + long) (map num xs)
      all-below [] k = tt
      all-below (x ∷ xs) k = ((let l = k.0 in omega (arith, l)), all-below xs k.1)

  -- one element for each number, and each of them among the others
  pub record AreNumbered (qs : List X) (n long : ℕ) (elements : List ℕ) : Type 0 where
    pub rises : Rises qs
    pub below : Each (λ q. num q < long) qs
    pub indices : Rising (λ a b. idx a < idx b) qs
    pub within : Each (λ q. (1 ≤ idx q) × (idx q < 1 + n)) qs
    pub all : (j : ℕ) → 1 ≤ j → j < 1 + n → (q : X) × (Among q qs × ((idx q ≡ j) × Among (num q) elements))
    pub known : (m : ℕ) → Among m elements → Among m (map num qs)

  pub rising-one : (qs : List X) → Rising (λ a b. idx a < idx b) qs → (a b : X) → Among a qs → Among b qs → idx a ≡ idx b → a ≡ b
  rising-one [] h a b x y e = absurd x
  rising-one (q ∷ qs) h a b (inl x) (inl y) e = sym x ∙ y
  rising-one (q ∷ qs) h a b (inl x) (inr y) e = let l = each-among (λ z. idx q < idx z) b qs h.0 y in let s : idx q ≡ idx a = ap idx x in
      absurd (omega (arith, l, s, e))
  rising-one (q ∷ qs) h a b (inr x) (inl y) e = let l = each-among (λ z. idx q < idx z) a qs h.0 x in let s : idx q ≡ idx b = ap idx y in
      absurd (omega (arith, l, s, e))
  rising-one (q ∷ qs) h a b (inr x) (inr y) e = rising-one qs h.1 a b x y e

  indices-rise : (qs : List X) → Rising (λ a b. idx a < idx b) qs → Rising Below (map idx qs)
  indices-rise [] h = tt
  indices-rise (q ∷ qs) h = (each-index qs h.0, indices-rise qs h.1)
    where
      each-index : (xs : List X) → Each (λ b. idx q < idx b) xs → Each (Below (idx q)) (map idx xs)
      each-index [] k = tt
      each-index (x ∷ xs) k = (k.0, each-index xs k.1)

  of-mapped : (f : X → ℕ) (m : ℕ) (qs : List X) → Among m (map f qs) → (q : X) × (Among q qs × (f q ≡ m))
  of-mapped f m [] a = absurd a
  of-mapped f m (q ∷ qs) (inl e) = (q, (inl refl, e))
  of-mapped f m (q ∷ qs) (inr a) = let w = of-mapped f m qs a in (w.0, (inr w.1.0, w.1.1))

  pub numbered : (nodes : List Node) (long : ℕ) → map (λ (node : Node). node.number) nodes ≡ range_with_len 0 long → (n : ℕ) (qs : List X) (elements : List ℕ) →
      AreNumbered qs n long elements
      → (q : X) → Among q qs → place_among nodes elements (num q) ≡ idx q
  numbered nodes long are n qs elements h q a =
      place-is nodes long are n qs h.rises
      (rising-same (map idx qs) (range_with_len 1 n) (indices-rise qs h.indices) (range-rising 1 n)
      (λ m b. let w = of-mapped idx m qs b in let k = each-among (λ x. (1 ≤ idx x) × (idx x < 1 + n)) w.0 qs h.within w.1.0 in let e = w.1.1 in let l = k.0 in
      let r = k.1 in to-range 1 n m (omega (arith, l, e)) (omega (arith, r, e)))
      (λ m b. let w = of-range 1 n m b in let k = h.all m w.0 w.1 in subst (λ j. Among j (map idx qs)) k.1.1.0 (among-map idx k.0 qs k.1.0)))
      h.below elements h.known
      (λ m b. let w = of-mapped num m qs b in
      let k = each-among (λ x. (1 ≤ idx x) × (idx x < 1 + n)) w.0 qs h.within w.1.0 in
      let v = h.all (idx w.0) k.0 k.1 in
      let same : v.0 ≡ w.0 = rising-one qs h.indices v.0 w.0 v.1.0 w.1.0 v.1.1.0 in
      subst (λ j. Among j elements) (ap num same ∙ w.1.1) v.1.1.1)
      q a
