-- Places in their order: a rising list that has all of some places has them in their order.
use Rattle.std.proofs.Common.{◌≡◌, ℕ, Bool, true, false, ◌&&◌, ◌||◌, List, [], ◌∷◌, filter, ◌⊎◌, inl, inr, refl, sym, ap, ◌∙◌, subst, arith}
use Rattle.std.specs.Prelude.{◌==◌, nat_lt, if◌then◌else◌}
use Rattle.std.specs.List.{list_any}
use Rattle.std.proofs.lemmas.Bool.Decides.{nat_tests}
use Rattle.binding_laws.proofs.TreeLemmas.{Each}
use Rattle.address_laws.specs.AddressTrees.{Place, same_place, comes_before, put, in_order}

abbrev pub In : {X : Type 0} → X → List X → Type 0
In x [] = ⊥
In x (y ∷ ys) = (x ≡ y) ⊎ In x ys

-- Each place comes before all behind it.
abbrev pub Rising : List Place → Type 0
Rising [] = Unit {0}
Rising (p ∷ ps) = Each (λ q. comes_before p q ≡ true) ps × Rising ps

pub each-in : {X : Type 0} (P : X → Type 0) (xs : List X) (x : X) → Each P xs → In x xs → P x
each-in P [] x h k = elim k [ ]
each-in P (y ∷ ys) x h (inl e) = subst P (sym e) h.0
each-in P (y ∷ ys) x h (inr k) = each-in P ys x h.1 k

-- ---- two places

numbers-itself : (m k : ℕ) → ((m == m) && (k == k)) ≡ true
numbers-itself m k = grind (arith, nat_tests)

pub same-itself : (p : Place) → same_place p p ≡ true
same-itself p = numbers-itself p.step.number p.occurrence

numbers-apart : (m k n j : ℕ) → (nat_lt m n || ((m == n) && nat_lt k j)) ≡ true → ((m == n) && (k == j)) ≡ false
numbers-apart m k n j h = grind (arith, nat_tests)

numbers-back : (m k n j : ℕ) → (nat_lt m n || ((m == n) && nat_lt k j)) ≡ true → ((n == m) && (j == k)) ≡ false
numbers-back m k n j h = grind (arith, nat_tests)

numbers-behind : (m k n j : ℕ) → (nat_lt m n || ((m == n) && nat_lt k j)) ≡ true → (nat_lt n m || ((n == m) && nat_lt j k)) ≡ false
numbers-behind m k n j h = grind (arith, nat_tests)

pub before-apart : (p q : Place) → comes_before p q ≡ true → same_place p q ≡ false
before-apart p q h = numbers-apart p.step.number p.occurrence q.step.number q.occurrence h

pub before-back : (p q : Place) → comes_before p q ≡ true → same_place q p ≡ false
before-back p q h = numbers-back p.step.number p.occurrence q.step.number q.occurrence h

before-behind : (p q : Place) → comes_before p q ≡ true → comes_before q p ≡ false
before-behind p q h = numbers-behind p.step.number p.occurrence q.step.number q.occurrence h

-- ---- one more place

abbrev one_more : (Place → Bool) → Place → Place → Bool
one_more q x p = same_place p x || q p

each-filter : (P : Place → Type 0) (q : Place → Bool) (ps : List Place) → Each P ps → Each P (filter q ps)
each-filter P q [] h = tt
each-filter P q (p ∷ ps) h = go (q p) (each-filter P q ps h.1)
  where
    go : (b : Bool) → Each P (filter q ps) → Each P (if b then p ∷ filter q ps else filter q ps)
    go true k = (h.0, k)
    go false k = k

filter-one_more : (q : Place → Bool) (x : Place) (ps : List Place) → Each (λ p. comes_before x p ≡ true) ps → filter (one_more q x) ps ≡ filter q ps
filter-one_more q x [] h = refl
filter-one_more q x (p ∷ ps) h =
    ap (λ b. if b || q p then p ∷ filter (one_more q x) ps else filter (one_more q x) ps) (before-back x p h.0) ∙
    ap (λ l. if q p then p ∷ l else l) (filter-one_more q x ps h.1)

put-first : (x : Place) (ps : List Place) → Each (λ p. comes_before x p ≡ true) ps → put x ps ≡ x ∷ ps
put-first x [] h = refl
put-first x (p ∷ ps) h =
    ap (λ b. elim b [ true ↦ p ∷ ps | false ↦ elim (comes_before x p) [ true ↦ x ∷ (p ∷ ps) | false ↦ p ∷ put x ps ] ]) (before-apart x p h.0)
    ∙ ap (λ b. elim b [ true ↦ x ∷ (p ∷ ps) | false ↦ p ∷ put x ps ]) h.0

put-same : (x : Place) (ps : List Place) → put x (x ∷ ps) ≡ x ∷ ps
put-same x ps = ap (λ b. elim b [ true ↦ x ∷ ps | false ↦ elim (comes_before x x) [ true ↦ x ∷ (x ∷ ps) | false ↦ x ∷ put x ps ] ]) (same-itself x)

put-past : (x p : Place) (ps : List Place) → comes_before p x ≡ true → put x (p ∷ ps) ≡ p ∷ put x ps
put-past x p ps h =
    ap (λ b. elim b [ true ↦ p ∷ ps | false ↦ elim (comes_before x p) [ true ↦ x ∷ (p ∷ ps) | false ↦ p ∷ put x ps ] ]) (before-back p x h)
    ∙ ap (λ b. elim b [ true ↦ x ∷ (p ∷ ps) | false ↦ p ∷ put x ps ]) (before-behind p x h)

put-here : (q : Place → Bool) (x : Place) (ps : List Place) → Each (λ p. comes_before x p ≡ true) ps →
    put x (filter q (x ∷ ps)) ≡ filter (one_more q x) (x ∷ ps)
put-here q x ps h = go (q x) ∙ sym (ap (λ b. if b || q x then x ∷ filter (one_more q x) ps else filter (one_more q x) ps) (same-itself x) ∙
    ap (λ l. x ∷ l) (filter-one_more q x ps h))
  where
    go : (b : Bool) → put x (if b then x ∷ filter q ps else filter q ps) ≡ x ∷ filter q ps
    go true = put-same x (filter q ps)
    go false = put-first x (filter q ps) (each-filter (λ p. comes_before x p ≡ true) q ps h)

put-there : (q : Place → Bool) (x p : Place) (ps : List Place) → comes_before p x ≡ true → put x (filter q ps) ≡ filter (one_more q x) ps
    → put x (filter q (p ∷ ps)) ≡ filter (one_more q x) (p ∷ ps)
put-there q x p ps h e = go (q p) ∙ sym (ap (λ b. if b || q p then p ∷ filter (one_more q x) ps else filter (one_more q x) ps) (before-apart p x h))
  where
    go : (b : Bool) → put x (if b then p ∷ filter q ps else filter q ps) ≡ (if b then p ∷ filter (one_more q x) ps else filter (one_more q x) ps)
    go true = put-past x p (filter q ps) h ∙ ap (λ l. p ∷ l) e
    go false = e

put-among : (q : Place → Bool) (x : Place) (ps : List Place) → Rising ps → In x ps → put x (filter q ps) ≡ filter (one_more q x) ps
put-among q x [] r k = elim k [ ]
put-among q x (p ∷ ps) r (inl e) = subst (λ y. put y (filter q (p ∷ ps)) ≡ filter (one_more q y) (p ∷ ps)) (sym e) (put-here q p ps r.0)
put-among q x (p ∷ ps) r (inr k) = put-there q x p ps (each-in (λ y. comes_before p y ≡ true) ps x r.0 k) (put-among q x ps r.1 k)

filter-nothing : (ps : List Place) → filter (λ p. false) ps ≡ []
filter-nothing [] = refl
filter-nothing (p ∷ ps) = filter-nothing ps

-- ---- many places

pub in_order-is : (xs ps : List Place) → Rising ps → Each (λ x. In x ps) xs → in_order xs ≡ filter (λ p. list_any (same_place p) xs) ps
in_order-is [] ps r h = sym (filter-nothing ps)
in_order-is (x ∷ xs) ps r h = ap (put x) (in_order-is xs ps r h.1) ∙ put-among (λ p. list_any (same_place p) xs) x ps r h.0
