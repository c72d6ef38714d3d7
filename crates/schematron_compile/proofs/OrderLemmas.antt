-- Numbers that rise: two such lists with the same members are one.
use Rattle.std.proofs.Common.{◌≡◌, subst, ℕ, suc, ◌≤◌, ◌<◌, Bool, true, false, ◌||◌, ◌==◌, ⊎_elim, List, [], ◌∷◌, ◌++◌, refl, ap, sym, ◌∙◌, arith}
use Rattle.std.specs.Prelude.{eqb}
use Rattle.std.specs.List.{list_any, dedup, dedup_from}
use Rattle.std.specs.List.Sorted.{IsSorted, IsStrictlySortedBy}
use Rattle.std.specs.Ordering.{nat_cmp, eq_by_cmp}
use Rattle.std.specs.declared.cmp.Ordering.TheVariants.{Less}
use Rattle.std.proofs.lemmas.Bool.{or_cases, eqb-true, eq-eqb, or_left, false≢true}
use Rattle.std.proofs.lemmas.Bool.Decides.{nat_tests}
use Rattle.std.proofs.lemmas.Cmp.{nat_cmp_total}
use Rattle.std.proofs.lemmas.List.Kept.{IsStrictlySortedBy-dedup}
use Rattle.inv_base.specs.Tree.{is_among}
use Rattle.schematron_compile.specs.Places.{Rises}

-- ---- what sorting leaves

less : (n m : ℕ) → nat_cmp n m ≡ Less → suc n ≤ m
less n m h = grind (arith, nat_tests)

ties : (n m : ℕ) → eqb n m ≡ eq_by_cmp nat_cmp n m
ties n m = grind (arith, nat_tests)

strict-behind : (n : ℕ) (ns : List ℕ) → IsStrictlySortedBy nat_cmp (n ∷ ns) → Rises (suc n) ns
unfolding IsStrictlySortedBy
strict-behind n [] h = tt
strict-behind n (m ∷ ns) h = (less n m h.0.0, strict-behind m ns h.1)

strict-rises : (ns : List ℕ) → IsStrictlySortedBy nat_cmp ns → Rises 0 ns
strict-rises [] h = tt
strict-rises (n ∷ ns) h = ((let z : 0 ≤ n = omega arith in z), strict-behind n ns h)

pub dedup-rises : (ns : List ℕ) → IsSorted nat_cmp ns → Rises 0 (dedup eqb ns)
dedup-rises ns h = strict-rises _ (IsStrictlySortedBy-dedup nat_cmp_total ties ns h)

or_twice : (a b r : Bool) → a ≡ b → (b || r) ≡ (b || (a || r))
or_twice true true r e = refl
or_twice false false r e = refl
or_twice true false r e = cc
or_twice false true r e = cc

dedup_from-among : (k : ℕ) (ns : List ℕ) (m : ℕ) → is_among m (dedup_from eqb k ns) ≡ is_among m (k ∷ ns)
dedup_from-among k [] m = refl
dedup_from-among k (x ∷ ns) m = go (eqb x k) refl (dedup_from-among k ns m) (dedup_from-among x ns m)
  where
    go : (b : Bool) → eqb x k ≡ b → is_among m (dedup_from eqb k ns) ≡ is_among m (k ∷ ns) → is_among m (dedup_from eqb x ns) ≡ is_among m (x ∷ ns)
        → is_among m (dedup_from eqb k (x ∷ ns)) ≡ is_among m (k ∷ (x ∷ ns))
    go true e h l = rw e (h ∙ or_twice (m == x) (m == k) (is_among m ns) (ap (λ y. m == y) (eqb-true x k e)))
    go false e h l = rw e (ap (λ b. m == k || b) l)

pub dedup-among : (ns : List ℕ) (m : ℕ) → is_among m (dedup eqb ns) ≡ is_among m ns
dedup-among [] m = refl
dedup-among (k ∷ ns) m = dedup_from-among k ns m

pub among-any : (m : ℕ) (ns : List ℕ) → is_among m ns ≡ list_any (λ n. m == n) ns
among-any m [] = refl
among-any m (n ∷ ns) = ap (λ b. m == n || b) (among-any m ns)

-- ---- members

pub weaken : (n : ℕ) (ns : List ℕ) → Rises (suc n) ns → Rises n ns
weaken n [] r = tt
weaken n (m ∷ ns) r = ((let l : suc n ≤ m = r.0 in omega (arith, l)), r.1)

above : (k : ℕ) (ns : List ℕ) → Rises k ns → (m : ℕ) → is_among m ns ≡ true → k ≤ m
above k [] r m e = absurd (false≢true e)
above k (n ∷ ns) r m e =
    let first : k ≤ n = r.0 in
    ⊎_elim
    (λ (same : (m == n) ≡ true). omega (arith, eqb-true m n same, first))
    (λ (more : is_among m ns ≡ true). omega (arith, above (suc n) ns r.1 m more, first))
    (or_cases (m == n) (is_among m ns) e)

first_among : (n : ℕ) (ns : List ℕ) → is_among n (n ∷ ns) ≡ true
first_among n ns = or_left (n == n) (is_among n ns) (eq-eqb n n refl)

-- a number that is below all is none of them
below_none : (n : ℕ) (ns : List ℕ) → Rises (suc n) ns → is_among n ns ≡ false
below_none n ns r = go (is_among n ns) refl
  where
    go : (b : Bool) → is_among n ns ≡ b → is_among n ns ≡ false
    go false e = e
    go true e = absurd (let l : suc n ≤ n = above (suc n) ns r n e in omega (arith, l))

rest_same : (m n : ℕ) (xs ys : List ℕ) → Rises (suc n) xs → Rises (suc n) ys → (m == n || is_among m xs) ≡ (m == n || is_among m ys) →
    is_among m xs ≡ is_among m ys
rest_same m n xs ys r s e = go (m == n) refl e
  where
    go : (b : Bool) → (m == n) ≡ b → (b || is_among m xs) ≡ (b || is_among m ys) → is_among m xs ≡ is_among m ys
    go false h e = e
    go true h e =
        let is : m ≡ n = eqb-true m n h in
        ap (λ k. is_among k xs) is ∙ (below_none n xs r ∙ (sym (below_none n ys s) ∙ sym (ap (λ k. is_among k ys) is)))

pub one_list : (a b : ℕ) (xs ys : List ℕ) → Rises a xs → Rises b ys → ((m : ℕ) → is_among m xs ≡ is_among m ys) → xs ≡ ys
one_list a b [] [] r s same = refl
one_list a b [] (y ∷ ys) r s same = absurd (false≢true (same y ∙ first_among y ys))
one_list a b (x ∷ xs) [] r s same = absurd (false≢true (sym (same x) ∙ first_among x xs))
one_list a b (x ∷ xs) (y ∷ ys) r s same =
    let lower : y ≤ x = above y (y ∷ ys) ((let z : y ≤ y = omega arith in z), s.1) x (sym (same x) ∙ first_among x xs) in
    let upper : x ≤ y = above x (x ∷ xs) ((let z : x ≤ x = omega arith in z), r.1) y (same y ∙ first_among y ys) in
    let is : y ≡ x = omega (arith, lower, upper) in
    let behind : Rises (suc x) ys = subst (λ k. Rises (suc k) ys) is s.1 in
    let rest : xs ≡ ys = one_list (suc x) (suc x) xs ys r.1 behind (λ m. rest_same m x xs ys r.1 behind (same m ∙ ap (λ k. m == k || is_among m ys) is)) in
    ap (λ zs. x ∷ zs) rest ∙ ap (λ k. k ∷ ys) (sym is)
