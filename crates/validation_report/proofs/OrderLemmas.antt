-- A stable sort by the numbers of nodes leaves document order.
use Rattle.std.proofs.Common.{◌≡◌, ℕ, zero, suc, ◌<◌, ◌≤◌, Bool, true, false, cond, List, [], ◌∷◌, length, get_or, map, filter, nat_cmp, is_lt, nat_lt, refl}
use Rattle.std.proofs.Common.{sym, ap, ◌∙◌, arith, inl, inr, suc-le-suc, zero-le}
use Rattle.std.proofs.lemmas.Bool.{cond-true, cond-false, cases_Bool, ltb-true, ltb-false}
use Rattle.std.proofs.lemmas.Bool.Decides.{nat_tests}
use Rattle.std.specs.List.Sorted.{ties, IsNonDecreasingBy, IsStableByKey}
use Rattle.validation_report.specs.Told.{put, in_order}

kept : {X : Type 0} (p : X → Bool) (y : X) (ys : List X) → p y ≡ true → filter p (y ∷ ys) ≡ y ∷ filter p ys
kept p y ys h = cond-true _ _ _ h

dropped : {X : Type 0} (p : X → Bool) (y : X) (ys : List X) → p y ≡ false → filter p (y ∷ ys) ≡ filter p ys
dropped p y ys h = cond-false _ _ _ h

ties_at : (m n : ℕ) → (ties (λ x y. is_lt (nat_cmp x y)) m n ≡ true → m ≡ n) × (m ≡ n → ties (λ x y. is_lt (nat_cmp x y)) m n ≡ true)
ties_at m n = (λ h. grind (arith, nat_tests), λ h. grind (arith, nat_tests))

module _ {X : Type 0} (node : X → ℕ) where
  abbrev beside : X → X → Bool
  beside = ties (λ x y. is_lt (nat_cmp (node x) (node y)))

  beside-true : (x y : X) → beside x y ≡ true → node x ≡ node y
  beside-true x y = (ties_at (node x) (node y)).0

  beside_from : (x y : X) → node x ≡ node y → beside x y ≡ true
  beside_from x y = (ties_at (node x) (node y)).1

  -- the same by one test of two lists
  put-by : (test : Bool) (x y : X) (ys : List X) → nat_lt (node y) (node x) ≡ test
      → put node x (y ∷ ys) ≡ elim test [ true ↦ y ∷ put node x ys | false ↦ x ∷ (y ∷ ys) ]
  put-by test x y ys e = ap (λ t. elim t [ true ↦ y ∷ put node x ys | false ↦ x ∷ (y ∷ ys) ]) e

  put-past : (x y : X) (ys : List X) → nat_lt (node y) (node x) ≡ true → put node x (y ∷ ys) ≡ y ∷ put node x ys
  put-past x y ys e = put-by true x y ys e

  put-stays : (x y : X) (ys : List X) → nat_lt (node y) (node x) ≡ false → put node x (y ∷ ys) ≡ x ∷ (y ∷ ys)
  put-stays x y ys e = put-by false x y ys e

  filter-put : (x y : X) (zs : List X) → filter (beside x) (put node y zs) ≡ filter (beside x) (y ∷ zs)
  filter-put x y [] = refl
  filter-put x y (z ∷ zs) =
      let p = beside x in
      elim (cases_Bool (nat_lt (node z) (node y))) [
        | inr stays ↦ ap (filter p) (put-stays y z zs stays)
        | inl past ↦
            ap (filter p) (put-past y z zs past)
            ∙ elim (cases_Bool (p z)) [
              | inr without ↦
                  dropped p z (put node y zs) without ∙ filter-put x y zs
                  ∙ ap (λ l. cond (p y) (y ∷ l) l) (sym (dropped p z zs without))
              | inl with ↦
                  elim (cases_Bool (p y)) [
                    | inl both ↦ absurd (omega (arith, ltb-true (node z) (node y) past, beside-true x y both, beside-true x z with))
                    | inr only ↦
                        kept p z (put node y zs) with ∙ ap (λ l. z ∷ l) (filter-put x y zs ∙ dropped p y zs only)
                        ∙ sym (dropped p y (z ∷ zs) only ∙ kept p z zs with)
                  ]
            ]
      ]

  filter-in_order : (x : X) (ys : List X) → filter (beside x) (in_order node ys) ≡ filter (beside x) ys
  filter-in_order x [] = refl
  filter-in_order x (y ∷ ys) = filter-put x y (in_order node ys) ∙ ap (λ l. cond (beside x y) (y ∷ l) l) (filter-in_order x ys)

  abbrev AreAtLeast : ℕ → List X → Type 0
  AreAtLeast n [] = Unit {0}
  AreAtLeast n (y ∷ ys) = (n ≤ node y) × AreAtLeast n ys

  abbrev Rises : List X → Type 0
  Rises [] = Unit {0}
  Rises (y ∷ ys) = AreAtLeast (node y) ys × Rises ys

  lower : (n m : ℕ) (ys : List X) → n ≤ m → AreAtLeast m ys → AreAtLeast n ys
  lower n m [] le h = tt
  lower n m (y ∷ ys) le h = let first = h.0 in (omega arith, lower n m ys le h.1)

  least-put : (n : ℕ) (y : X) (zs : List X) → n ≤ node y → AreAtLeast n zs → AreAtLeast n (put node y zs)
  least-put n y [] le h = (le, tt)
  least-put n y (z ∷ zs) le h =
      elim (cases_Bool (nat_lt (node z) (node y))) [
        | inl past ↦ rw (put-past y z zs past) (h.0, least-put n y zs le h.1)
        | inr stays ↦ rw (put-stays y z zs stays) (le, h)
      ]

  rises-put : (y : X) (zs : List X) → Rises zs → Rises (put node y zs)
  rises-put y [] h = (tt, tt)
  rises-put y (z ∷ zs) h =
      elim (cases_Bool (nat_lt (node z) (node y))) [
        | inl past ↦ rw (put-past y z zs past) (least-put (node z) y zs (omega (arith, ltb-true (node z) (node y) past)) h.0, rises-put y zs h.1)
        | inr stays ↦
            let le : node y ≤ node z = omega (arith, ltb-false (node z) (node y) stays) in
            rw (put-stays y z zs stays) ((le, lower (node y) (node z) zs le h.0), h)
      ]

  rises-in_order : (ys : List X) → Rises (in_order node ys)
  rises-in_order [] = tt
  rises-in_order (y ∷ ys) = rises-put y (in_order node ys) (rises-in_order ys)

  least-at : (n : ℕ) (ys : List X) → ((j : ℕ) (d : X) → j < length ys → n ≤ node (get_or ys j d)) → AreAtLeast n ys
  least-at n [] h = tt
  least-at n (y ∷ ys) h = (h zero y (suc-le-suc zero-le), least-at n ys (λ j d lt. h (suc j) d (suc-le-suc lt)))

  rises-from_sort : (ys : List X) → IsNonDecreasingBy node ys → Rises ys
  rises-from_sort [] h = tt
  rises-from_sort (y ∷ ys) h = (
    least-at (node y) ys (λ j d lt. h zero (suc j) d zero-le (suc-le-suc lt)),
    rises-from_sort ys (λ i j d le lt. h (suc i) (suc j) d (suc-le-suc le) (suc-le-suc lt)),
  )

  -- one beside x is among them
  least-found : (n : ℕ) (x : X) (ys : List X) (w : X) (ws : List X) → AreAtLeast n ys → filter (beside x) ys ≡ w ∷ ws → n ≤ node x
  least-found n x [] w ws h e = cc
  least-found n x (y ∷ ys) w ws h e =
      elim (cases_Bool (beside x y)) [
        | inl with ↦ omega (arith, h.0, beside-true x y with)
        | inr without ↦ least-found n x ys w ws h.1 (sym (dropped (beside x) y ys without) ∙ e)
      ]

  same_from_parts : (ys zs : List X) → Rises ys → Rises zs → ((x : X) → filter (beside x) ys ≡ filter (beside x) zs) → ys ≡ zs
  same_from_parts [] [] left right same = refl
  same_from_parts [] (z ∷ zs) left right same =
      let clash = same z ∙ kept (beside z) z zs (beside_from z z refl) in cc
  same_from_parts (y ∷ ys) [] left right same =
      let clash = sym (same y) ∙ kept (beside y) y ys (beside_from y y refl) in cc
  same_from_parts (y ∷ ys) (z ∷ zs) left right same =
      let at_y = kept (beside y) y ys (beside_from y y refl) in
      let at_z = kept (beside z) z zs (beside_from z z refl) in
      let up = least-found (node z) y (z ∷ zs) y _ (omega arith, right.0) (sym (same y) ∙ at_y) in
      let down = least-found (node y) z (y ∷ ys) z _ (omega arith, left.0) (same z ∙ at_z) in
      let heads = sym at_y ∙ same y ∙ kept (beside y) z zs (beside_from y z (omega arith)) in
      let head : y ≡ z = cc in
      let tails : (x : X) → filter (beside x) ys ≡ filter (beside x) zs =
      λ x. elim (cases_Bool (beside x y)) [
        | inl with ↦
            let both = sym (kept (beside x) y ys with) ∙ same x ∙ kept (beside x) z zs (ap (beside x) (sym head) ∙ with) in cc
        | inr without ↦
            sym (dropped (beside x) y ys without) ∙ same x ∙ dropped (beside x) z zs (ap (beside x) (sym head) ∙ without)
      ] in
      ap (λ w. w ∷ ys) head ∙ ap (λ l. z ∷ l) (same_from_parts ys zs left.1 right.1 tails)

  pub in_order-from_sort : (xs ys : List X) → IsNonDecreasingBy node ys → IsStableByKey node nat_cmp xs ys → ys ≡ in_order node xs
  in_order-from_sort xs ys sorted stable =
      same_from_parts ys (in_order node xs) (rises-from_sort ys sorted) (rises-in_order xs)
      (λ x. stable x ∙ sym (filter-in_order x xs))

-- ---- the order of what is told

-- what is told with the node that it is told of
abbrev pub tagged : {X Y : Type 0} → (X → ℕ) → (X → Y) → X → ℕ × Y
tagged node told x = (node x, told x)

abbrev tag : {Y : Type 0} → ℕ × Y → ℕ
tag pair = pair.0

choice : {X Y : Type 0} (f : X → Y) (test : Bool) (xs ys : List X)
    → map f (elim test [ true ↦ xs | false ↦ ys ]) ≡ elim test [ true ↦ map f xs | false ↦ map f ys ]
choice f true xs ys = refl
choice f false xs ys = refl

module _ {X Y : Type 0} (node : X → ℕ) (told : X → Y) where
  map-put : (x : X) (ys : List X) → map (tagged node told) (put node x ys) ≡ put tag (tagged node told x) (map (tagged node told) ys)
  map-put x [] = refl
  map-put x (y ∷ ys) =
      let f = tagged node told in
      choice f (nat_lt (node y) (node x)) (y ∷ put node x ys) (x ∷ (y ∷ ys))
      ∙ ap (λ l. elim (nat_lt (node y) (node x)) [ true ↦ f y ∷ l | false ↦ f x ∷ (f y ∷ map f ys) ]) (map-put x ys)

  pub map-in_order : (xs : List X) → map (tagged node told) (in_order node xs) ≡ in_order tag (map (tagged node told) xs)
  map-in_order [] = refl
  map-in_order (x ∷ xs) = map-put x (in_order node xs) ∙ ap (put tag (tagged node told x)) (map-in_order xs)
