-- The first of equal items.
use Rattle.std.proofs.Common.{◌≡◌, ℕ, zero, suc, ◌+◌, ◌<◌, ◌≤◌, Bool, true, false, cond, List, [], ◌∷◌, ◌++◌, length, drop, get_or, refl, ap, sym, ◌∙◌}
use Rattle.std.proofs.Common.{append_assoc, arith, ◌⊎◌, inl, inr}
use Rattle.std.specs.Prelude.{not, ◌||◌, ◌&&◌, filter}
use Rattle.std.specs.List.{list_all}
use Rattle.std.specs.Ordering.{is_eq, int_cmp, bool_cmp, nat_cmp, ordering_then, ordering_reverse}
use Rattle.std.specs.declared.cmp.Ordering.{Ordering}
use Rattle.std.specs.declared.cmp.Ordering.TheVariants.{Less, Equal, Greater}
use Rattle.std.specs.Cmp.{IsTotalOrder}
use Rattle.std.specs.Cmp.Lexicographic.{nat_list_cmp_total, slice_cmp}
use Rattle.std.proofs.lemmas.Bool.{false≢true, and_parts}
use Rattle.std.proofs.lemmas.List.{append-nil, at_drop_all}
use Rattle.std.proofs.lemmas.List.Folds.{list_any-append}
use Rattle.inv_decimal.specs.CivilDay.{day_cmp}
use Rattle.xpath_items.specs.declared.item.Item.{Item}
use Rattle.xpath_items.specs.declared.item.Item.TheVariants as i
use Rattle.inv_base.specs.Tree.{Node}
use Rattle.xpath_meaning.specs.Items.{atom, atomised}
use Rattle.xpath_meaning.specs.Comparing.{as_text}
use Rattle.xpath_meaning.specs.Collections.{stand, are_equal, distinct}
use Rattle.xpath_operators.specs.Ranks.{item_cmp, has_alike}
use Rattle.xpath_values.specs.Distinct.{is_known, unknown, with_item, is_atomic, AreKnown}
use Rattle.xpath_values.proofs.CharacterLemmas.{rest_at}

bool_cases : (b : Bool) → (b ≡ true) ⊎ (b ≡ false)
bool_cases true = inl refl
bool_cases false = inr refl

equal_from : (o : Ordering) → is_eq o ≡ true → o ≡ Equal
equal_from Less h = absurd (false≢true h)
equal_from Equal h = refl
equal_from Greater h = absurd (false≢true h)

same_booleans : (a b c : Bool) → is_eq (bool_cmp a b) ≡ true → is_eq (bool_cmp a c) ≡ is_eq (bool_cmp b c)
same_booleans true true c h = refl
same_booleans false false c h = refl
same_booleans true false c h = absurd (false≢true h)
same_booleans false true c h = absurd (false≢true h)

-- what equals one of two equal items equals the other
stand_congr : IsTotalOrder int_cmp → IsTotalOrder day_cmp → (a b : Item) → stand is_eq a b ≡ true → (c : Item) → stand is_eq a c ≡ stand is_eq b c
stand_congr n d (i.Boolean a) (i.Boolean b) h (i.Boolean c) = same_booleans a b c h
stand_congr n d (i.Boolean a) (i.Boolean b) h _ = refl
stand_congr n d (i.Number a) (i.Number b) h (i.Number c) = ap is_eq (n.congr a b c (equal_from _ h))
stand_congr n d (i.Number a) (i.Number b) h _ = refl
stand_congr n d (i.String a) (i.String b) h (i.String c) = ap is_eq (nat_list_cmp_total.congr a b c (equal_from _ h))
stand_congr n d (i.String a) (i.String b) h _ = refl
stand_congr n d (i.Date a) (i.Date b) h (i.Date c) = ap is_eq (d.congr a b c (equal_from _ h))
stand_congr n d (i.Date a) (i.Date b) h _ = refl
stand_congr n d _ _ h c = absurd (false≢true h)

-- what is equal to a known item is known
known_along : IsTotalOrder int_cmp → IsTotalOrder day_cmp → (kept : List Item) (x y : Item) → is_known kept x ≡ true → are_equal x y ≡ true →
    is_known kept y ≡ true
known_along n d [] x y h e = absurd (false≢true h)
known_along n d (k ∷ kept) x y h e = elim (bool_cases (are_equal k x)) as (λ _. is_known (k ∷ kept) y ≡ true) [
  | inl same ↦ ap (λ b. b || is_known kept y) (stand_congr n d (as_text k) (as_text x) same (as_text y) ∙ e)
  | inr apart ↦
      ap (λ b. are_equal k y || b) (known_along n d kept x y (sym (ap (λ b. b || is_known kept x) apart) ∙ h) e) ∙ or_true (are_equal k y)
]
  where
    or_true : (b : Bool) → (b || true) ≡ true
    or_true true = refl
    or_true false = refl

filter_in : (test : Item → Bool) (y : Item) (ys : List Item) → test y ≡ true → filter test (y ∷ ys) ≡ y ∷ filter test ys
filter_in test y ys e = ap (λ b. cond b (y ∷ filter test ys) (filter test ys)) e

filter_out : (test : Item → Bool) (y : Item) (ys : List Item) → test y ≡ false → filter test (y ∷ ys) ≡ filter test ys
filter_out test y ys e = ap (λ b. cond b (y ∷ filter test ys) (filter test ys)) e

-- what a known item equals is passed over anyway
known_filter : IsTotalOrder int_cmp → IsTotalOrder day_cmp → (kept : List Item) (x : Item) (items : List Item) → is_known kept x ≡ true
    → unknown kept (filter (λ y. not (are_equal x y)) items) ≡ unknown kept items
known_filter n d kept x [] h = refl
known_filter n d kept x (y ∷ items) h = elim (bool_cases (are_equal x y)) as
    (λ _. unknown kept (filter (λ z. not (are_equal x z)) (y ∷ items)) ≡ unknown kept (y ∷ items)) [
      | inl same ↦
          ap (unknown kept) (filter_out (λ z. not (are_equal x z)) y items (ap not same)) ∙ (known_filter n d kept x items h
          ∙ sym (filter_out (λ z. not (is_known kept z)) y items (ap not (known_along n d kept x y h same))))
      | inr apart ↦
          ap (unknown kept) (filter_in (λ z. not (are_equal x z)) y items (ap not apart))
          ∙ (ap (λ t. cond (not (is_known kept y)) (y ∷ t) t) (known_filter n d kept x items h))
    ]

known_push : (kept : List Item) (x y : Item) → is_known (kept ++ x ∷ []) y ≡ (is_known kept y || are_equal x y)
known_push kept x y = list_any-append (λ known. are_equal known y) kept (x ∷ []) ∙ ap (λ b. is_known kept y || b) (or_false (are_equal x y))
  where
    or_false : (b : Bool) → (b || false) ≡ b
    or_false true = refl
    or_false false = refl

or_known : (a b : Bool) → a ≡ true → (a || b) ≡ true
or_known a b e = ap (λ c. c || b) e

or_unknown : (a b c : Bool) → a ≡ false → b ≡ c → (a || b) ≡ c
or_unknown a b c e g = ap (λ z. z || b) e ∙ g

-- the items unknown beside one more
more_filter : (kept : List Item) (x : Item) (items : List Item) → unknown (kept ++ x ∷ []) items ≡ unknown kept (filter (λ y. not (are_equal x y)) items)
more_filter kept x [] = refl
more_filter kept x (y ∷ items) = elim (bool_cases (are_equal x y)) as
    (λ _. unknown (kept ++ x ∷ []) (y ∷ items) ≡ unknown kept (filter (λ z. not (are_equal x z)) (y ∷ items))) [
      | inl same ↦
          filter_out (λ z. not (is_known (kept ++ x ∷ []) z)) y items
          (ap not (known_push kept x y ∙ (ap (λ b. is_known kept y || b) same ∙ or_true (is_known kept y))))
          ∙ (more_filter kept x items ∙ sym (ap (unknown kept) (filter_out (λ z. not (are_equal x z)) y items (ap not same))))
      | inr apart ↦
          ap (λ b. cond (not b) (y ∷ unknown (kept ++ x ∷ []) items) (unknown (kept ++ x ∷ []) items))
          (known_push kept x y ∙ (ap (λ b. is_known kept y || b) apart ∙ or_false (is_known kept y)))
          ∙ (ap (λ t. cond (not (is_known kept y)) (y ∷ t) t) (more_filter kept x items) ∙
          sym (ap (unknown kept) (filter_in (λ z. not (are_equal x z)) y items (ap not apart))))
    ]
  where
    or_true : (b : Bool) → (b || true) ≡ true
    or_true true = refl
    or_true false = refl

    or_false : (b : Bool) → (b || false) ≡ b
    or_false true = refl
    or_false false = refl

pub distinct_known : IsTotalOrder int_cmp → IsTotalOrder day_cmp → (kept items : List Item) (k : ℕ) (x : Item) (whole : List Item) → k < length items →
    x ≡ get_or items k x
    → kept ++ unknown kept (distinct (drop k items)) ≡ whole → is_known kept x ≡ true → kept ++ unknown kept (distinct (drop (k + 1) items)) ≡ whole
distinct_known n d kept items k x whole l at h e =
    ap (λ t. kept ++ t) (sym (known_filter n d kept x (distinct (drop (k + 1) items)) e)
    ∙ sym (filter_out (λ z. not (is_known kept z)) x (filter (λ y. not (are_equal x y)) (distinct (drop (k + 1) items))) (ap not e)))
    ∙ (sym (ap (λ t. kept ++ unknown kept (distinct t)) (rest_at items k x (l, at))) ∙ h)

pub distinct_fresh : (kept grown items : List Item) (k : ℕ) (x : Item) (whole : List Item) → k < length items → x ≡ get_or items k x
    → kept ++ unknown kept (distinct (drop k items)) ≡ whole → is_known kept x ≡ false → grown ≡ kept ++ x ∷ [] → grown ++
    unknown grown (distinct (drop (k + 1) items)) ≡ whole
distinct_fresh kept grown items k x whole l at h e g =
    ap (λ t. t ++ unknown t (distinct (drop (k + 1) items))) g
    ∙ (append_assoc kept (x ∷ []) (unknown (kept ++ x ∷ []) (distinct (drop (k + 1) items)))
    ∙ (ap (λ t. kept ++ (x ∷ t)) (more_filter kept x (distinct (drop (k + 1) items)))
    ∙ (ap (λ t. kept ++ t) (sym (filter_in (λ z. not (is_known kept z)) x (filter (λ y. not (are_equal x y)) (distinct (drop (k + 1) items))) (ap not e)))
    ∙ (sym (ap (λ t. kept ++ unknown kept (distinct t)) (rest_at items k x (l, at))) ∙ h))))

pub distinct_end : (kept items : List Item) (k : ℕ) (whole : List Item) → length items ≤ k → kept ++ unknown kept (distinct (drop k items)) ≡ whole →
    kept ≡ whole
distinct_end kept items k whole l h = sym (append-nil kept) ∙ (sym (at_drop_all (λ t. kept ++ unknown kept (distinct t)) items k l) ∙ h)

nothing_known : (items : List Item) → unknown [] items ≡ items
nothing_known [] = refl
nothing_known (x ∷ items) = ap (λ t. x ∷ t) (nothing_known items)

pub distinct_start : (kept items : List Item) → kept ≡ [] → kept ++ unknown kept (distinct items) ≡ distinct items
distinct_start kept items e = ap (λ t. t ++ unknown t (distinct items)) e ∙ nothing_known (distinct items)

pub kept_known : (kept : List Item) (x : Item) → true ≡ is_known kept x → kept ≡ with_item kept x
kept_known kept x e = ap (λ (b : Bool). elim b [ true ↦ kept | false ↦ kept ++ x ∷ [] ]) e

pub kept_fresh : (kept : List Item) (x : Item) → false ≡ is_known kept x → kept ++ x ∷ [] ≡ with_item kept x
kept_fresh kept x e = ap (λ (b : Bool). elim b [ true ↦ kept | false ↦ kept ++ x ∷ [] ]) e

pub distinct_more : IsTotalOrder int_cmp → IsTotalOrder day_cmp → (kept grown items : List Item) (k : ℕ) (x : Item) (whole : List Item) → k < length items →
    x ≡ get_or items k x
    → kept ++ unknown kept (distinct (drop k items)) ≡ whole → grown ≡ with_item kept x → grown ++ unknown grown (distinct (drop (k + 1) items)) ≡ whole
distinct_more n d kept grown items k x whole l at h g =
    elim (bool_cases (is_known kept x)) as (λ _. grown ++ unknown grown (distinct (drop (k + 1) items)) ≡ whole) [
      | inl known ↦ ap (λ t. t ++ unknown t (distinct (drop (k + 1) items))) (g ∙ sym (kept_known kept x (sym known))) ∙
          distinct_known n d kept items k x whole l at h known
      | inr fresh ↦ distinct_fresh kept grown items k x whole l at h fresh (g ∙ sym (kept_fresh kept x (sym fresh)))
    ]

-- ---- what is known of the kept ones

then_equal : (o : Ordering) → ordering_then o Equal ≡ o
then_equal Less = refl
then_equal Equal = refl
then_equal Greater = refl

same_bool : (a b : Bool) → is_eq (item_cmp (i.Boolean a) (i.Boolean b)) ≡ is_eq (bool_cmp b a)
same_bool true true = refl
same_bool true false = refl
same_bool false true = refl
same_bool false false = refl

back : (p : Ordering) → is_eq (ordering_reverse p) ≡ is_eq p
back Less = refl
back Equal = refl
back Greater = refl

turned : {K : Type 0} {R : K → K → Ordering} → IsTotalOrder R → (x y : K) → is_eq (R x y) ≡ is_eq (R y x)
turned {K} {R} o x y = ap is_eq (o.antisymm x y) ∙ back (R y x)

-- equal ones are alike, but for nodes
alike_is : IsTotalOrder int_cmp → IsTotalOrder day_cmp → (x y : Item) → is_atomic x ≡ true → is_eq (item_cmp x y) ≡ are_equal y x
alike_is n d (i.Node a) y h = absurd (false≢true h)
alike_is n d (i.Boolean a) (i.Boolean b) h = same_bool a b
alike_is n d (i.Number a) (i.Number b) h = ap is_eq (then_equal (int_cmp a b)) ∙ turned n a b
alike_is n d (i.String a) (i.String b) h = ap is_eq (then_equal (slice_cmp nat_cmp a b)) ∙ turned nat_list_cmp_total a b
alike_is n d (i.String a) (i.Untyped b) h = ap is_eq (then_equal (slice_cmp nat_cmp a b)) ∙ turned nat_list_cmp_total a b
alike_is n d (i.Untyped a) (i.String b) h = ap is_eq (then_equal (slice_cmp nat_cmp a b)) ∙ turned nat_list_cmp_total a b
alike_is n d (i.Untyped a) (i.Untyped b) h = ap is_eq (then_equal (slice_cmp nat_cmp a b)) ∙ turned nat_list_cmp_total a b
alike_is n d (i.Date a) (i.Date b) h = turned d a b
alike_is n d (i.Boolean a) (i.Node b) h = refl
alike_is n d (i.Boolean a) (i.Number b) h = refl
alike_is n d (i.Boolean a) (i.String b) h = refl
alike_is n d (i.Boolean a) (i.Untyped b) h = refl
alike_is n d (i.Boolean a) (i.Date b) h = refl
alike_is n d (i.Number a) (i.Node b) h = refl
alike_is n d (i.Number a) (i.Boolean b) h = refl
alike_is n d (i.Number a) (i.String b) h = refl
alike_is n d (i.Number a) (i.Untyped b) h = refl
alike_is n d (i.Number a) (i.Date b) h = refl
alike_is n d (i.String a) (i.Node b) h = refl
alike_is n d (i.String a) (i.Boolean b) h = refl
alike_is n d (i.String a) (i.Number b) h = refl
alike_is n d (i.String a) (i.Date b) h = refl
alike_is n d (i.Untyped a) (i.Node b) h = refl
alike_is n d (i.Untyped a) (i.Boolean b) h = refl
alike_is n d (i.Untyped a) (i.Number b) h = refl
alike_is n d (i.Untyped a) (i.Date b) h = refl
alike_is n d (i.Date a) (i.Node b) h = refl
alike_is n d (i.Date a) (i.Boolean b) h = refl
alike_is n d (i.Date a) (i.Number b) h = refl
alike_is n d (i.Date a) (i.String b) h = refl
alike_is n d (i.Date a) (i.Untyped b) h = refl

pub known_start : (known kept : List Item) → known ≡ [] → kept ≡ [] → AreKnown known kept
known_start known kept e g = λ x h. ap (λ ys. has_alike ys x) e ∙ sym (ap (λ ys. is_known ys x) g)

pub fresh_by : (known kept : List Item) (item : Item) (b : Bool) → AreKnown known kept → is_atomic item ≡ true → b ≡ not (has_alike known item) →
    b ≡ not (is_known kept item)
fresh_by known kept item b a h e = e ∙ ap not (a item h)

pub known_more : IsTotalOrder int_cmp → IsTotalOrder day_cmp → (known grown kept : List Item) (item : Item) → AreKnown known kept
    → ((x : Item) → has_alike grown x ≡ (has_alike known x || is_eq (item_cmp x item))) → AreKnown grown (with_item kept item)
known_more n d known grown kept item a g = λ x h.
    g x ∙ (ap (λ b. b || is_eq (item_cmp x item)) (a x h) ∙ (ap (λ b. is_known kept x || b) (alike_is n d x item h) ∙ kept_so x (is_known kept item) refl))
  where
    or_same : (b c : Bool) → (c ≡ true → b ≡ true) → (b || c) ≡ b
    or_same true c f = refl
    or_same false true f = sym (f refl)
    or_same false false f = refl

    kept_so : (x : Item) (b : Bool) → is_known kept item ≡ b →
        (is_known kept x || are_equal item x) ≡ is_known (elim b [ true ↦ kept | false ↦ kept ++ item ∷ [] ]) x
    kept_so x true e = or_same (is_known kept x) (are_equal item x) (λ same. known_along n d kept item x e same)
    kept_so x false e = sym (known_push kept item x)

pub all_at : (p : Item → Bool) (xs : List Item) (k : ℕ) (x : Item) → k < length xs → x ≡ get_or xs k x → list_all p xs ≡ true → p x ≡ true
all_at p [] k x l e h = absurd (omega (arith, l))
all_at p (y ∷ xs) zero x l e h = ap p e ∙ (and_parts (p y) (list_all p xs) h).0
all_at p (y ∷ xs) (suc k) x l e h = all_at p xs k x (omega (arith, l)) e (and_parts (p y) (list_all p xs) h).1

atom_atomic : (nodes : List Node) (x : Item) → is_atomic (atom nodes x) ≡ true
atom_atomic nodes (i.Node n) = refl
atom_atomic nodes (i.Boolean b) = refl
atom_atomic nodes (i.Number z) = refl
atom_atomic nodes (i.String s) = refl
atom_atomic nodes (i.Untyped s) = refl
atom_atomic nodes (i.Date day) = refl

atoms_atomic : (nodes : List Node) (items : List Item) → list_all is_atomic (atomised nodes items) ≡ true
atoms_atomic nodes [] = refl
atoms_atomic nodes (x ∷ items) = ap (λ b. b && list_all is_atomic (atomised nodes items)) (atom_atomic nodes x) ∙ atoms_atomic nodes items

pub atomic_along : (nodes : List Node) (items xs ys : List Item) → ys ≡ xs → xs ≡ atomised nodes items → list_all is_atomic ys ≡ true
atomic_along nodes items xs ys e g = ap (list_all is_atomic) (e ∙ g) ∙ atoms_atomic nodes items
