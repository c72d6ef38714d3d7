-- Where picks stand: the occurrences of groups, numbered as they are read, are those in which the entries stand.
use Rattle.std.proofs.Common.{◌≡◌, ℕ, zero, suc, ◌+◌, ◌-◌, ◌<◌, ◌≤◌, Bool, true, false, ◌&&◌, ◌||◌, List, [], ◌∷◌, ◌++◌, length, map, fold, max, Option, Some}
use Rattle.std.proofs.Common.{None, ◌⊎◌, inl, inr, refl, sym, ap, ◌∙◌, subst, arith}
use Rattle.std.specs.Prelude.{◌==◌, nat_le, nat_lt, is_none}
use Rattle.std.specs.List.{list_all, list_any, range_with_len}
use Rattle.std.proofs.lemmas.Bool.{false≢true}
use Rattle.std.proofs.lemmas.Bool.Decides.{nat_tests}
use Rattle.inv_base.specs.Tree.{Forest, no_more, a_text, an_element, Attribute, Node, size, nodes_of, nodes_of_attributes, document_nodes}
use Rattle.term_table.specs.declared.groups.Group.{Group}
use Rattle.term_table.specs.declared.contexts.Slot.{Slot}
use Rattle.term_table.specs.declared.contexts.Context.{Context}
use Rattle.term_table.specs.Contexts.{same_slot, is_inside}
use Rattle.term_table.specs.Groups.{same_group}
use Rattle.term_table.proofs.GroupLemmas.{same_group_is, same_group_itself}
use Rattle.inv_terms.specs.declared.entries.Entry.{Entry}
use Rattle.inv_terms.specs.Listing.{is_counted, in_outer, in_inner, is_numbered, occurs}
use Rattle.inv_terms.proofs.PushLemmas.{same_slot_is}
use Rattle.bind_rows.specs.declared.rows.Step.{Step}
use Rattle.bind_rows.specs.Same.{same_or_none}
use Rattle.bind_meaning.specs.Trees.{spots, outer_count, inner_count, index_in, or_here}
use Rattle.binding_laws.specs.Plain.{groups_of}
use Rattle.binding_laws.proofs.TreeLemmas.{Each}
use Rattle.binding_laws.proofs.ContextLemmas.{no-groups, some-group}
use Rattle.binding_laws.proofs.ReachLemmas.{Among, Leads}
use Rattle.binding_laws.proofs.CountLemmas.{each-among}
use Rattle.binding_laws.proofs.PlaceLemmas.{upto, beyond, has_carrier}

-- ---- the groups on a path

carries-own : (g : Group) → same_or_none (Some g) (Some g) ≡ true
carries-own g = same_group_itself g

pub record HasFirst (g : Group) (gs : List Group) (path : List Step) : Type 0 where
  pub has : has_carrier g path ≡ true
  pub front : groups_of (upto g path) ≡ g ∷ []
  pub back : groups_of (beyond g path) ≡ gs

pub first-carrier : (g : Group) (gs : List Group) (path : List Step) → groups_of path ≡ g ∷ gs → HasFirst g gs path
first-carrier g gs [] h = absurd (let z : ◌≡◌ {A = List Group} [] (g ∷ gs) = h in cc)
first-carrier g gs (s ∷ path) h = elim (some-group s path g gs h) [
  | inl w ↦ let v = first-carrier g gs path w.1 in
      record {
        has = ap (λ o. elim (same_or_none o (Some g)) [ true ↦ true | false ↦ has_carrier g path ]) w.0 ∙ v.has;
        front = ap (λ o. elim o [
          | None ↦ groups_of (elim (same_or_none s.group (Some g)) [ true ↦ [] | false ↦ upto g path ])
          | Some group ↦ group ∷ groups_of (elim (same_or_none s.group (Some g)) [ true ↦ [] | false ↦ upto g path ])
        ]) w.0
            ∙ (ap (λ o. groups_of (elim (same_or_none o (Some g)) [ true ↦ [] | false ↦ upto g path ])) w.0 ∙ v.front);
        back = ap (λ o. groups_of (elim (same_or_none o (Some g)) [ true ↦ path | false ↦ beyond g path ])) w.0 ∙ v.back;
      }
  | inr w ↦ record {
    has = ap (λ o. elim (same_or_none o (Some g)) [ true ↦ true | false ↦ has_carrier g path ]) w.0 ∙
        ap (λ b. elim b [ true ↦ true | false ↦ has_carrier g path ]) (carries-own g);
    front = ap (λ o. elim o [
      | None ↦ groups_of (elim (same_or_none s.group (Some g)) [ true ↦ [] | false ↦ upto g path ])
      | Some group ↦ group ∷ groups_of (elim (same_or_none s.group (Some g)) [ true ↦ [] | false ↦ upto g path ])
    ]) w.0
        ∙ (ap (λ o. g ∷ groups_of (elim (same_or_none o (Some g)) [ true ↦ [] | false ↦ upto g path ])) w.0 ∙
        ap (λ b. g ∷ groups_of (elim b [ true ↦ [] | false ↦ upto g path ])) (carries-own g));
    back = ap (λ o. groups_of (elim (same_or_none o (Some g)) [ true ↦ path | false ↦ beyond g path ])) w.0 ∙
        (ap (λ b. groups_of (elim b [ true ↦ path | false ↦ beyond g path ])) (carries-own g) ∙ w.1);
  }
]

pub record HasSecond (g h : Group) (path : List Step) : Type 0 where
  pub has : has_carrier h path ≡ true
  pub front : groups_of (upto h path) ≡ g ∷ (h ∷ [])
  pub back : groups_of (beyond h path) ≡ []

pub second-carrier : (g h : Group) → same_group g h ≡ false → (path : List Step) → groups_of path ≡ g ∷ (h ∷ []) → HasSecond g h path
second-carrier g h differ [] e = absurd (let z : ◌≡◌ {A = List Group} [] (g ∷ (h ∷ [])) = e in cc)
second-carrier g h differ (s ∷ path) e = elim (some-group s path g (h ∷ []) e) [
  | inl w ↦ let v = second-carrier g h differ path w.1 in
      record {
        has = ap (λ o. elim (same_or_none o (Some h)) [ true ↦ true | false ↦ has_carrier h path ]) w.0 ∙ v.has;
        front = ap (λ o. elim o [
          | None ↦ groups_of (elim (same_or_none s.group (Some h)) [ true ↦ [] | false ↦ upto h path ])
          | Some group ↦ group ∷ groups_of (elim (same_or_none s.group (Some h)) [ true ↦ [] | false ↦ upto h path ])
        ]) w.0
            ∙ (ap (λ o. groups_of (elim (same_or_none o (Some h)) [ true ↦ [] | false ↦ upto h path ])) w.0 ∙ v.front);
        back = ap (λ o. groups_of (elim (same_or_none o (Some h)) [ true ↦ path | false ↦ beyond h path ])) w.0 ∙ v.back;
      }
  | inr w ↦ let v = first-carrier h [] path w.1 in
      record {
        has = ap (λ o. elim (same_or_none o (Some h)) [ true ↦ true | false ↦ has_carrier h path ]) w.0 ∙
            (ap (λ b. elim b [ true ↦ true | false ↦ has_carrier h path ]) differ ∙ v.has);
        front = ap (λ o. elim o [
          | None ↦ groups_of (elim (same_or_none s.group (Some h)) [ true ↦ [] | false ↦ upto h path ])
          | Some group ↦ group ∷ groups_of (elim (same_or_none s.group (Some h)) [ true ↦ [] | false ↦ upto h path ])
        ]) w.0
            ∙ (ap (λ o. g ∷ groups_of (elim (same_or_none o (Some h)) [ true ↦ [] | false ↦ upto h path ])) w.0 ∙
            (ap (λ b. g ∷ groups_of (elim b [ true ↦ [] | false ↦ upto h path ])) differ ∙ ap (λ l. g ∷ l) v.front));
        back = ap (λ o. groups_of (elim (same_or_none o (Some h)) [ true ↦ path | false ↦ beyond h path ])) w.0 ∙
            (ap (λ b. groups_of (elim b [ true ↦ path | false ↦ beyond h path ])) differ ∙ v.back);
      }
]

-- ---- the contexts to which a path leads

abbrev pub outer_of : Group → ℕ → Context
outer_of g i = record { outer = Some (record { group = g; index = i }); inner = None }

abbrev pub inner_of : Slot → Group → ℕ → Context
inner_of outer h k = record { outer = Some outer; inner = Some (record { group = h; index = k }) }

pub of-spots : (f : ℕ → Context) (k n : ℕ) (c : Context) → Among c (map f (range_with_len k n)) → (i : ℕ) × ((k ≤ i) × ((i < k + n) × (c ≡ f i)))
of-spots f k zero c a = absurd a
of-spots f k (suc n) c (inl e) = (k, (omega arith, (omega arith, sym e)))
of-spots f k (suc n) c (inr a) = let w = of-spots f (k + 1) n c a in let l = w.1.0 in let r = w.1.1.0 in (w.0, (omega (arith, l), (omega (arith, r), w.1.1.1)))

-- one of the occurrences, where there are some
pub of-some : (c d : Context) (f : ℕ → Context) (n : ℕ) → 1 ≤ n → Among d (or_here c (map f (range_with_len 1 n))) → (i : ℕ) ×
    ((1 ≤ i) × ((i < 1 + n) × (d ≡ f i)))
of-some c d f zero l a = absurd (omega (arith, l))
of-some c d f (suc n) l a = of-spots f 1 (suc n) d a

module _ (es : List Entry) where
  pub leads-nowhere : (path : List Step) (c d : Context) → groups_of path ≡ [] → Leads es path c d → c ≡ d
  leads-nowhere [] c d h l = l
  leads-nowhere (s ∷ path) c d h l =
      let k = no-groups s path h in
      elim (subst (λ o. Among l.0 (spots es c o)) k.0 l.1) [ inl e ↦ e ∙ leads-nowhere path l.0 d k.1 l.2 | inr a ↦ absurd a ]

  pub leads-to-one : (path : List Step) (c d : Context) (g : Group) → groups_of path ≡ g ∷ [] → Leads es path c d → Among d (spots es c (Some g))
  leads-to-one [] c d g h l = absurd (let z : ◌≡◌ {A = List Group} [] (g ∷ []) = h in cc)
  leads-to-one (s ∷ path) c d g h l = elim (some-group s path g [] h) [
    | inl w ↦ elim (subst (λ o. Among l.0 (spots es c o)) w.0 l.1) [
      | inl e ↦ subst (λ b. Among d (spots es b (Some g))) (sym e)
          (leads-to-one path l.0 d g w.1 l.2)
      | inr a ↦ absurd a
    ]
    | inr w ↦ subst (λ b. Among b (spots es c (Some g))) (leads-nowhere path l.0 d w.1 l.2) (subst (λ o. Among l.0 (spots es c o)) w.0 l.1)
  ]

  pub leads-to-two : (path : List Step) (c d : Context) (g h : Group) → groups_of path ≡ g ∷ (h ∷ []) → Leads es path c d → (b : Context) ×
      (Among b (spots es c (Some g)) × Among d (spots es b (Some h)))
  leads-to-two [] c d g h e l = absurd (let z : ◌≡◌ {A = List Group} [] (g ∷ (h ∷ [])) = e in cc)
  leads-to-two (s ∷ path) c d g h e l = elim (some-group s path g (h ∷ []) e) [
    | inl w ↦ let v = leads-to-two path l.0 d g h w.1 l.2 in
        elim (subst (λ o. Among l.0 (spots es c o)) w.0 l.1) [
          | inl x ↦ (v.0, (subst (λ b. Among v.0 (spots es b (Some g))) (sym x) v.1.0, v.1.1))
          | inr a ↦ absurd a
        ]
    | inr w ↦ (l.0, (subst (λ o. Among l.0 (spots es c o)) w.0 l.1, leads-to-one path l.0 d h w.1 l.2))
  ]

  -- ---- occurrences in an invoice

  all-among : (q : Entry → Bool) (x : Entry) (xs : List Entry) → list_all q xs ≡ true → Among x xs → q x ≡ true
  all-among q x [] h a = absurd a
  all-among q x (e ∷ xs) h (inl s) = ap q (sym s) ∙ (both (q e) (list_all q xs) h).0
    where
      both : (a b : Bool) → (a && b) ≡ true → (a ≡ true) × (b ≡ true)
      both true b k = (refl, k)
      both false b k = absurd (false≢true k)
  all-among q x (e ∷ xs) h (inr a) = all-among q x xs (both (q e) (list_all q xs) h).1 a
    where
      both : (a b : Bool) → (a && b) ≡ true → (a ≡ true) × (b ≡ true)
      both true b k = (refl, k)
      both false b k = absurd (false≢true k)

  split-and : (a b : Bool) → (a && b) ≡ true → (a ≡ true) × (b ≡ true)
  split-and true b k = (refl, k)
  split-and false b k = absurd (false≢true k)

  any-is : (q : Entry → Bool) (xs : List Entry) → list_any q xs ≡ true → (x : Entry) × (Among x xs × (q x ≡ true))
  any-is q [] h = absurd (false≢true h)
  any-is q (e ∷ xs) h = go (any-is q xs) (q e) refl h
    where
      go : (list_any q xs ≡ true → (x : Entry) × (Among x xs × (q x ≡ true))) → (b : Bool) → q e ≡ b → (b || list_any q xs) ≡ true → (x : Entry) ×
          (((e ≡ x) ⊎ Among x xs) × (q x ≡ true))
      go later true k z = (e, (inl refl, k))
      go later false k z = let w = later z in (w.0, (inr w.1.0, w.1.1))

  counted-from : (around : Slot → Context) (g : Group) (i : ℕ) → is_counted es around (Some (record { group = g; index = i })) ≡ true
      → (1 ≤ i) × ((i ≡ 1) ⊎ ((x : Entry) × (Among x es × (is_inside (around (record { group = g; index = i - 1 })) x.context ≡ true))))
  counted-from around g i h =
      let w = split-and (nat_le 1 i) _ h in
      let l = w.0 in
      ((let z : 1 ≤ i = grind (arith, nat_tests, l) in z), go (i == 1) refl w.1)
    where
      go : (b : Bool) → (i == 1) ≡ b → (b || occurs es (around (record { group = g; index = i - 1 }))) ≡ true
          → (i ≡ 1) ⊎ ((x : Entry) × (Among x es × (is_inside (around (record { group = g; index = i - 1 })) x.context ≡ true)))
      go true e k = inl (let z : i ≡ 1 = grind (arith, nat_tests, e) in z)
      go false e k = inr (any-is (λ (x : Entry). is_inside (around (record { group = g; index = i - 1 })) x.context) es k)

  numbered-entry : (x : Entry) → is_numbered es ≡ true → Among x es → (is_counted es in_outer x.context.outer ≡ true) ×
      (is_counted es (in_inner x.context.outer) x.context.inner ≡ true)
  numbered-entry x h a = split-and _ _ (all-among (λ (y : Entry). is_counted es in_outer y.context.outer &&
      is_counted es (in_inner y.context.outer) y.context.inner) x es h a)

  -- each number up to one that stands, stands
  outer-entry : is_numbered es ≡ true → (g : Group) (more j i : ℕ) → j + more ≡ i → 1 ≤ j → (x : Entry) → Among x es →
      x.context.outer ≡ Some (record { group = g; index = i })
      → (y : Entry) × (Among y es × (y.context.outer ≡ Some (record { group = g; index = j })))
  outer-entry h g zero j i e l x a o = (x, (a, o ∙ ap (λ k. Some (record { group = g; index = k })) (let z : i ≡ j = omega (arith, e) in z)))
  outer-entry h g (suc more) j i e l x a o =
      let w = counted-from in_outer g i (ap (is_counted es in_outer) (sym o) ∙ (numbered-entry x h a).0) in
      elim w.1 [
        | inl one ↦ absurd (omega (arith, e, l, one))
        | inr v ↦ outer-entry h g more j (i - 1) (let first = w.0 in omega (arith, e, first)) l v.0 v.1.0
            (sym (same_slot_is (Some (record { group = g; index = i - 1 })) v.0.context.outer (split-and _ _ v.1.1).0))
      ]

  inner-entry : is_numbered es ≡ true → (o : Slot) (g : Group) (more j i : ℕ) → j + more ≡ i → 1 ≤ j → (x : Entry) → Among x es → x.context.outer ≡ Some o →
      x.context.inner ≡ Some (record { group = g; index = i })
      → (y : Entry) × (Among y es × ((y.context.outer ≡ Some o) × (y.context.inner ≡ Some (record { group = g; index = j }))))
  inner-entry h o g zero j i e l x a p q = (x, (a, (p, q ∙ ap (λ k. Some (record { group = g; index = k })) (let z : i ≡ j = omega (arith, e) in z))))
  inner-entry h o g (suc more) j i e l x a p q =
      let w = counted-from (in_inner x.context.outer) g i (ap (is_counted es (in_inner x.context.outer)) (sym q) ∙ (numbered-entry x h a).1) in
      elim w.1 [
        | inl one ↦ absurd (omega (arith, e, l, one))
        | inr v ↦ let k = split-and _ _ v.1.1 in
            inner-entry h o g more j (i - 1) (let first = w.0 in omega (arith, e, first)) l v.0 v.1.0
            (same-outer x.context.outer v.0.context.outer p k.0) (sym (same_slot_is (Some (record { group = g; index = i - 1 })) v.0.context.inner k.1))
      ]
    where
      same-outer : (a b : Option Slot) → a ≡ Some o → (is_none a || same_slot a b) ≡ true → b ≡ Some o
      same-outer a b p k = sym (same_slot_is (Some o) b (ap (λ z. is_none z || same_slot z b) (sym p) ∙ k))

  -- ---- how many there are

  pub own-index : (g : Group) (i : ℕ) → index_in g (Some (record { group = g; index = i })) ≡ i
  own-index g i = ap (λ b. elim b [ true ↦ i | false ↦ 0 ]) (same_group_itself g)

  index-slot : (g : Group) (o : Option Slot) (n : ℕ) → index_in g o ≡ n → 1 ≤ n → o ≡ Some (record { group = g; index = n })
  index-slot g None n e l = absurd (omega (arith, e, l))
  index-slot g (Some s) n e l = go (same_group s.group g) refl e
    where
      go : (b : Bool) → same_group s.group g ≡ b → (elim b [ true ↦ s.index | false ↦ 0 ]) ≡ n → Some s ≡ Some (record { group = g; index = n })
      go true k z = λ i. Some (record { group = (same_group_is s.group g k) i; index = z i })
      go false k z = absurd (omega (arith, z, l))

  -- the greatest of some numbers is one of them, or the one that is there anyhow
  greatest : (f : Entry → ℕ) (xs : List Entry) (n : ℕ) → (fold max n (map f xs) ≡ n) ⊎ ((x : Entry) × (Among x xs × (f x ≡ fold max n (map f xs))))
  greatest f [] n = inl refl
  greatest f (x ∷ xs) n = elim (greatest f xs (max n (f x))) [
    | inl e ↦ elim (one n (f x)) [ inl k ↦ inl (e ∙ k) | inr k ↦ inr (x, (inl refl, sym (e ∙ k))) ]
    | inr w ↦ inr (w.0, (inr w.1.0, w.1.1))
  ]
    where
      one : (a b : ℕ) → (max a b ≡ a) ⊎ (max a b ≡ b)
      one a b = go (nat_lt a b) refl
        where
          go : (c : Bool) → nat_lt a b ≡ c → (max a b ≡ a) ⊎ (max a b ≡ b)
          go true e = let z : a < b = grind (arith, nat_tests, e) in inr (omega (arith, z))
          go false e = let z : b ≤ a = grind (arith, nat_tests, e) in inl (omega (arith, z))

  at-most : (f : Entry → ℕ) (xs : List Entry) (n : ℕ) → (n ≤ fold max n (map f xs)) × Each (λ x. f x ≤ fold max n (map f xs)) xs
  at-most f [] n = (omega arith, tt)
  at-most f (x ∷ xs) n = let w = at-most f xs (max n (f x)) in let l = w.0 in (omega (arith, l), (omega (arith, l), w.1))

  -- each number up to that of the last stands
  pub each-outer : is_numbered es ≡ true → (g : Group) (j : ℕ) → 1 ≤ j → j < 1 + outer_count es g → (y : Entry) ×
      (Among y es × (y.context.outer ≡ Some (record { group = g; index = j })))
  each-outer h g j l r = elim (greatest (λ (e : Entry). index_in g e.context.outer) es 0) [
    | inl e ↦ absurd (omega (arith, l, r, e))
    | inr w ↦ let e = w.1.1 in
        outer-entry h g (outer_count es g - j) j (outer_count es g) (omega (arith, r)) l w.0 w.1.0
        (index-slot g w.0.context.outer (outer_count es g) e (omega (arith, l, r)))
  ]

  abbrev index_there : Slot → Group → Entry → ℕ
  index_there o g e = elim (same_slot e.context.outer (Some o)) [ true ↦ index_in g e.context.inner | false ↦ 0 ]

  pub each-inner : is_numbered es ≡ true → (o : Slot) (g : Group) (j : ℕ) → 1 ≤ j → j < 1 + inner_count es o g
      → (y : Entry) × (Among y es × ((y.context.outer ≡ Some o) × (y.context.inner ≡ Some (record { group = g; index = j }))))
  each-inner h o g j l r = elim (greatest (index_there o g) es 0) [
    | inl e ↦ absurd (omega (arith, l, r, e))
    | inr w ↦ let v = there w.0 (same_slot w.0.context.outer (Some o)) refl w.1.1 in
        inner-entry h o g (inner_count es o g - j) j (inner_count es o g) (omega (arith, r)) l w.0 w.1.0 v.0 v.1
  ]
    where
      there : (x : Entry) (b : Bool) → same_slot x.context.outer (Some o) ≡ b → (elim b [ true ↦ index_in g x.context.inner | false ↦ 0 ]) ≡ inner_count es o g
          → (x.context.outer ≡ Some o) × (x.context.inner ≡ Some (record { group = g; index = inner_count es o g }))
      there x true e k = (same_slot_is x.context.outer (Some o) e, index-slot g x.context.inner (inner_count es o g) k (omega (arith, l, r)))
      there x false e k = absurd (omega (arith, l, r, k))

  -- an occurrence that stands is one of them
  pub outer-within : is_numbered es ≡ true → (g : Group) (i : ℕ) (x : Entry) → Among x es → x.context.outer ≡ Some (record { group = g; index = i }) → (1 ≤ i) ×
      (i < 1 + outer_count es g)
  outer-within h g i x a o =
      let l = (counted-from in_outer g i (ap (is_counted es in_outer) (sym o) ∙ (numbered-entry x h a).0)).0 in
      let m = each-among (λ (e : Entry). index_in g e.context.outer ≤ outer_count es g) x es (at-most (λ (e : Entry). index_in g e.context.outer) es 0).1 a in
      let e : index_in g x.context.outer ≡ i = ap (index_in g) o ∙ own-index g i in
      (l, omega (arith, m, e))

  pub same-slot-itself : (o : Slot) → same_slot (Some o) (Some o) ≡ true
  same-slot-itself o = pair (same_group_itself o.group) (let z : (o.index == o.index) ≡ true = grind (arith, nat_tests) in z)
    where
      pair : {a b : Bool} → a ≡ true → b ≡ true → (a && b) ≡ true
      pair e f = rw (e, f) refl

  pub inner-within : is_numbered es ≡ true → (o : Slot) (g : Group) (i : ℕ) (x : Entry) → Among x es → x.context.outer ≡ Some o →
      x.context.inner ≡ Some (record { group = g; index = i }) → (1 ≤ i) × (i < 1 + inner_count es o g)
  inner-within h o g i x a p q =
      let l = (counted-from (in_inner x.context.outer) g i (ap (is_counted es (in_inner x.context.outer)) (sym q) ∙ (numbered-entry x h a).1)).0 in
      let m = each-among (λ (e : Entry). index_there o g e ≤ inner_count es o g) x es (at-most (index_there o g) es 0).1 a in
      let e : index_there o g x ≡ i =
      ap (λ b. elim b [ true ↦ index_in g x.context.inner | false ↦ 0 ]) (ap (λ z. same_slot z (Some o)) p ∙ same-slot-itself o) ∙
      (ap (index_in g) q ∙ own-index g i) in
      (l, omega (arith, m, e))

-- ---- the numbers of nodes

attribute-numbers : (above : List ℕ) (n : ℕ) (attrs : List Attribute) →
    map (λ (node : Node). node.number) (nodes_of_attributes above n attrs) ≡ range_with_len n (length attrs)
attribute-numbers above n [] = refl
attribute-numbers above n (a ∷ attrs) = ap (λ l. n ∷ l) (attribute-numbers above (n + 1) attrs)

range-append : (k a b : ℕ) → range_with_len k a ++ range_with_len (k + a) b ≡ range_with_len k (a + b)
range-append k zero b = ap (λ j. range_with_len j b) (let z : k + 0 ≡ k = omega arith in z) ∙ ap (range_with_len k) (let z : b ≡ 0 + b = omega arith in z)
range-append k (suc a) b =
    ap (λ j. k ∷ (range_with_len (k + 1) a ++ range_with_len j b)) (let z : k + suc a ≡ k + 1 + a = omega arith in z)
    ∙ (ap (λ l. k ∷ l) (range-append (k + 1) a b) ∙ ap (range_with_len k) (let z : suc (a + b) ≡ suc a + b = omega arith in z))

map-append : {X Y : Type 0} (f : X → Y) (xs ys : List X) → map f (xs ++ ys) ≡ map f xs ++ map f ys
map-append f [] ys = refl
map-append f (x ∷ xs) ys = ap (λ l. f x ∷ l) (map-append f xs ys)

forest-numbers : (above : List ℕ) (n : ℕ) (f : Forest) → map (λ (node : Node). node.number) (nodes_of above n f) ≡ range_with_len n (size f)
forest-numbers above n no_more = refl
forest-numbers above n (a_text characters rest) = ap (λ l. n ∷ l) (forest-numbers above (n + 1) rest) ∙
    ap (range_with_len n) (let z : suc (size rest) ≡ 1 + size rest = omega arith in z)
forest-numbers above n (an_element name attrs inside rest) =
    let a : ℕ = length attrs in
    let b : ℕ = size inside in
    let c : ℕ = size rest in
    let first : List Node = nodes_of_attributes (n ∷ above) (n + 1) attrs in
    let second : List Node = nodes_of (n ∷ above) (n + (1 + a)) inside in
    let third : List Node = nodes_of above (n + (1 + (a + b))) rest in
    ap (λ l. n ∷ l)
    (map-append (λ (node : Node). node.number) first (second ++ third)
    ∙ ((λ i. attribute-numbers (n ∷ above) (n + 1) attrs i ++
    (map-append (λ (node : Node). node.number) second third ∙
    (λ j. forest-numbers (n ∷ above) (n + (1 + a)) inside j ++ forest-numbers above (n + (1 + (a + b))) rest j)) i)
    ∙ ((λ i. range_with_len (n + 1) a ++ (range_with_len (at-second i) b ++ range_with_len (at-third i) c)) ∙
    (ap (λ l. range_with_len (n + 1) a ++ l) (range-append (n + 1 + a) b c) ∙ range-append (n + 1) a (b + c)))))
    ∙ ap (range_with_len n) (let z : suc (a + (b + c)) ≡ 1 + (a + (b + c)) = omega arith in z)
  where
    at-second : n + (1 + length attrs) ≡ n + 1 + length attrs
    at-second = omega arith

    at-third : n + (1 + (length attrs + size inside)) ≡ n + 1 + length attrs + size inside
    at-third = omega arith

pub document-numbers : (f : Forest) → map (λ (node : Node). node.number) (document_nodes f) ≡ range_with_len 0 (1 + size f)
document-numbers f = ap (λ l. 0 ∷ l) (forest-numbers (0 ∷ []) 1 f) ∙ ap (range_with_len 0) (let z : suc (size f) ≡ 1 + size f = omega arith in z)
