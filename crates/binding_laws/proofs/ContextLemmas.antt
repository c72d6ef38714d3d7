-- The contexts in which a line is written, in their order.
use Rattle.std.proofs.Common.{◌≡◌, ℕ, zero, suc, ◌+◌, ◌<◌, Bool, true, false, List, [], ◌∷◌, ◌++◌, map, filter, flat_map, Option, Some, None, ◌⊎◌, inl, inr}
use Rattle.std.proofs.Common.{refl, sym, ap, ◌∙◌, subst, arith}
use Rattle.std.specs.Prelude.{if◌then◌else◌}
use Rattle.std.specs.List.{range_with_len}
use Rattle.term_table.specs.declared.groups.Group.{Group}
use Rattle.term_table.specs.declared.contexts.Slot.{Slot}
use Rattle.term_table.specs.declared.contexts.Context.{Context}
use Rattle.term_table.specs.Contexts.{root_context}
use Rattle.inv_terms.specs.declared.entries.Entry.{Entry}
use Rattle.bind_rows.specs.declared.rows.Step.{Step}
use Rattle.bind_rows.specs.Same.{same_step}
use Rattle.bind_table.specs.Lines.{Cell, Plan, nothing, a_line}
use Rattle.bind_table.proofs.SameLemmas.{step-sound}
use Rattle.bind_meaning.specs.Trees.{spots, spots_of, outer_spots, inner_spots, outer_count, inner_count, or_here, is_emitted, holds_further, attributes}
use Rattle.bind_meaning.specs.Trees.{element_text}
use Rattle.binding_laws.specs.Written.{Spot, emitted, at_end, spots_below}
use Rattle.binding_laws.specs.Plain.{groups_of}
use Rattle.binding_laws.proofs.TreeLemmas.{Each, each-weaker, each-append}

-- ---- a list in a rising order

-- The second context is a later occurrence of the same group, in the same occurrence of another or by itself.
pub record LaterOuter (a b : Context) : Type 0 where
  pub first : Slot
  pub second : Slot
  pub first_is : a.outer ≡ Some first
  pub second_is : b.outer ≡ Some second
  pub same : first.group ≡ second.group
  pub less : first.index < second.index

pub record LaterInner (a b : Context) : Type 0 where
  pub around : Slot
  pub first : Slot
  pub second : Slot
  pub around_first : a.outer ≡ Some around
  pub around_second : b.outer ≡ Some around
  pub first_is : a.inner ≡ Some first
  pub second_is : b.inner ≡ Some second
  pub same : first.group ≡ second.group
  pub less : first.index < second.index

abbrev pub Later : Context → Context → Type 0
Later a b = LaterOuter a b ⊎ LaterInner a b

abbrev pub Rising : {X : Type 0} → (X → X → Type 0) → List X → Type 0
Rising R [] = Unit {0}
Rising R (x ∷ xs) = Each (R x) xs × Rising R xs

pub each-filter : {X : Type 0} (P : X → Type 0) (p : X → Bool) (xs : List X) → Each P xs → Each P (filter p xs)
each-filter P p [] h = tt
each-filter P p (x ∷ xs) h = go (p x) (each-filter P p xs h.1)
  where
    go : (b : Bool) → Each P (filter p xs) → Each P (if b then x ∷ filter p xs else filter p xs)
    go true k = (h.0, k)
    go false k = k

pub rising-filter : {X : Type 0} (R : X → X → Type 0) (p : X → Bool) (xs : List X) → Rising R xs → Rising R (filter p xs)
rising-filter R p [] h = tt
rising-filter R p (x ∷ xs) h = go (p x) (rising-filter R p xs h.1)
  where
    go : (b : Bool) → Rising R (filter p xs) → Rising R (if b then x ∷ filter p xs else filter p xs)
    go true k = (each-filter (R x) p xs h.0, k)
    go false k = k

pub rising-append : {X : Type 0} (R : X → X → Type 0) (xs ys : List X) → Rising R xs → Rising R ys → Each (λ x. Each (R x) ys) xs → Rising R (xs ++ ys)
rising-append R [] ys h k c = k
rising-append R (x ∷ xs) ys h k c = (each-append (R x) xs ys h.0 c.0, rising-append R xs ys h.1 k c.1)

pub each-flat_map : {X Y : Type 0} (P : Y → Type 0) (f : X → List Y) (xs : List X) → Each (λ x. Each P (f x)) xs → Each P (flat_map f xs)
each-flat_map P f [] h = tt
each-flat_map P f (x ∷ xs) h = each-append P (f x) (flat_map f xs) h.0 (each-flat_map P f xs h.1)

pub all-each : {X : Type 0} (P : X → Type 0) (xs : List X) → ((x : X) → P x) → Each P xs
all-each P [] h = tt
all-each P (x ∷ xs) h = (h x, all-each P xs h)

pub each-both : {X : Type 0} (P Q : X → Type 0) (xs : List X) → Each P xs → Each Q xs → Each (λ x. P x × Q x) xs
each-both P Q [] h k = tt
each-both P Q (x ∷ xs) h k = ((h.0, k.0), each-both P Q xs h.1 k.1)

-- the elements of one are before those of the others, where their origins are
pub rising-flat_map : {X Y : Type 0} (R : X → X → Type 0) (S : Y → Y → Type 0) (from : X → Y → Type 0) (f : X → List Y) →
    ((a b : X) (x y : Y) → R a b → from a x → from b y → S x y)
    → (xs : List X) → Rising R xs → Each (λ a. Rising S (f a) × Each (from a) (f a)) xs → Rising S (flat_map f xs)
rising-flat_map R S from f later [] h k = tt
rising-flat_map R S from f later (a ∷ xs) h k =
    rising-append S (f a) (flat_map f xs) k.0.0 (rising-flat_map R S from f later xs h.1 k.1)
    (each-weaker (from a) (λ x. Each (S x) (flat_map f xs)) (f a) (λ x is. each-flat_map (S x) f xs
    (each-weaker (λ b. R a b × Each (from b) (f b)) (λ b. Each (S x) (f b)) xs (λ b w. each-weaker (from b) (S x) (f b) (λ y k. later a b x y w.0 is k) w.1)
    (each-both (R a) (λ b. Each (from b) (f b)) xs h.0 (each-weaker (λ b. Rising S (f b) × Each (from b) (f b)) (λ b. Each (from b) (f b)) xs
    (λ b w. w.1) k.1)))) k.0.1)

-- ---- occurrences of a group, in their order

outer-behind : (group : Group) (j k n : ℕ) → j < k → Each (Later (record { outer = Some (record { group = group; index = j }); inner = None }))
    (map (λ i. record { outer = Some (record { group = group; index = i }); inner = None }) (range_with_len k n))
outer-behind group j k zero l = tt
outer-behind group j k (suc n) l = (
  inl (record {
    first = record { group = group; index = j };
    second = record { group = group; index = k };
    first_is = refl;
    second_is = refl;
    same = refl;
    less = l;
  }),
  outer-behind group j (k + 1) n (omega (arith, l)),
)

outer-rising : (group : Group) (k n : ℕ) → Rising Later (map (λ i. record { outer = Some (record { group = group; index = i }); inner = None })
    (range_with_len k n))
outer-rising group k zero = tt
outer-rising group k (suc n) = (outer-behind group k (k + 1) n (omega arith), outer-rising group (k + 1) n)

inner-behind : (outer : Slot) (group : Group) (j k n : ℕ) → j < k →
    Each (Later (record { outer = Some outer; inner = Some (record { group = group; index = j }) }))
    (map (λ i. record { outer = Some outer; inner = Some (record { group = group; index = i }) }) (range_with_len k n))
inner-behind outer group j k zero l = tt
inner-behind outer group j k (suc n) l = (
  inr (record {
    around = outer;
    first = record { group = group; index = j };
    second = record { group = group; index = k };
    around_first = refl;
    around_second =
        refl;
    first_is = refl;
    second_is = refl;
    same = refl;
    less = l;
  }),
  inner-behind outer group j (k + 1) n (omega (arith, l)),
)

inner-rising : (outer : Slot) (group : Group) (k n : ℕ) →
    Rising Later (map (λ i. record { outer = Some outer; inner = Some (record { group = group; index = i }) }) (range_with_len k n))
inner-rising outer group k zero = tt
inner-rising outer group k (suc n) = (inner-behind outer group k (k + 1) n (omega arith), inner-rising outer group (k + 1) n)

-- ---- the elements that are written behind steps

abbrev LaterSpot : Spot → Spot → Type 0
LaterSpot a b = Later a.context b.context

abbrev IsIn : Context → Spot → Type 0
IsIn c spot = spot.context ≡ c

abbrev IsUnder : Slot → Spot → Type 0
IsUnder outer spot = spot.context.outer ≡ Some outer

abbrev IsOuter : Spot → Type 0
IsOuter spot = spot.context.inner ≡ None

pub no-groups : (s : Step) (path : List Step) → groups_of (s ∷ path) ≡ [] → (s.group ≡ None) × (groups_of path ≡ [])
no-groups s path h = go s.group refl h
  where
    go : (o : Option Group) → s.group ≡ o → ◌≡◌ {A = List Group} (elim o [ None ↦ groups_of path | Some group ↦ group ∷ groups_of path ]) [] → (s.group ≡ None)
        × (groups_of path ≡ [])
    go None e k = (e, k)
    go (Some g) e k = absurd (let z : g ∷ groups_of path ≡ [] = k in cc)

pub some-group : (s : Step) (path : List Step) (g : Group) (gs : List Group) → groups_of (s ∷ path) ≡ g ∷ gs
    → ((s.group ≡ None) × (groups_of path ≡ g ∷ gs)) ⊎ ((s.group ≡ Some g) × (groups_of path ≡ gs))
some-group s path g gs h = go s.group refl h
  where
    go : (o : Option Group) → s.group ≡ o → (elim o [ None ↦ groups_of path | Some group ↦ group ∷ groups_of path ]) ≡ g ∷ gs
        → ((s.group ≡ None) × (groups_of path ≡ g ∷ gs)) ⊎ ((s.group ≡ Some g) × (groups_of path ≡ gs))
    go None e k = inl (e, k)
    go (Some h) e k = inr (let z : h ∷ groups_of path ≡ g ∷ gs = k in let same : h ≡ g = cc in let rest : groups_of path ≡ gs = cc in (e ∙ ap Some same, rest))

module _ (es : List Entry) where
  abbrev spots-here : Step → List Cell → Plan → List Step → Bool → Context → Context → List Spot
  spots-here t cells inside path held c d = at_end path (record { context = d; attributes = attributes es t cells d; text = element_text es cells d })
      (spots_below es inside path (holds_further es cells inside held d) d)

  -- a step with no group
  alone-each : (P : Spot → Type 0) (p : Context → Bool) (f : Context → List Spot) (c : Context) → Each P (f c) → Each P (flat_map f (filter p (c ∷ [])))
  alone-each P p f c h = go (p c)
    where
      go : (b : Bool) → Each P (flat_map f (if b then c ∷ [] else []))
      go true = each-append P (f c) [] h tt
      go false = tt

  alone-rising : (p : Context → Bool) (f : Context → List Spot) (c : Context) → Rising LaterSpot (f c) → Rising LaterSpot (flat_map f (filter p (c ∷ [])))
  alone-rising p f c h = go (p c)
    where
      go : (b : Bool) → Rising LaterSpot (flat_map f (if b then c ∷ [] else []))
      go true = rising-append LaterSpot (f c) [] h tt (all-each (λ x. Each (LaterSpot x) []) (f c) (λ x. tt))
      go false = tt

  -- what is written in one context alone
  pub in-one : (plan : Plan) (path : List Step) (held : Bool) (c : Context) → groups_of path ≡ [] → Each (IsIn c) (spots_below es plan path held c) ×
      Rising LaterSpot (spots_below es plan path held c)
  in-one nothing path held c h = (tt, tt)
  in-one (a_line t cells inside rest) [] held c h = (tt, tt)
  in-one (a_line t cells inside rest) (s ∷ path) held c h = go (λ q. in-one inside q (holds_further es cells inside held c) c) (in-one rest (s ∷ path) held c h)
      (same_step s t) refl
    where
      parts : (s.group ≡ None) × (groups_of path ≡ [])
      parts = no-groups s path h

      own : ((q : List Step) → groups_of q ≡ [] → Each (IsIn c) (spots_below es inside q (holds_further es cells inside held c) c) ×
          Rising LaterSpot (spots_below es inside q (holds_further es cells inside held c) c))
          → (q : List Step) → groups_of q ≡ [] → Each (IsIn c) (spots-here t cells inside q held c c) × Rising LaterSpot (spots-here t cells inside q held c c)
      own inner [] k = ((refl, tt), (tt, tt))
      own inner (u ∷ us) k = inner (u ∷ us) k

      go : ((q : List Step) → groups_of q ≡ [] → Each (IsIn c) (spots_below es inside q (holds_further es cells inside held c) c) ×
          Rising LaterSpot (spots_below es inside q (holds_further es cells inside held c) c))
          → Each (IsIn c) (spots_below es rest (s ∷ path) held c) × Rising LaterSpot (spots_below es rest (s ∷ path) held c)
          → (b : Bool) → same_step s t ≡ b
          → Each (IsIn c) (elim b [
            | true ↦ flat_map (spots-here t cells inside path held c) (emitted es t cells inside held c)
            | false ↦ spots_below es rest (s ∷ path) held c
          ])
          × Rising LaterSpot (elim b [
            | true ↦ flat_map (spots-here t cells inside path held c) (emitted es t cells inside held c)
            | false ↦ spots_below es rest (s ∷ path) held c
          ])
      go inner later true e =
          let none : t.group ≡ None = ap (λ (x : Step). x.group) (sym (step-sound s t e)) ∙ parts.0 in
          let both = own inner path parts.1 in (
            subst (λ o. Each (IsIn c) (flat_map (spots-here t cells inside path held c) (filter (is_emitted es t cells inside held) (spots es c o)))) (sym none)
                (alone-each (IsIn c) (is_emitted es t cells inside held) (spots-here t cells inside path held c) c both.0),
            subst (λ o. Rising LaterSpot (flat_map (spots-here t cells inside path held c) (filter (is_emitted es t cells inside held) (spots es c o))))
                (sym none)
                (alone-rising (is_emitted es t cells inside held) (spots-here t cells inside path held c) c both.1),
          )
      go inner later false e = later

  own-one : (t : Step) (cells : List Cell) (inside : Plan) (path : List Step) (held : Bool) (c d : Context) → groups_of path ≡ []
      → Rising LaterSpot (spots-here t cells inside path held c d) × Each (IsIn d) (spots-here t cells inside path held c d)
  own-one t cells inside [] held c d h = ((tt, tt), (refl, tt))
  own-one t cells inside (u ∷ us) held c d h = let w = in-one inside (u ∷ us) (holds_further es cells inside held d) d h in (w.1, w.0)

  later-in : (a b : Context) (x y : Spot) → Later a b → IsIn a x → IsIn b y → LaterSpot x y
  later-in a b x y l p q = subst (λ z. Later z y.context) (sym p) (subst (λ z. Later a z) (sym q) l)

  -- or-here is rising where the list is
  or-rising : (c : Context) (ds : List Context) → Rising Later ds → Rising Later (or_here c ds)
  or-rising c [] h = (tt, tt)
  or-rising c (d ∷ ds) h = h

  or-each : (P : Context → Type 0) (c : Context) (ds : List Context) → P c → Each P ds → Each P (or_here c ds)
  or-each P c [] h k = (h, tt)
  or-each P c (d ∷ ds) h k = k

  group-rising : (c : Context) (g : Group) → Rising Later (spots es c (Some g))
  group-rising c g = or-rising c (spots_of es c g) (go c.outer)
    where
      go : (o : Option Slot) → Rising Later (elim o [ None ↦ outer_spots g (outer_count es g) | Some outer ↦ inner_spots outer g (inner_count es outer g) ])
      go None = outer-rising g 1 (outer_count es g)
      go (Some outer) = inner-rising outer g 1 (inner_count es outer g)

  -- what is written in the occurrences of one group
  pub in-group : (plan : Plan) (path : List Step) (held : Bool) (c : Context) (g : Group) → groups_of path ≡ g ∷ [] →
      Rising LaterSpot (spots_below es plan path held c)
  in-group nothing path held c g h = tt
  in-group (a_line t cells inside rest) [] held c g h = tt
  in-group (a_line t cells inside rest) (s ∷ path) held c g h =
      go (λ q. in-group inside q (holds_further es cells inside held c) c g) (in-group rest (s ∷ path) held c g h) (same_step s t) refl
    where
      own : ((q : List Step) → groups_of q ≡ g ∷ [] → Rising LaterSpot (spots_below es inside q (holds_further es cells inside held c) c))
          → (q : List Step) → groups_of q ≡ g ∷ [] → Rising LaterSpot (spots-here t cells inside q held c c)
      own inner [] k = absurd (let z : ◌≡◌ {A = List Group} [] (g ∷ []) = k in cc)
      own inner (u ∷ us) k = inner (u ∷ us) k

      each : groups_of path ≡ [] → Rising LaterSpot
          (flat_map (spots-here t cells inside path held c) (filter (is_emitted es t cells inside held) (spots es c (Some g))))
      each k =
          rising-flat_map Later LaterSpot IsIn (spots-here t cells inside path held c) later-in
          (filter (is_emitted es t cells inside held) (spots es c (Some g)))
          (rising-filter Later (is_emitted es t cells inside held) (spots es c (Some g)) (group-rising c g))
          (all-each (λ d. Rising LaterSpot (spots-here t cells inside path held c d) × Each (IsIn d) (spots-here t cells inside path held c d))
          (filter (is_emitted es t cells inside held) (spots es c (Some g)))
          (λ d. own-one t cells inside path held c d k))

      go : ((q : List Step) → groups_of q ≡ g ∷ [] → Rising LaterSpot (spots_below es inside q (holds_further es cells inside held c) c)) →
          Rising LaterSpot (spots_below es rest (s ∷ path) held c)
          → (b : Bool) → same_step s t ≡ b → Rising LaterSpot
          (elim b [
            | true ↦ flat_map (spots-here t cells inside path held c) (emitted es t cells inside held c)
            | false ↦ spots_below es rest (s ∷ path) held c
          ])
      go inner later true e =
          let same : s.group ≡ t.group = ap (λ (x : Step). x.group) (step-sound s t e) in
          elim (some-group s path g [] h) [
            | inl w ↦ subst (λ o. Rising LaterSpot
                (flat_map (spots-here t cells inside path held c) (filter (is_emitted es t cells inside held) (spots es c o)))) (sym w.0 ∙ same)
                (alone-rising (is_emitted es t cells inside held) (spots-here t cells inside path held c) c (own inner path w.1))
            | inr w ↦ subst (λ o. Rising LaterSpot
                (flat_map (spots-here t cells inside path held c) (filter (is_emitted es t cells inside held) (spots es c o)))) (sym w.0 ∙ same) (each w.1)
          ]
      go inner later false e = later

  -- what holds of all occurrences of one group, holds of what is written in them
  pub in-each : (P : Context → Type 0) (plan : Plan) (path : List Step) (held : Bool) (c : Context) (g : Group) → groups_of path ≡ g ∷ [] →
      Each P (spots es c (Some g))
      → Each (λ (x : Spot). P x.context) (spots_below es plan path held c)
  in-each P nothing path held c g h all = tt
  in-each P (a_line t cells inside rest) [] held c g h all = tt
  in-each P (a_line t cells inside rest) (s ∷ path) held c g h all =
      go (λ q k. in-each P inside q (holds_further es cells inside held c) c g k all) (in-each P rest (s ∷ path) held c g h all) (same_step s t) refl
    where
      own : ((q : List Step) → groups_of q ≡ g ∷ [] → Each (λ (x : Spot). P x.context) (spots_below es inside q (holds_further es cells inside held c) c))
          → (q : List Step) → groups_of q ≡ g ∷ [] → Each (λ (x : Spot). P x.context) (spots-here t cells inside q held c c)
      own inner [] k = absurd (let z : ◌≡◌ {A = List Group} [] (g ∷ []) = k in cc)
      own inner (u ∷ us) k = inner (u ∷ us) k

      each : groups_of path ≡ [] → Each (λ (x : Spot). P x.context)
          (flat_map (spots-here t cells inside path held c) (filter (is_emitted es t cells inside held) (spots es c (Some g))))
      each k =
          each-flat_map (λ (x : Spot). P x.context) (spots-here t cells inside path held c) (filter (is_emitted es t cells inside held) (spots es c (Some g)))
          (each-weaker P (λ d. Each (λ (x : Spot). P x.context) (spots-here t cells inside path held c d))
          (filter (is_emitted es t cells inside held) (spots es c (Some g)))
          (λ d p. each-weaker (IsIn d) (λ (x : Spot). P x.context) (spots-here t cells inside path held c d) (λ x e. subst P (sym e) p)
          (own-one t cells inside path held c d k).1)
          (each-filter P (is_emitted es t cells inside held) (spots es c (Some g)) all))

      go : ((q : List Step) → groups_of q ≡ g ∷ [] → Each (λ (x : Spot). P x.context) (spots_below es inside q (holds_further es cells inside held c) c))
          → Each (λ (x : Spot). P x.context) (spots_below es rest (s ∷ path) held c)
          → (b : Bool) → same_step s t ≡ b
          → Each (λ (x : Spot). P x.context) (elim b [
            | true ↦ flat_map (spots-here t cells inside path held c) (emitted es t cells inside held c)
            | false ↦ spots_below es rest (s ∷ path) held c
          ])
      go inner later true e =
          let same : s.group ≡ t.group = ap (λ (x : Step). x.group) (step-sound s t e) in
          elim (some-group s path g [] h) [
            | inl w ↦ subst (λ o. Each (λ (x : Spot). P x.context)
                (flat_map (spots-here t cells inside path held c) (filter (is_emitted es t cells inside held) (spots es c o)))) (sym w.0 ∙ same)
                (alone-each (λ (x : Spot). P x.context) (is_emitted es t cells inside held) (spots-here t cells inside path held c) c (own inner path w.1))
            | inr w ↦ subst (λ o. Each (λ (x : Spot). P x.context)
                (flat_map (spots-here t cells inside path held c) (filter (is_emitted es t cells inside held) (spots es c o)))) (sym w.0 ∙ same) (each w.1)
          ]
      go inner later false e = later

  inner-under : (o : Slot) (g : Group) (k n : ℕ) → Each (λ (d : Context). d.outer ≡ Some o)
      (map (λ i. record { outer = Some o; inner = Some (record { group = g; index = i }) }) (range_with_len k n))
  inner-under o g k zero = tt
  inner-under o g k (suc n) = (refl, inner-under o g (k + 1) n)

  under-all : (c : Context) (o : Slot) (g : Group) → c.outer ≡ Some o → Each (λ (d : Context). d.outer ≡ Some o) (spots es c (Some g))
  under-all c o g e =
      or-each (λ (d : Context). d.outer ≡ Some o) c (spots_of es c g) e
      (subst (λ x. Each (λ (d : Context). d.outer ≡ Some o)
      (elim x [ None ↦ outer_spots g (outer_count es g) | Some outer ↦ inner_spots outer g (inner_count es outer g) ])) (sym e)
      (inner-under o g 1 (inner_count es o g)))

  outer-alone : (g : Group) (k n : ℕ) → Each (λ (d : Context). d.inner ≡ None)
      (map (λ i. record { outer = Some (record { group = g; index = i }); inner = None }) (range_with_len k n))
  outer-alone g k zero = tt
  outer-alone g k (suc n) = (refl, outer-alone g (k + 1) n)

  -- in occurrences of a group of the invoice nothing further is written in an inner one
  pub in-outer : (plan : Plan) (path : List Step) (held : Bool) (g : Group) → groups_of path ≡ g ∷ [] →
      Each IsOuter (spots_below es plan path held root_context)
  in-outer plan path held g h =
      in-each (λ (d : Context). d.inner ≡ None) plan path held root_context g h
      (or-each (λ (d : Context). d.inner ≡ None) root_context (outer_spots g (outer_count es g)) refl (outer-alone g 1 (outer_count es g)))

  -- ---- an inner group in each occurrence of an outer one

  abbrev IsOf : Context → Spot → Type 0
  IsOf d x = (o : Slot) → d.outer ≡ Some o → x.context.outer ≡ Some o

  pub later-of : (a b : Context) (x y : Spot) → LaterOuter a b → IsOf a x → IsOf b y → LaterSpot x y
  later-of a b x y l p q = inl (record {
    first = l.first;
    second = l.second;
    first_is = p l.first l.first_is;
    second_is = q l.second l.second_is;
    same = l.same;
    less = l.less;
  })

  outers-behind : (g : Group) (j k n : ℕ) → j < k → Each (LaterOuter (record { outer = Some (record { group = g; index = j }); inner = None }))
      (map (λ i. record { outer = Some (record { group = g; index = i }); inner = None }) (range_with_len k n))
  outers-behind g j k zero l = tt
  outers-behind g j k (suc n) l = (
    record { first = record { group = g; index = j }; second = record { group = g; index = k }; first_is = refl; second_is = refl; same = refl; less = l },
    outers-behind g j (k + 1) n (omega (arith, l)),
  )

  outers-rising : (g : Group) (k n : ℕ) → Rising LaterOuter
      (map (λ i. record { outer = Some (record { group = g; index = i }); inner = None }) (range_with_len k n))
  outers-rising g k zero = tt
  outers-rising g k (suc n) = (outers-behind g k (k + 1) n (omega arith), outers-rising g (k + 1) n)

  or-outers : (ds : List Context) → Rising LaterOuter ds → Rising LaterOuter (or_here root_context ds)
  or-outers [] h = (tt, tt)
  or-outers (d ∷ ds) h = h

  of-one : (inside : Plan) (u : Step) (us : List Step) (held : Bool) (d : Context) (g : Group) → groups_of (u ∷ us) ≡ g ∷ [] →
      Each (IsOf d) (spots_below es inside (u ∷ us) held d)
  of-one inside u us held d g h = go d.outer refl
    where
      go : (x : Option Slot) → d.outer ≡ x → Each (λ (y : Spot). (o : Slot) → d.outer ≡ Some o → y.context.outer ≡ Some o)
          (spots_below es inside (u ∷ us) held d)
      go None e = all-each (λ (y : Spot). (o : Slot) → d.outer ≡ Some o → y.context.outer ≡ Some o) (spots_below es inside (u ∷ us) held d)
          (λ y o k. absurd (let z : ◌≡◌ {A = Option Slot} None (Some o) = sym e ∙ k in cc))
      go (Some q) e =
          each-weaker (λ (y : Spot). y.context.outer ≡ Some q) (λ (y : Spot). (o : Slot) → d.outer ≡ Some o → y.context.outer ≡ Some o)
          (spots_below es inside (u ∷ us) held d)
          (λ y is o k. is ∙ (sym e ∙ k)) (in-each (λ (z : Context). z.outer ≡ Some q) inside (u ∷ us) held d g h (under-all d q g e))

  pub in-groups : (plan : Plan) (path : List Step) (held : Bool) (g i : Group) → groups_of path ≡ g ∷ (i ∷ []) →
      Rising LaterSpot (spots_below es plan path held root_context)
  in-groups nothing path held g i h = tt
  in-groups (a_line t cells inside rest) [] held g i h = tt
  in-groups (a_line t cells inside rest) (s ∷ path) held g i h = go (λ q. in-groups inside q (holds_further es cells inside held root_context) g i)
      (in-groups rest (s ∷ path) held g i h) (same_step s t) refl
    where
      own : ((q : List Step) → groups_of q ≡ g ∷ (i ∷ []) →
          Rising LaterSpot (spots_below es inside q (holds_further es cells inside held root_context) root_context))
          → (q : List Step) → groups_of q ≡ g ∷ (i ∷ []) → Rising LaterSpot (spots-here t cells inside q held root_context root_context)
      own inner [] k = absurd (let z : ◌≡◌ {A = List Group} [] (g ∷ (i ∷ [])) = k in cc)
      own inner (u ∷ us) k = inner (u ∷ us) k

      one : (path : List Step) (d : Context) → groups_of path ≡ i ∷ []
          → Rising LaterSpot (spots-here t cells inside path held root_context d) × Each (IsOf d) (spots-here t cells inside path held root_context d)
      one [] d k = absurd (let z : ◌≡◌ {A = List Group} [] (i ∷ []) = k in cc)
      one (u ∷ us) d k = (
        in-group inside (u ∷ us) (holds_further es cells inside held d) d i k,
        of-one inside u us (holds_further es cells inside held d) d i k,
      )

      each : groups_of path ≡ i ∷ [] → Rising LaterSpot
          (flat_map (spots-here t cells inside path held root_context) (filter (is_emitted es t cells inside held) (spots es root_context (Some g))))
      each k =
          rising-flat_map LaterOuter LaterSpot IsOf (spots-here t cells inside path held root_context) later-of
          (filter (is_emitted es t cells inside held) (spots es root_context (Some g)))
          (rising-filter LaterOuter (is_emitted es t cells inside held) (spots es root_context (Some g))
          (or-outers (outer_spots g (outer_count es g)) (outers-rising g 1 (outer_count es g))))
          (all-each (λ d. Rising LaterSpot (spots-here t cells inside path held root_context d) ×
          Each (IsOf d) (spots-here t cells inside path held root_context d))
          (filter (is_emitted es t cells inside held) (spots es root_context (Some g))) (λ d. one path d k))

      go : ((q : List Step) → groups_of q ≡ g ∷ (i ∷ []) →
          Rising LaterSpot (spots_below es inside q (holds_further es cells inside held root_context) root_context))
          → Rising LaterSpot (spots_below es rest (s ∷ path) held root_context)
          → (b : Bool) → same_step s t ≡ b
          → Rising LaterSpot (elim b [
            | true ↦ flat_map (spots-here t cells inside path held root_context) (emitted es t cells inside held root_context)
            | false ↦ spots_below es rest (s ∷ path) held root_context
          ])
      go inner later true e =
          let same : s.group ≡ t.group = ap (λ (x : Step). x.group) (step-sound s t e) in
          elim (some-group s path g (i ∷ []) h) [
            | inl w ↦ subst (λ o. Rising LaterSpot (flat_map (spots-here t cells inside path held root_context)
                (filter (is_emitted es t cells inside held) (spots es root_context o)))) (sym w.0 ∙ same)
                (alone-rising (is_emitted es t cells inside held) (spots-here t cells inside path held root_context) root_context (own inner path w.1))
            | inr w ↦ subst (λ o. Rising LaterSpot (flat_map (spots-here t cells inside path held root_context)
                (filter (is_emitted es t cells inside held) (spots es root_context o)))) (sym w.0 ∙ same) (each w.1)
          ]
      go inner later false e = later
