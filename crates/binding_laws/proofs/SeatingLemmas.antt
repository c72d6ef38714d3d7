-- The contexts in which picks stand, as they are numbered among all picks, are those of the places at which they are written.
use Rattle.std.proofs.Common.{◌≡◌, ℕ, zero, suc, ◌+◌, ◌<◌, ◌≤◌, Bool, true, false, ◌&&◌, List, [], ◌∷◌, ◌++◌, map, filter, Option, Some, None, inl, inr, refl}
use Rattle.std.proofs.Common.{sym, ap, ◌∙◌, subst, arith}
use Rattle.std.specs.Prelude.{option_map, option_and_then}
use Rattle.std.specs.List.{range_with_len}
use Rattle.std.proofs.lemmas.Bool.{false≢true}
use Rattle.std.proofs.lemmas.Option.{same_Some}
use Rattle.inv_base.specs.Tree.{Node, size, document_nodes, is_among}
use Rattle.term_table.specs.declared.groups.Group.{Group}
use Rattle.term_table.specs.declared.contexts.Slot.{Slot}
use Rattle.term_table.specs.declared.contexts.Context.{Context}
use Rattle.term_table.specs.Contexts.{root_context, slot_group, same_slot}
use Rattle.term_table.specs.Groups.{same_group}
use Rattle.term_table.proofs.GroupLemmas.{same_group_is, same_group_itself}
use Rattle.inv_terms.specs.declared.entries.Entry.{Entry}
use Rattle.inv_terms.specs.Listing.{IsInvoice}
use Rattle.inv_terms.proofs.PushLemmas.{same_slot_is}
use Rattle.bind_rows.specs.declared.rows.Step.{Step}
use Rattle.bind_rows.specs.declared.rows.Row.{Row}
use Rattle.bind_rows.specs.Same.{same_or_none}
use Rattle.bind_table.specs.Lines.{plan_of}
use Rattle.bind_meaning.specs.Picks.{Pick, last_of, carrier, carrier_in}
use Rattle.bind_meaning.specs.Seats.{is_of_outer, is_of_inner, listed, outer_elements, is_inside_of, inner_elements, outer_at, inner_at, outer_seat}
use Rattle.bind_meaning.specs.Seats.{inner_within, inner_seat, slot_of, placed, context_of}
use Rattle.bind_meaning.specs.Trees.{spots, outer_count, inner_count, index_in, or_here, written_lines, document_of}
use Rattle.binding_laws.specs.Written.{Spot}
use Rattle.binding_laws.specs.Plain.{groups_of}
use Rattle.binding_laws.specs.Plain as plain
use Rattle.binding_laws.proofs.TreeLemmas.{Each, each-weaker}
use Rattle.binding_laws.proofs.ContextLemmas.{Later, Rising, each-filter, rising-filter, in-group, in-groups}
use Rattle.binding_laws.proofs.ReachLemmas.{Among, among-flat_map, among-filter, among-map, Leads}
use Rattle.binding_laws.proofs.RowLemmas.{Place, places_at, places-spots}
use Rattle.binding_laws.proofs.CountLemmas.{AreNumbered, numbered, is-among, among-is, rising-one}
use Rattle.binding_laws.proofs.PlaceLemmas.{of-flat_map, of-filter-any, IsBetween, places-lead, between, upto, beyond, carried}
use Rattle.binding_laws.proofs.SeatLemmas.{outer_of, inner_of, of-some, first-carrier, second-carrier, leads-nowhere, leads-to-one, leads-to-two, each-outer}
use Rattle.binding_laws.proofs.SeatLemmas.{each-inner, outer-within, inner-within, own-index, same-slot-itself, document-numbers}

-- ---- lists

pub each-from : {X : Type 0} (P : X → Type 0) (xs : List X) → ((x : X) → Among x xs → P x) → Each P xs
each-from P [] f = tt
each-from P (x ∷ xs) f = (f x (inl refl), each-from P xs (λ y a. f y (inr a)))

pub rising-from : {X Y : Type 0} (R : Y → Y → Type 0) (f : X → Y) (xs : List X) → Rising R (map f xs) → Rising (λ a b. R (f a) (f b)) xs
rising-from R f [] h = tt
rising-from {X = X} R f (x ∷ xs) h = (each-of xs h.0, rising-from R f xs h.1)
  where
    each-of : (ys : List X) → Each (R (f x)) (map f ys) → Each (λ b. R (f x) (f b)) ys
    each-of [] k = tt
    each-of (y ∷ ys) k = (k.0, each-of ys k.1)

pub rising-with : {X : Type 0} (P : X → Type 0) (R S : X → X → Type 0) → ((a b : X) → P a → P b → R a b → S a b) → (xs : List X) → Each P xs → Rising R xs →
    Rising S xs
rising-with P R S f [] e h = tt
rising-with {X = X} P R S f (x ∷ xs) e h = (each-of xs e.1 h.0, rising-with P R S f xs e.1 h.1)
  where
    each-of : (ys : List X) → Each P ys → Each (R x) ys → Each (S x) ys
    each-of [] a k = tt
    each-of (y ∷ ys) a k = (f x y e.0 a.0 k.0, each-of ys a.1 k.1)

or_none-is : (a b : Option Group) → same_or_none a b ≡ true → a ≡ b
or_none-is None None h = refl
or_none-is None (Some b) h = absurd (false≢true h)
or_none-is (Some a) None h = absurd (false≢true h)
or_none-is (Some a) (Some b) h = ap Some (same_group_is a b h)

slot-of-group : (o : Option Slot) (g : Group) → slot_group o ≡ Some g → (k : ℕ) × (o ≡ Some (record { group = g; index = k }))
slot-of-group None g h = absurd (let z : ◌≡◌ {A = Option Group} None (Some g) = h in cc)
slot-of-group (Some s) g h = (s.index, (λ i. Some (record { group = (same_Some _ _ h) i; index = s.index })))

same-index : (g : Group) (a b : ℕ) → ◌≡◌ {A = Option Slot} (Some (record { group = g; index = a })) (Some (record { group = g; index = b })) → a ≡ b
same-index g a b e = ap (λ (s : Slot). s.index) (same_Some _ _ e)

abbrev number_of : Place → ℕ
number_of place = last_of place.way

module _ (rows : List Row) (es : List Entry) (invoice : IsInvoice es) where
  abbrev pub all_nodes : List Node
  all_nodes = document_nodes (document_of rows es)

  abbrev at_path : List Step → List Place
  at_path path = places_at rows es path

  -- The pick is of a place at the end of its row's path. An entry stands in a context of the row, which is that of the place
  -- where the row has groups; a row of the invoice itself may be picked anywhere.
  pub record IsPicked (pick : Pick) : Type 0 where
    pub place : Place
    pub among : Among place (places_at rows es pick.row.path)
    pub elements : pick.elements ≡ place.way
    pub entry : Entry
    pub known : Among entry es
    pub outer : slot_group entry.context.outer ≡ pick.row.outer
    pub inner : slot_group entry.context.inner ≡ pick.row.inner
    pub there : (g : Group) → pick.row.outer ≡ Some g → entry.context ≡ place.spot.context
    pub through : (g : Group) → pick.row.outer ≡ Some g → groups_of pick.row.path ≡ plain.listed pick.row.outer ++ plain.listed pick.row.inner

  -- Each pick is one, each entry is at one of them, and each group has one element of the table.
  pub record AreSeated (picks : List Pick) : Type 0 where
    pub each : (pick : Pick) → Among pick picks → IsPicked pick
    pub all : (e : Entry) → Among e es → (pick : Pick) × (Among pick picks × ((p : IsPicked pick) × (p.entry.context ≡ e.context)))
    pub one_outer : (g : Group) (a b : Pick) → Among a picks → Among b picks → a.row.outer ≡ Some g → b.row.outer ≡ Some g →
        upto g a.row.path ≡ upto g b.row.path
    pub one_inner : (g : Group) (a b : Pick) → Among a picks → Among b picks → a.row.inner ≡ Some g → b.row.inner ≡ Some g →
        upto g a.row.path ≡ upto g b.row.path
    pub differ : (g h : Group) (a : Pick) → Among a picks → a.row.outer ≡ Some g → a.row.inner ≡ Some h → same_group g h ≡ false
    pub nested : (a : Pick) → Among a picks → a.row.outer ≡ None → a.row.inner ≡ None

  -- ---- the element of the outer group

  pub record OuterMark (g : Group) (pick : Pick) (p : IsPicked pick) : Type 0 where
    i : ℕ
    mark : Place
    among : Among mark (places_at rows es (upto g pick.row.path))
    carries : carrier_in pick g ≡ Some (last_of mark.way)
    slot : p.entry.context.outer ≡ Some (record { group = g; index = i })
    context : mark.spot.context ≡ outer_of g i
    least : 1 ≤ i
    most : i < 1 + outer_count es g

  -- one of some contexts inside another stands in the same occurrence of the outer group
  or-outer : (c d : Context) (outer : Slot) (h : Group) (n : ℕ) → c.outer ≡ Some outer → Among d (or_here c (map (inner_of outer h) (range_with_len 1 n))) →
      d.outer ≡ Some outer
  or-outer c d outer h zero e (inl s) = ap (λ (x : Context). x.outer) (sym s) ∙ e
  or-outer c d outer h zero e (inr a) = absurd a
  or-outer c d outer h (suc n) e a = ap (λ (x : Context). x.outer) (of-some c d (inner_of outer h) (suc n) (omega arith) a).1.1.1

  inside-one : (g : Group) (k : ℕ) (h : Group) (d : Context) → Among d (spots es (outer_of g k) (Some h)) → d.outer ≡ Some (record { group = g; index = k })
  inside-one g k h d a = or-outer (outer_of g k) d (record { group = g; index = k }) h (inner_count es (record { group = g; index = k }) h) refl a

  outer-mark : (g : Group) (pick : Pick) (p : IsPicked pick) → pick.row.outer ≡ Some g → OuterMark g pick p
  outer-mark g pick p o =
      let path : List Step = pick.row.path in
      let f = first-carrier g (plain.listed pick.row.inner) path (p.through g o ∙ ap (λ x. plain.listed x ++ plain.listed pick.row.inner) o) in
      let c = carried es g (plan_of rows) path false root_context 1 p.place f.has p.among in
      let w = slot-of-group p.entry.context.outer g (p.outer ∙ o) in
      let bounds = outer-within es invoice.numbered g w.0 p.entry p.known w.1 in
      let l = bounds.0 in
      let r = bounds.1 in
      let k = of-some root_context c.mark.spot.context (outer_of g) (outer_count es g) (omega (arith, l, r))
      (leads-to-one es (upto g path) root_context c.mark.spot.context g f.front
      (places-lead es (plan_of rows) (upto g path) false root_context 1 c.mark c.among)) in
      let same : k.0 ≡ w.0 = same-index g k.0 w.0
      (sym (ap (λ (x : Context). x.outer) (p.there g o) ∙ slot-behind g k.0 c.mark.spot.context p.place.spot.context
      (beyond g path) pick.row.inner f.back k.1.1.1 c.leads) ∙ w.1) in
      record {
        i = w.0;
        mark = c.mark;
        among = c.among;
        carries = ap (carrier g path) p.elements ∙ c.carries;
        slot = w.1;
        context = k.1.1.1 ∙ ap (outer_of g) same;
        least = l;
        most = r;
      }
    where
      slot-behind : (g : Group) (k : ℕ) (c d : Context) (path : List Step) (inner : Option Group) → groups_of path ≡ plain.listed inner → c ≡ outer_of g k →
          Leads es path c d → d.outer ≡ Some (record { group = g; index = k })
      slot-behind g k c d path None e is leads = ap (λ (x : Context). x.outer) (sym (leads-nowhere es path c d e leads) ∙ is)
      slot-behind g k c d path (Some h) e is leads = inside-one g k h d (subst (λ x. Among d (spots es x (Some h))) is (leads-to-one es path c d h e leads))

  -- ---- the elements of the outer group, in their order

  abbrev whole : ℕ
  whole = 1 + size (written_lines es (plan_of rows) false root_context)

  numbers-are : map (λ (node : Node). node.number) all_nodes ≡ range_with_len 0 whole
  unfolding document_of
  numbers-are = document-numbers (document_of rows es)

  below-whole : (path : List Step) → Each (λ (q : Place). last_of q.way < whole) (at_path path)
  below-whole path =
      each-weaker (IsBetween es 1 (1 + size (written_lines es (plan_of rows) false root_context))) (λ (q : Place). last_of q.way < whole) (at_path path)
      (λ q k. k.most) (between es (plan_of rows) path false root_context 1).each

  numbers-rise : (path : List Step) → Rising (λ (a : Place) (b : Place). last_of a.way < last_of b.way) (at_path path)
  numbers-rise path = (between es (plan_of rows) path false root_context 1).rising

  IsOuterOf : Group → Place → Type 0
  IsOuterOf g q = (k : ℕ) × ((1 ≤ k) × ((k < 1 + outer_count es g) × (q.spot.context ≡ outer_of g k)))

  outer-index : (g : Group) (q : Place) (k : ℕ) → q.spot.context ≡ outer_of g k → index_in g q.spot.context.outer ≡ k
  outer-index g q k e = ap (λ (c : Context). index_in g c.outer) e ∙ own-index es g k

  outers : (g : Group) (path : List Step) → groups_of path ≡ g ∷ [] → 1 ≤ outer_count es g → Each (IsOuterOf g) (at_path path)
  unfolding IsOuterOf
  outers g path e l =
      each-from (IsOuterOf g) (at_path path)
      (λ q a. of-some root_context q.spot.context (outer_of g) (outer_count es g) l
      (leads-to-one es path root_context q.spot.context g e (places-lead es (plan_of rows) path false root_context 1 q a)))

  later-outer : (g : Group) (a b : Place) → IsOuterOf g a → IsOuterOf g b → Later a.spot.context b.spot.context →
      index_in g a.spot.context.outer < index_in g b.spot.context.outer
  unfolding IsOuterOf
  later-outer g a b x y (inl l) =
      let first : l.first.index ≡ x.0 = ap (λ (s : Slot). s.index) (same_Some _ _ (sym l.first_is ∙ ap (λ (c : Context). c.outer) x.1.1.1)) in
      let second : l.second.index ≡ y.0 = ap (λ (s : Slot). s.index) (same_Some _ _ (sym l.second_is ∙ ap (λ (c : Context). c.outer) y.1.1.1)) in
      let less = l.less in
      let i = outer-index g a x.0 x.1.1.1 in
      let j = outer-index g b y.0 y.1.1.1 in
      omega (arith, first, second, less, i, j)
  later-outer g a b x y (inr l) = absurd (let z : Some l.first ≡ None = sym l.first_is ∙ ap (λ (c : Context). c.inner) x.1.1.1 in cc)

  outer-rise : (g : Group) (path : List Step) → groups_of path ≡ g ∷ [] → 1 ≤ outer_count es g →
      Rising (λ (a : Place) (b : Place). index_in g a.spot.context.outer < index_in g b.spot.context.outer) (at_path path)
  outer-rise g path e l =
      rising-with (IsOuterOf g) (λ (a : Place) (b : Place). Later a.spot.context b.spot.context)
      (λ (a : Place) (b : Place). index_in g a.spot.context.outer < index_in g b.spot.context.outer) (later-outer g) (at_path path)
      (outers g path e l)
      (rising-from (λ (a : Spot) (b : Spot). Later a.context b.context) (λ (q : Place). q.spot) (at_path path)
      (subst (Rising (λ (a : Spot) (b : Spot). Later a.context b.context)) (sym (places-spots es (plan_of rows) path false root_context 1))
      (in-group es (plan_of rows) path false root_context g e)))

  outer-within-them : (g : Group) (path : List Step) → groups_of path ≡ g ∷ [] → 1 ≤ outer_count es g →
      Each (λ (q : Place). (1 ≤ index_in g q.spot.context.outer) × (index_in g q.spot.context.outer < 1 + outer_count es g)) (at_path path)
  unfolding IsOuterOf
  outer-within-them g path e l =
      each-weaker (IsOuterOf g) (λ (q : Place). (1 ≤ index_in g q.spot.context.outer) × (index_in g q.spot.context.outer < 1 + outer_count es g)) (at_path path)
      (λ q x. let i = outer-index g q x.0 x.1.1.1 in let a = x.1.0 in let b = x.1.1.0 in (omega (arith, i, a), omega (arith, i, b))) (outers g path e l)

  -- an element of the group is known by its number, and by its occurrence
  same-outer : (g : Group) (path : List Step) → groups_of path ≡ g ∷ [] → 1 ≤ outer_count es g → (a b : Place) → Among a (at_path path) → Among b (at_path path)
      → index_in g a.spot.context.outer ≡ index_in g b.spot.context.outer → a ≡ b
  same-outer g path e l a b x y same = rising-one (λ (q : Place). last_of q.way) (λ (q : Place). index_in g q.spot.context.outer) (at_path path)
      (outer-rise g path e l) a b x y same

  same-number : (path : List Step) (a b : Place) → Among a (at_path path) → Among b (at_path path) → last_of a.way ≡ last_of b.way → a ≡ b
  same-number path a b x y same = rising-one (λ (q : Place). last_of q.way) (λ (q : Place). last_of q.way) (at_path path) (numbers-rise path) a b x y same

  group-of-slot : (o : Option Slot) (g : Group) (k : ℕ) (row : Option Group) → o ≡ Some (record { group = g; index = k }) → slot_group o ≡ row → row ≡ Some g
  group-of-slot o g k row e h = sym h ∙ ap slot_group e

  module _ (picks : List Pick) (seated : AreSeated picks) where
    outer-numbered : (g : Group) (pick : Pick) → Among pick picks → pick.row.outer ≡ Some g → (p : IsPicked pick) → 1 ≤ outer_count es g
        → AreNumbered (λ (q : Place). last_of q.way) (λ (q : Place). index_in g q.spot.context.outer) (at_path (upto g pick.row.path)) (outer_count es g) whole
        (outer_elements picks g)
    outer-numbered g pick a o p l = record {
      rises = numbers-rise front;
      below = below-whole front;
      indices = outer-rise g front carried_there l;
      within = outer-within-them g front carried_there l;
      all = every;
      known = each_known;
    }
      where
        front : List Step
        front = upto g pick.row.path

        carried_there : groups_of (upto g pick.row.path) ≡ g ∷ []
        carried_there = (first-carrier g (plain.listed pick.row.inner) pick.row.path
            (p.through g o ∙ ap (λ x. plain.listed x ++ plain.listed pick.row.inner) o)).front

        every : (j : ℕ) → 1 ≤ j → j < 1 + outer_count es g → (q : Place) ×
            (Among q (at_path (upto g pick.row.path)) × ((index_in g q.spot.context.outer ≡ j) × Among (last_of q.way) (outer_elements picks g)))
        every j least most =
            let y = each-outer es invoice.numbered g j least most in
            let w = seated.all y.0 y.1.0 in
            let other : Pick = w.0 in
            let op = w.1.1.0 in
            let slot : op.entry.context.outer ≡ Some (record { group = g; index = j }) = ap (λ (c : Context). c.outer) w.1.1.1 ∙ y.1.1 in
            let of_it : other.row.outer ≡ Some g = group-of-slot op.entry.context.outer g j other.row.outer slot op.outer in
            let m = outer-mark g other op of_it in (
              m.mark,
              (
                subst (λ path. Among m.mark (at_path path)) (seated.one_outer g other pick w.1.0 a of_it o) m.among,
                (
                  outer-index g m.mark m.i m.context ∙ same-index g m.i j (sym m.slot ∙ slot),
                  among-flat_map (λ (x : Pick). listed (carrier_in x g)) other (last_of m.mark.way) (filter (is_of_outer g) picks)
                      (among-filter (is_of_outer g) other picks (ap (λ x. same_or_none x (Some g)) of_it ∙ same_group_itself g) w.1.0)
                      (subst (λ x. Among (last_of m.mark.way) (listed x)) (sym m.carries) (inl refl)),
                ),
              ),
            )

        each_known : (m : ℕ) → Among m (outer_elements picks g) → Among m (map (λ (q : Place). last_of q.way) (at_path (upto g pick.row.path)))
        each_known m b =
            let w = of-flat_map (λ (x : Pick). listed (carrier_in x g)) m (filter (is_of_outer g) picks) b in
            let other : Pick = w.0 in
            let v = of-filter-any (is_of_outer g) other picks w.1.0 in
            let of_it : other.row.outer ≡ Some g = or_none-is other.row.outer (Some g) v.1 in
            let k = outer-mark g other (seated.each other v.0) of_it in
            let there : Among k.mark (at_path (upto g pick.row.path)) =
            subst (λ path. Among k.mark (at_path path)) (seated.one_outer g other pick v.0 a of_it o) k.among in
            elim (subst (λ x. Among m (listed x)) k.carries w.1.1) [
              | inl e ↦ subst (λ n. Among n (map (λ (q : Place). last_of q.way) (at_path (upto g pick.row.path)))) e
                  (among-map (λ (q : Place). last_of q.way) k.mark (at_path (upto g pick.row.path)) there)
              | inr z ↦ absurd z
            ]

    pub outer-seat-is : (g : Group) (pick : Pick) → Among pick picks → pick.row.outer ≡ Some g → (p : IsPicked pick) (m : OuterMark g pick p)
        → outer_seat all_nodes picks pick ≡ Some (record { slot = record { group = g; index = m.i }; element = last_of m.mark.way })
    outer-seat-is g pick a o p m =
        let l = m.least in
        let r = m.most in
        let counts = numbered (λ (q : Place). last_of q.way) (λ (q : Place). index_in g q.spot.context.outer) all_nodes whole numbers-are (outer_count es g)
        (at_path (upto g pick.row.path)) (outer_elements picks g)
        (outer-numbered g pick a o p (omega (arith, l, r))) m.mark m.among in
        ap (λ x. option_and_then (λ group. option_map (outer_at all_nodes picks group) (carrier_in pick group)) x) o
        ∙ (ap (λ x. option_map (outer_at all_nodes picks g) x) m.carries
        ∙ ap (λ k. Some (record { slot = record { group = g; index = k }; element = last_of m.mark.way })) (counts ∙ outer-index g m.mark m.i m.context))

    -- ---- the element of the inner group

    record InnerMark (g h : Group) (i : ℕ) (pick : Pick) (p : IsPicked pick) : Type 0 where
      k : ℕ
      mark : Place
      among : Among mark (places_at rows es (upto h pick.row.path))
      carries : carrier_in pick h ≡ Some (last_of mark.way)
      slot : p.entry.context.inner ≡ Some (record { group = h; index = k })
      context : mark.spot.context ≡ inner_of (record { group = g; index = i }) h k
      front : groups_of (upto h pick.row.path) ≡ g ∷ (h ∷ [])
      least : 1 ≤ k
      most : k < 1 + inner_count es (record { group = g; index = i }) h

    inner-mark : (g h : Group) (pick : Pick) (p : IsPicked pick) → Among pick picks → pick.row.outer ≡ Some g → pick.row.inner ≡ Some h →
        (m : OuterMark g pick p) → InnerMark g h m.i pick p
    inner-mark g h pick p a o i m =
        let path : List Step = pick.row.path in
        let f = second-carrier g h (seated.differ g h pick a o i) path (p.through g o ∙ (λ z. plain.listed (o z) ++ plain.listed (i z))) in
        let c = carried es h (plan_of rows) path false root_context 1 p.place f.has p.among in
        let w = slot-of-group p.entry.context.inner h (p.inner ∙ i) in
        let bounds = inner-within es invoice.numbered (record { group = g; index = m.i }) h w.0 p.entry p.known m.slot w.1 in
        record {
          k = w.0;
          mark = c.mark;
          among = c.among;
          carries = ap (carrier h path) p.elements ∙ c.carries;
          slot = w.1;
          context = leads-nowhere es (beyond h path) c.mark.spot.context p.place.spot.context f.back c.leads ∙
              (sym (p.there g o) ∙ (λ z. record { outer = (m.slot) z; inner = (w.1) z }));
          front = f.front;
          least = bounds.0;
          most = bounds.1;
        }

    abbrev in_it : Slot → Place → Bool
    in_it outer q = same_slot q.spot.context.outer (Some outer)

    abbrev inner_places : Slot → List Step → List Place
    inner_places outer path = filter (in_it outer) (at_path path)

    IsInnerOf : Group → ℕ → Group → Place → Type 0
    IsInnerOf g i h q = (k : ℕ) ×
        ((1 ≤ k) × ((k < 1 + inner_count es (record { group = g; index = i }) h) × (q.spot.context ≡ inner_of (record { group = g; index = i }) h k)))

    inner-index : (h : Group) (q : Place) (outer : Slot) (k : ℕ) → q.spot.context ≡ inner_of outer h k → index_in h q.spot.context.inner ≡ k
    inner-index h q outer k e = ap (λ (c : Context). index_in h c.inner) e ∙ own-index es h k

    inners : (g : Group) (i : ℕ) (h : Group) (path : List Step) → groups_of path ≡ g ∷ (h ∷ []) → 1 ≤ outer_count es g →
        1 ≤ inner_count es (record { group = g; index = i }) h
        → Each (IsInnerOf g i h) (inner_places (record { group = g; index = i }) path)
    unfolding IsInnerOf
    inners g i h path e l n =
        each-from (IsInnerOf g i h) (inner_places (record { group = g; index = i }) path)
        (λ q a.
        let v = of-filter-any (in_it (record { group = g; index = i })) q (at_path path) a in
        let two = leads-to-two es path root_context q.spot.context g h e (places-lead es (plan_of rows) path false root_context 1 q v.0) in
        let b = of-some root_context two.0 (outer_of g) (outer_count es g) l two.1.0 in
        let there : Among q.spot.context (spots es (outer_of g b.0) (Some h)) = subst (λ x. Among q.spot.context (spots es x (Some h))) b.1.1.1 two.1.1 in
        let same : b.0 ≡ i = same-index g b.0 i (sym (inside-one g b.0 h q.spot.context there) ∙
        same_slot_is q.spot.context.outer (Some (record { group = g; index = i })) v.1) in
        of-some (outer_of g i) q.spot.context (inner_of (record { group = g; index = i }) h) (inner_count es (record { group = g; index = i }) h) n
        (subst (λ x. Among q.spot.context (spots es (outer_of g x) (Some h))) same there))

    later-inner : (g : Group) (i : ℕ) (h : Group) (a b : Place) → IsInnerOf g i h a → IsInnerOf g i h b → Later a.spot.context b.spot.context →
        index_in h a.spot.context.inner < index_in h b.spot.context.inner
    unfolding IsInnerOf
    later-inner g i h a b x y (inl l) =
        let first : l.first.index ≡ i = ap (λ (s : Slot). s.index) (same_Some _ _ (sym l.first_is ∙ ap (λ (c : Context). c.outer) x.1.1.1)) in
        let second : l.second.index ≡ i = ap (λ (s : Slot). s.index) (same_Some _ _ (sym l.second_is ∙ ap (λ (c : Context). c.outer) y.1.1.1)) in
        let less = l.less in
        absurd (omega (arith, first, second, less))
    later-inner g i h a b x y (inr l) =
        let first : l.first.index ≡ x.0 = ap (λ (s : Slot). s.index) (same_Some _ _ (sym l.first_is ∙ ap (λ (c : Context). c.inner) x.1.1.1)) in
        let second : l.second.index ≡ y.0 = ap (λ (s : Slot). s.index) (same_Some _ _ (sym l.second_is ∙ ap (λ (c : Context). c.inner) y.1.1.1)) in
        let less = l.less in
        let m = inner-index h a (record { group = g; index = i }) x.0 x.1.1.1 in
        let n = inner-index h b (record { group = g; index = i }) y.0 y.1.1.1 in
        omega (arith, first, second, less, m, n)

    inner-numbered : (g h : Group) (pick : Pick) → Among pick picks → pick.row.outer ≡ Some g → pick.row.inner ≡ Some h →
        (p : IsPicked pick) (m : OuterMark g pick p) → InnerMark g h m.i pick p
        → AreNumbered (λ (q : Place). last_of q.way) (λ (q : Place). index_in h q.spot.context.inner)
        (inner_places (record { group = g; index = m.i }) (upto h pick.row.path)) (inner_count es (record { group = g; index = m.i }) h) whole
        (inner_elements picks g (last_of m.mark.way) h)
    unfolding IsInnerOf
    inner-numbered g h pick a o i p m im =
        let outer : Slot = record { group = g; index = m.i } in
        let path : List Step = upto h pick.row.path in
        let l = m.least in
        let r = m.most in
        let l2 = im.least in
        let r2 = im.most in
        let them = inners g m.i h path im.front (omega (arith, l, r)) (omega (arith, l2, r2)) in
        record {
          rises = rising-filter (λ (x : Place) (y : Place). last_of x.way < last_of y.way) (in_it outer) (at_path path) (numbers-rise path);
          below = each-filter (λ (q : Place). last_of q.way < whole) (in_it outer) (at_path path) (below-whole path);
          indices = rising-with (IsInnerOf g m.i h) (λ (x : Place) (y : Place). Later x.spot.context y.spot.context)
              (λ (x : Place) (y : Place). index_in h x.spot.context.inner < index_in h y.spot.context.inner) (later-inner g m.i h)
              (inner_places outer path) them
              (rising-filter (λ (x : Place) (y : Place). Later x.spot.context y.spot.context) (in_it outer) (at_path path)
              (rising-from (λ (x : Spot) (y : Spot). Later x.context y.context) (λ (q : Place). q.spot) (at_path path)
              (subst (Rising (λ (x : Spot) (y : Spot). Later x.context y.context)) (sym (places-spots es (plan_of rows) path false root_context 1))
              (in-groups es (plan_of rows) path false g h im.front))));
          within = each-weaker (IsInnerOf g m.i h) (λ (q : Place). (1 ≤ index_in h q.spot.context.inner) ×
              (index_in h q.spot.context.inner < 1 + inner_count es outer h)) (inner_places outer path)
              (λ q x. let k = inner-index h q outer x.0 x.1.1.1 in let b = x.1.0 in let c = x.1.1.0 in (omega (arith, k, b), omega (arith, k, c))) them;
          all = every;
          known = each_known;
        }
      where
        outer_front : groups_of (upto g pick.row.path) ≡ g ∷ []
        outer_front = (first-carrier g (plain.listed pick.row.inner) pick.row.path
            (p.through g o ∙ ap (λ x. plain.listed x ++ plain.listed pick.row.inner) o)).front

        some : 1 ≤ outer_count es g
        some = let l = m.least in let r = m.most in omega (arith, l, r)

        -- another pick in the same occurrence of the outer group
        at-mark : (other : Pick) → Among other picks → (of_it : other.row.outer ≡ Some g) → (op : IsPicked other) (om : OuterMark g other op) →
            Among om.mark (at_path (upto g pick.row.path))
        at-mark other b of_it op om = subst (λ q. Among om.mark (at_path q)) (seated.one_outer g other pick b a of_it o) om.among

        every : (j : ℕ) → 1 ≤ j → j < 1 + inner_count es (record { group = g; index = m.i }) h → (q : Place) ×
            (Among q (inner_places (record { group = g; index = m.i }) (upto h pick.row.path))
            × ((index_in h q.spot.context.inner ≡ j) × Among (last_of q.way) (inner_elements picks g (last_of m.mark.way) h)))
        every j least most =
            let outer : Slot = record { group = g; index = m.i } in
            let y = each-inner es invoice.numbered outer h j least most in
            let w = seated.all y.0 y.1.0 in
            let other : Pick = w.0 in
            let op = w.1.1.0 in
            let slot : op.entry.context.outer ≡ Some outer = ap (λ (c : Context). c.outer) w.1.1.1 ∙ y.1.1.0 in
            let inner_slot : op.entry.context.inner ≡ Some (record { group = h; index = j }) = ap (λ (c : Context). c.inner) w.1.1.1 ∙ y.1.1.1 in
            let of_it : other.row.outer ≡ Some g = group-of-slot op.entry.context.outer g m.i other.row.outer slot op.outer in
            let in_group : other.row.inner ≡ Some h = group-of-slot op.entry.context.inner h j other.row.inner inner_slot op.inner in
            let om = outer-mark g other op of_it in
            let same_i : om.i ≡ m.i = same-index g om.i m.i (sym om.slot ∙ slot) in
            let k = inner-mark g h other op w.1.0 of_it in_group om in
            let context : k.mark.spot.context ≡ inner_of outer h k.k = k.context ∙ ap (λ x. inner_of (record { group = g; index = x }) h k.k) same_i in
            let there : Among k.mark (at_path (upto h pick.row.path)) =
            subst (λ q. Among k.mark (at_path q)) (seated.one_inner h other pick w.1.0 a in_group i) k.among in
            let same_mark : om.mark ≡ m.mark = same-outer g (upto g pick.row.path) outer_front some om.mark m.mark (at-mark other w.1.0 of_it op om) m.among
            (outer-index g om.mark om.i om.context ∙ (same_i ∙ sym (outer-index g m.mark m.i m.context))) in
            let is_there : is_inside_of g (last_of m.mark.way) other ≡ true =
            ap (λ x. is_among (last_of m.mark.way) (listed x)) (om.carries ∙ ap (λ (q : Place). Some (last_of q.way)) same_mark)
            ∙ among-is (last_of m.mark.way) (last_of m.mark.way ∷ []) (inl refl) in (
              k.mark,
              (
                among-filter (in_it outer) k.mark (at_path (upto h pick.row.path)) (ap (λ (c : Context). same_slot c.outer (Some outer)) context ∙
                    same-slot-itself es outer) there,
                (
                  inner-index h k.mark outer k.k context ∙ same-index h k.k j (sym k.slot ∙ inner_slot),
                  among-flat_map (λ (x : Pick). listed (carrier_in x h)) other (last_of k.mark.way)
                      (filter (λ (x : Pick). is_of_inner h x && is_inside_of g (last_of m.mark.way) x) picks)
                      (among-filter (λ (x : Pick). is_of_inner h x && is_inside_of g (last_of m.mark.way) x) other picks
                      (pair (ap (λ x. same_or_none x (Some h)) in_group ∙ same_group_itself h) is_there) w.1.0)
                      (subst (λ x. Among (last_of k.mark.way) (listed x)) (sym k.carries) (inl refl)),
                ),
              ),
            )
          where
            pair : {x y : Bool} → x ≡ true → y ≡ true → (x && y) ≡ true
            pair e f = rw (e, f) refl

        split : (x y : Bool) → (x && y) ≡ true → (x ≡ true) × (y ≡ true)
        split true y k = (refl, k)
        split false y k = absurd (false≢true k)

        -- the outer group of another row with this inner one
        same-group-outer : (other : Pick) (b : Among other picks) → other.row.inner ≡ Some h → (x : Option Group) → other.row.outer ≡ x →
            other.row.outer ≡ Some g
        same-group-outer other b in_group None e = absurd (let z : ◌≡◌ {A = Option Group} (Some h) None = sym in_group ∙ seated.nested other b e in cc)
        same-group-outer other b in_group (Some f) e =
            let op = seated.each other b in
            let om = outer-mark f other op e in
            let k = inner-mark f h other op b e in_group om in
            let fronts : f ∷ (h ∷ []) ≡ g ∷ (h ∷ []) = sym k.front ∙ (ap groups_of (seated.one_inner h other pick b a in_group i) ∙ im.front) in
            e ∙ (let z : ◌≡◌ {A = Option Group} (Some f) (Some g) = cc in z)

        each_known : (n : ℕ) → Among n (inner_elements picks g (last_of m.mark.way) h) →
            Among n (map (λ (q : Place). last_of q.way) (inner_places (record { group = g; index = m.i }) (upto h pick.row.path)))
        each_known n b =
            let outer : Slot = record { group = g; index = m.i } in
            let w = of-flat_map (λ (x : Pick). listed (carrier_in x h)) n
            (filter (λ (x : Pick). is_of_inner h x && is_inside_of g (last_of m.mark.way) x) picks) b in
            let other : Pick = w.0 in
            let v = of-filter-any (λ (x : Pick). is_of_inner h x && is_inside_of g (last_of m.mark.way) x) other picks w.1.0 in
            let tests = split (is_of_inner h other) (is_inside_of g (last_of m.mark.way) other) v.1 in
            let in_group : other.row.inner ≡ Some h = or_none-is other.row.inner (Some h) tests.0 in
            let of_it : other.row.outer ≡ Some g = same-group-outer other v.0 in_group other.row.outer refl in
            let op = seated.each other v.0 in
            let om = outer-mark g other op of_it in
            let k = inner-mark g h other op v.0 of_it in_group om in
            let numbers : last_of om.mark.way ≡ last_of m.mark.way =
            elim (is-among (last_of m.mark.way) (last_of om.mark.way ∷ []) (sym (ap (λ x. is_among (last_of m.mark.way) (listed x)) om.carries) ∙ tests.1))
            [ inl e ↦ e | inr z ↦ absurd z ] in
            let same_mark : om.mark ≡ m.mark = same-number (upto g pick.row.path) om.mark m.mark (at-mark other v.0 of_it op om) m.among numbers in
            let same_i : om.i ≡ m.i = sym (outer-index g om.mark om.i om.context) ∙
            (ap (λ (q : Place). index_in g q.spot.context.outer) same_mark ∙ outer-index g m.mark m.i m.context) in
            let context : k.mark.spot.context ≡ inner_of outer h k.k = k.context ∙ ap (λ x. inner_of (record { group = g; index = x }) h k.k) same_i in
            let there : Among k.mark (inner_places outer (upto h pick.row.path)) =
            among-filter (in_it outer) k.mark (at_path (upto h pick.row.path)) (ap (λ (c : Context). same_slot c.outer (Some outer)) context ∙
            same-slot-itself es outer)
            (subst (λ q. Among k.mark (at_path q)) (seated.one_inner h other pick v.0 a in_group i) k.among) in
            elim (subst (λ x. Among n (listed x)) k.carries w.1.1) [
              | inl e ↦ subst (λ x. Among x (map (λ (q : Place). last_of q.way) (inner_places outer (upto h pick.row.path)))) e
                  (among-map (λ (q : Place). last_of q.way) k.mark (inner_places outer (upto h pick.row.path)) there)
              | inr z ↦ absurd z
            ]

    inner-seat-is : (g h : Group) (pick : Pick) → Among pick picks → pick.row.outer ≡ Some g → pick.row.inner ≡ Some h →
        (p : IsPicked pick) (m : OuterMark g pick p) (im : InnerMark g h m.i pick p)
        → inner_seat all_nodes picks pick ≡ Some (record { slot = record { group = h; index = im.k }; element = last_of im.mark.way })
    inner-seat-is g h pick a o i p m im =
        let outer : Slot = record { group = g; index = m.i } in
        let there : Among im.mark (inner_places outer (upto h pick.row.path)) =
        among-filter (in_it outer) im.mark (at_path (upto h pick.row.path)) (ap (λ (c : Context). same_slot c.outer (Some outer)) im.context ∙
        same-slot-itself es outer) im.among in
        let counts = numbered (λ (q : Place). last_of q.way) (λ (q : Place). index_in h q.spot.context.inner) all_nodes whole numbers-are
        (inner_count es outer h) (inner_places outer (upto h pick.row.path))
        (inner_elements picks g (last_of m.mark.way) h) (inner-numbered g h pick a o i p m im) im.mark there in
        ap (λ x. option_and_then (λ group. option_and_then (inner_within all_nodes picks pick group) (carrier_in pick group)) x) o
        ∙ (ap (λ x. option_and_then (inner_within all_nodes picks pick g) x) m.carries
        ∙ (ap (λ x. option_and_then (λ group. option_map (inner_at all_nodes picks g (last_of m.mark.way) group) (carrier_in pick group)) x) i
        ∙ (ap (λ x. option_map (inner_at all_nodes picks g (last_of m.mark.way) h) x) im.carries
        ∙ ap (λ k. Some (record { slot = record { group = h; index = k }; element = last_of im.mark.way }))
        (counts ∙ inner-index h im.mark outer im.k im.context))))

    -- ---- the seats

    no-slot : (o : Option Slot) (row : Option Group) → slot_group o ≡ row → row ≡ None → o ≡ None
    no-slot None row h e = refl
    no-slot (Some s) row h e = absurd (let z : ◌≡◌ {A = Option Group} (Some s.group) None = h ∙ e in cc)

    nothing-inner : (pick : Pick) → pick.row.inner ≡ None → (outer : Option Group) → pick.row.outer ≡ outer → inner_seat all_nodes picks pick ≡ None
    nothing-inner pick i None o = ap (λ x. option_and_then (λ group. option_and_then (inner_within all_nodes picks pick group) (carrier_in pick group)) x) o
    nothing-inner pick i (Some g) o = ap (λ x. option_and_then (λ group. option_and_then (inner_within all_nodes picks pick group) (carrier_in pick group)) x) o
        ∙ none (carrier_in pick g)
      where
        none : (x : Option ℕ) → option_and_then (inner_within all_nodes picks pick g) x ≡ None
        none None = refl
        none (Some n) = ap (λ y. option_and_then (λ group. option_map (inner_at all_nodes picks g n group) (carrier_in pick group)) y) i

    pub context-is : (pick : Pick) → Among pick picks → (p : IsPicked pick) → context_of (placed all_nodes picks pick) ≡ p.entry.context
    context-is pick a p = go pick.row.outer pick.row.inner refl refl
      where
        go : (o i : Option Group) → pick.row.outer ≡ o → pick.row.inner ≡ i → context_of (placed all_nodes picks pick) ≡ p.entry.context
        go None i e f =
            let none : pick.row.inner ≡ None = seated.nested pick a e in
            λ z. record {
              outer = (ap (λ x. slot_of (option_and_then (λ group. option_map (outer_at all_nodes picks group) (carrier_in pick group)) x)) e ∙
                  sym (no-slot p.entry.context.outer pick.row.outer p.outer e)) z;
              inner = (ap slot_of (nothing-inner pick none None e) ∙ sym (no-slot p.entry.context.inner pick.row.inner p.inner none)) z;
            }
        go (Some g) None e f =
            let m = outer-mark g pick p e in
            λ z. record {
              outer = (ap slot_of (outer-seat-is g pick a e p m) ∙ sym m.slot) z;
              inner = (ap slot_of (nothing-inner pick f (Some g) e) ∙ sym (no-slot p.entry.context.inner pick.row.inner p.inner f)) z;
            }
        go (Some g) (Some h) e f =
            let m = outer-mark g pick p e in
            let im = inner-mark g h pick p a e f m in
            λ z. record {
              outer = (ap slot_of (outer-seat-is g pick a e p m) ∙ sym m.slot) z;
              inner = (ap slot_of (inner-seat-is g h pick a e f p m im) ∙ sym im.slot) z;
            }
