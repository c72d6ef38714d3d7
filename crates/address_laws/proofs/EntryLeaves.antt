-- Each entry has its leaf: at the address that its slots give along the path of a row that isn't spread.
use Rattle.std.proofs.Common.{◌≡◌, ℕ, suc, zero, ◌+◌, ◌<◌, ◌≤◌, Bool, true, false, ◌||◌, Option, Some, None, List, [], ◌∷◌, ◌++◌, flat_map, map, ◌⊎◌, inl, inr}
use Rattle.std.proofs.Common.{refl, sym, ap, ◌∙◌, subst, arith}
use Rattle.std.specs.Prelude.{nat_lt, is_some, is_none}
use Rattle.std.specs.List.{range_with_len}
use Rattle.std.specs.Cmp.Lexicographic.{pointwise}
use Rattle.std.proofs.lemmas.Bool.{false≢true}
use Rattle.std.proofs.lemmas.Bool.Decides.{nat_tests}
use Rattle.term_table.specs.declared.groups.Group.{Group}
use Rattle.term_table.specs.declared.terms.Term.{Term}
use Rattle.term_table.specs.declared.contexts.Slot.{Slot}
use Rattle.term_table.specs.declared.contexts.Context.{Context}
use Rattle.term_table.specs.Contexts.{root_context, slot_group}
use Rattle.term_table.specs.Groups.{same_group}
use Rattle.inv_terms.specs.declared.entries.Entry.{Entry}
use Rattle.inv_terms.specs.Listing.{is_numbered}
use Rattle.bind_rows.specs.declared.rows.Step.{Step}
use Rattle.bind_rows.specs.declared.rows.Row.{Row}
use Rattle.bind_rows.specs.Same.{same_or_none}
use Rattle.bind_table.proofs.SameLemmas.{pointwise-sound, group-sound}
use Rattle.bind_table.proofs.PathLemmas.{group-itself}
use Rattle.bind_meaning.specs.Trees.{outer_count, inner_count}
use Rattle.binding_laws.specs.Plain.{groups_of, listed}
use Rattle.binding_laws.proofs.ReachLemmas.{Among, among-front, among-back}
use Rattle.binding_laws.proofs.SeatLemmas.{outer-within, inner-within}
use Rattle.binding_laws.proofs.PlainLemmas.{no-slot}
use Rattle.binding_laws.proofs.ListLemmas.{both-true}
use Rattle.address_laws.specs.AddressTrees.{Place, Said}
use Rattle.address_laws.specs.Addresses.{Turn, group_turns, turn_of, how_often, is_own, foreign_turns, row_turns, Way, through, ways, leaf_at, leaves_at}
use Rattle.address_laws.specs.Addresses.{entry_leaves, said_of_row}
use Rattle.address_laws.specs.Addressed.{is_own_way}
use Rattle.address_laws.specs.EntryAddresses.{numbers_of, next_number, numbers_behind, address_along, address_in, last_step}
use Rattle.address_laws.proofs.Holding.{or-true}

among-each : {A B : Type 0} (f : A → List B) (x : A) (xs : List A) (y : B) → Among x xs → Among y (f x) → Among y (flat_map f xs)
among-each f x [] y k h = elim k [ ]
among-each f x (z ∷ zs) y (inl e) h = among-front y (f z) (flat_map f zs) (subst (λ v. Among y (f v)) (sym e) h)
among-each f x (z ∷ zs) y (inr k) h = among-back y (f z) (flat_map f zs) (among-each f x zs y k h)

among-map : {A B : Type 0} (f : A → B) (x : A) (xs : List A) → Among x xs → Among (f x) (map f xs)
among-map f x [] k = elim k [ ]
among-map f x (z ∷ zs) (inl e) = inl (ap f e)
among-map f x (z ∷ zs) (inr k) = inr (among-map f x zs k)

range-among : (k n i : ℕ) → k ≤ i → i < k + n → Among i (range_with_len k n)
range-among k zero i l r = absurd (none k i l r)
  where
    none : (k i : ℕ) → k ≤ i → i < k + 0 → ⊥
    none k i l r = omega (arith, l, r)
range-among k (suc n) i l r = go (nat_lt k i) refl (range-among (k + 1) n i)
  where
    later : (k n i : ℕ) → nat_lt k i ≡ true → k + 1 ≤ i
    later k n i e = grind (arith, nat_tests)

    within : (k n i : ℕ) → i < k + suc n → i < k + 1 + n
    within k n i r = omega (arith, r)

    same : (k i : ℕ) → k ≤ i → nat_lt k i ≡ false → k ≡ i
    same k i l e = grind (arith, nat_tests)

    go : (b : Bool) → nat_lt k i ≡ b → (k + 1 ≤ i → i < k + 1 + n → Among i (range_with_len (k + 1) n)) → (k ≡ i) ⊎ Among i (range_with_len (k + 1) n)
    go true e f = inr (f (later k n i e) (within k n i r))
    go false e f = inl (same k i l e)

abbrev groups-by : List Group → Option Group → List Group
groups-by gs None = gs
groups-by gs (Some g) = g ∷ gs

first-is : {A : Type 0} (x y : A) (xs ys : List A) → x ∷ xs ≡ y ∷ ys → x ≡ y
first-is x y xs ys e = cc

others-are : {A : Type 0} (x y : A) (xs ys : List A) → x ∷ xs ≡ y ∷ ys → xs ≡ ys
others-are x y xs ys e = cc

not-empty : {A : Type 0} (x : A) (xs : List A) → x ∷ xs ≡ [] → ⊥
not-empty x xs e = cc

module _ (es : List Entry) (row : Row) where
  abbrev way : List Place → Context → Option Step → Way
  way address c last = record { address = address; context = c; last = last }

  abbrev ways-on : Step → List Step → List Turn → List Way
  ways-on s path ts = flat_map (λ t. map (through s t) (ways (row_turns es row) (Some s) t.context path)) ts

  abbrev place_at : Step → ℕ → Place
  place_at s n = record { step = s; occurrence = n }

  -- one element further
  further-way : (s : Step) (path : List Step) (t : Turn) (ts : List Turn) (address : List Place) (d : Context) (last : Option Step) → Among t ts
      → Among (way address d last) (ways (row_turns es row) (Some s) t.context path) →
      Among (way (place_at s t.occurrence ∷ address) d last) (ways-on s path ts)
  further-way s path t ts address d last k h =
      among-each (λ u. map (through s u) (ways (row_turns es row) (Some s) u.context path)) t ts (way (place_at s t.occurrence ∷ address) d last) k
      (among-map (through s t) (way address d last) (ways (row_turns es row) (Some s) t.context path) h)

  own-turns : (c : Context) (g : Group) → is_own row g ≡ true → row_turns es row c (Some g) ≡ group_turns es c.outer g
  own-turns c g e = ap row-by e
    where
      row-by : Bool → List Turn
      row-by true = group_turns es c.outer g
      row-by false = foreign_turns es row.repeats c g

  free-way : (last : Option Step) (c : Context) (path : List Step) (ns : List ℕ) → groups_of path ≡ [] →
      Among (way (address_along ns path) c (last_step last path)) (ways (row_turns es row) last c path)
  free-way last c [] ns e = inl refl
  free-way last c (s ∷ path) ns e = go s.group (λ k. free-way (Some s) c path ns k) e
    where
      go : (group : Option Group) → (groups_of path ≡ [] → Among (way (address_along ns path) c (last_step (Some s) path))
          (ways (row_turns es row) (Some s) c path))
          → groups-by (groups_of path) group ≡ []
          → Among (way (place_at s (next_number group ns) ∷ address_along (numbers_behind group ns) path) c (last_step (Some s) path))
          (ways-on s path (row_turns es row c group))
      go None ih e = further-way s path (record { occurrence = 1; context = c }) (row_turns es row c None) (address_along ns path) c (last_step (Some s) path)
          (inl refl) (ih e)
      go (Some g) ih e = absurd (not-empty g (groups_of path) e)

  one-way : (g : Group) (t : Turn) (last : Option Step) (c : Context) (path : List Step) (ns : List ℕ) → groups_of path ≡ g ∷ [] → is_own row g ≡ true →
      Among t (group_turns es c.outer g)
      → Among (way (address_along (t.occurrence ∷ ns) path) t.context (last_step last path)) (ways (row_turns es row) last c path)
  one-way g t last c [] ns e o k = absurd (not-empty g [] (sym e))
  one-way g t last c (s ∷ path) ns e o k = go s.group (λ m. one-way g t (Some s) c path ns m o k) e
    where
      go : (group : Option Group)
          → (groups_of path ≡ g ∷ [] → Among (way (address_along (t.occurrence ∷ ns) path) t.context (last_step (Some s) path))
          (ways (row_turns es row) (Some s) c path))
          → groups-by (groups_of path) group ≡ g ∷ []
          → Among (way (place_at s (next_number group (t.occurrence ∷ ns)) ∷ address_along (numbers_behind group (t.occurrence ∷ ns)) path) t.context
          (last_step (Some s) path))
          (ways-on s path (row_turns es row c group))
      go None ih e =
          further-way s path (record { occurrence = 1; context = c }) (row_turns es row c None) (address_along (t.occurrence ∷ ns) path) t.context
          (last_step (Some s) path) (inl refl) (ih e)
      go (Some f) ih e =
          subst (λ x. Among (way (place_at s t.occurrence ∷ address_along ns path) t.context (last_step (Some s) path))
          (ways-on s path (row_turns es row c (Some x))))
          (sym (first-is f g (groups_of path) [] e))
          (subst (λ ts. Among (way (place_at s t.occurrence ∷ address_along ns path) t.context (last_step (Some s) path)) (ways-on s path ts))
          (sym (own-turns c g o))
          (further-way s path t (group_turns es c.outer g) (address_along ns path) t.context (last_step (Some s) path) k
          (free-way (Some s) t.context path ns (others-are f g (groups_of path) [] e))))

  two-ways : (f g : Group) (t u : Turn) (last : Option Step) (c : Context) (path : List Step) → groups_of path ≡ f ∷ (g ∷ []) → is_own row f ≡ true →
      is_own row g ≡ true
      → Among t (group_turns es c.outer f) → Among u (group_turns es t.context.outer g)
      → Among (way (address_along (t.occurrence ∷ (u.occurrence ∷ [])) path) u.context (last_step last path)) (ways (row_turns es row) last c path)
  two-ways f g t u last c [] e o q k m = absurd (not-empty f (g ∷ []) (sym e))
  two-ways f g t u last c (s ∷ path) e o q k m = go s.group (λ n. two-ways f g t u (Some s) c path n o q k m) e
    where
      go : (group : Option Group)
          → (groups_of path ≡ f ∷ (g ∷ []) → Among (way (address_along (t.occurrence ∷ (u.occurrence ∷ [])) path) u.context (last_step (Some s) path))
          (ways (row_turns es row) (Some s) c path))
          → groups-by (groups_of path) group ≡ f ∷ (g ∷ [])
          → Among (way (place_at s (next_number group (t.occurrence ∷ (u.occurrence ∷ []))) ∷ address_along
          (numbers_behind group (t.occurrence ∷ (u.occurrence ∷ []))) path) u.context (last_step (Some s) path))
          (ways-on s path (row_turns es row c group))
      go None ih e =
          further-way s path (record { occurrence = 1; context = c }) (row_turns es row c None)
          (address_along (t.occurrence ∷ (u.occurrence ∷ [])) path) u.context (last_step (Some s) path) (inl refl) (ih e)
      go (Some x) ih e =
          subst (λ y. Among (way (place_at s t.occurrence ∷ address_along (u.occurrence ∷ []) path) u.context (last_step (Some s) path))
          (ways-on s path (row_turns es row c (Some y))))
          (sym (first-is x f (groups_of path) (g ∷ []) e))
          (subst (λ ts. Among (way (place_at s t.occurrence ∷ address_along (u.occurrence ∷ []) path) u.context (last_step (Some s) path)) (ways-on s path ts))
          (sym (own-turns c f o))
          (further-way s path t (group_turns es c.outer f) (address_along (u.occurrence ∷ []) path) u.context (last_step (Some s) path) k
          (one-way g u (Some s) t.context path [] (others-are x f (groups_of path) (g ∷ []) e) q m)))

slot-is : (o : Option Slot) (g : Group) → slot_group o ≡ Some g → (k : ℕ) × (o ≡ Some (record { group = g; index = k }))
slot-is None g e = absurd (let z : ◌≡◌ {A = Option Group} None (Some g) = e in cc)
slot-is (Some slot) g e = (slot.index, ap (λ (x : Group). Some (record { group = x; index = slot.index })) (inner slot.group g e))
  where
    inner : (x y : Group) → ◌≡◌ {A = Option Group} (Some x) (Some y) → x ≡ y
    inner x y e = cc

module _ (es : List Entry) (numbered : is_numbered es ≡ true) (row : Row) (term : Term) (fits : is_own_way row term ≡ true) (e : Entry) (among : Among e es)
    (outer : slot_group e.context.outer ≡ row.outer) (inner : slot_group e.context.inner ≡ row.inner) where
  own-outer : (f : Group) → row.outer ≡ Some f → is_own row f ≡ true
  own-outer f o = ap (λ x. same_or_none x (Some f) || same_or_none row.inner (Some f)) o ∙
      ap (λ b. b || same_or_none row.inner (Some f)) (group-itself (Some f))

  own-inner : (g : Group) → row.inner ≡ Some g → is_own row g ≡ true
  own-inner g i = ap (λ x. same_or_none row.outer (Some g) || same_or_none x (Some g)) i ∙
      (ap (λ b. same_or_none row.outer (Some g) || b) (group-itself (Some g)) ∙ or-true (same_or_none row.outer (Some g)))

  abbrev WayOf : Context → Type 0
  WayOf d = Among (record { address = address_along (numbers_of d) row.path; context = d; last = last_step None row.path })
      (ways (row_turns es row) None root_context row.path)

  entry-way : WayOf e.context
  entry-way =
      let a = both-true (pointwise same_group (groups_of row.path) (listed row.outer ++ listed row.inner)) _ fits in
      go row.outer row.inner refl refl (pointwise-sound same_group group-sound (groups_of row.path) (listed row.outer ++ listed row.inner) a.0)
      (both-true (is_some row.outer || is_none row.inner) _ a.1).0
    where
      go : (o i : Option Group) → row.outer ≡ o → row.inner ≡ i → groups_of row.path ≡ listed o ++ listed i → (is_some o || is_none i) ≡ true → WayOf e.context
      go None None o i p n =
          let x = no-slot e.context.outer (outer ∙ o) in
          let y = no-slot e.context.inner (inner ∙ i) in
          subst WayOf (λ z. record { outer = (sym x) z; inner = (sym y) z }) (free-way es row None root_context row.path [] p)
      go None (Some g) o i p n = absurd (false≢true n)
      go (Some f) None o i p n =
          let x = slot-is e.context.outer f (outer ∙ o) in
          let y = no-slot e.context.inner (inner ∙ i) in
          let w = outer-within es numbered f x.0 e among x.1 in
          subst WayOf (λ z. record { outer = (sym x.1) z; inner = (sym y) z })
          (one-way es row f (turn_of None f x.0) None root_context row.path [] p (own-outer f o)
          (among-map (turn_of None f) x.0 (range_with_len 1 (how_often es None f)) (range-among 1 (outer_count es f) x.0 w.0 w.1)))
      go (Some f) (Some g) o i p n =
          let x = slot-is e.context.outer f (outer ∙ o) in
          let y = slot-is e.context.inner g (inner ∙ i) in
          let slot : Slot = record { group = f; index = x.0 } in
          let w = outer-within es numbered f x.0 e among x.1 in
          let v = inner-within es numbered slot g y.0 e among x.1 y.1 in
          subst WayOf (λ z. record { outer = (sym x.1) z; inner = (sym y.1) z })
          (two-ways es row f g (turn_of None f x.0) (turn_of (Some slot) g y.0) None root_context row.path p (own-outer f o) (own-inner g i)
          (among-map (turn_of None f) x.0 (range_with_len 1 (how_often es None f)) (range-among 1 (outer_count es f) x.0 w.0 w.1))
          (among-map (turn_of (Some slot) g) y.0 (range_with_len 1 (how_often es (Some slot) g)) (range-among 1 (inner_count es slot g) y.0 v.0 v.1)))

  -- what the row says of the entry's context is a leaf at the entry's address
  pub entry-leaf : (said : Said) → Among said (said_of_row es row e.context (last_step None row.path)) →
      Among (leaf_at (address_in e.context row.path) said) (entry_leaves es row)
  entry-leaf said k =
      among-each (leaves_at es row) (record { address = address_in e.context row.path; context = e.context; last = last_step None row.path })
      (ways (row_turns es row) None root_context row.path)
      (leaf_at (address_in e.context row.path) said) entry-way
      (among-map (leaf_at (address_in e.context row.path)) said (said_of_row es row e.context (last_step None row.path)) k)
