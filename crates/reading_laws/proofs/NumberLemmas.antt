-- The occurrences of what is read are numbered from 1 without a gap.
use Rattle.std.proofs.Common.{◌≡◌, ℕ, Bool, true, false, ◌&&◌, ◌||◌, List, [], ◌∷◌, ◌++◌, filter, flat_map, ◌⊎◌, inl, inr, Option, Some, None, is_some}
use Rattle.std.proofs.Common.{option_map, refl, ap, sym, ◌∙◌}
use Rattle.std.specs.Prelude.{◌==◌, option_and_then, is_none}
use Rattle.std.specs.List.{list_any, list_all, AllByRecursion}
use Rattle.std.proofs.lemmas.Bool.{false≢true, eqb-true}
use Rattle.inv_base.specs.Tree.{Node, is_among}
use Rattle.term_table.specs.declared.groups.Group.{Group}
use Rattle.term_table.specs.declared.terms.Term.{Term}
use Rattle.term_table.specs.declared.terms.TermRow.{TermRow}
use Rattle.term_table.specs.declared.contexts.Slot.{Slot}
use Rattle.term_table.specs.declared.contexts.Context.{Context}
use Rattle.term_table.specs.SemanticModel.{same_term, terms, extension_rows, listing_rows}
use Rattle.term_table.specs.Groups.{parent_of, occurrence_of}
use Rattle.term_table.specs.Contexts.{outer_group, inner_group, same_groups, stands_in, same_slot, is_inside}
use Rattle.term_table.specs.Rows.{is_row_in}
use Rattle.term_table.proofs.GroupLemmas.{same_group_is, same_groups_is}
use Rattle.inv_terms.specs.declared.entries.Entry.{Entry}
use Rattle.inv_terms.specs.Listing.{occurs, is_counted, in_outer, in_inner, is_numbered}
use Rattle.inv_terms.proofs.PushLemmas.{same_slot_itself}
use Rattle.bind_rows.specs.declared.rows.Row.{Row}
use Rattle.bind_rows.specs.declared.rows.Form.{Form}
use Rattle.bind_rows.specs.Same.{same_or_none}
use Rattle.bind_meaning.specs.Elements.{string_at}
use Rattle.bind_meaning.specs.Picks.{Pick, term_in, carrier_in}
use Rattle.bind_meaning.specs.Seats.{Placed, placed, context_of, slot_of, listed, is_of_outer, is_of_inner, is_inside_of, outer_elements, inner_elements}
use Rattle.bind_meaning.specs.Seats.{place_among, outer_at, inner_at, inner_within}
use Rattle.bind_meaning.specs.Values.{ParsedValue, parsed}
use Rattle.bind_meaning.specs.Judging.{Told, told_by, parsed_by}
use Rattle.bind_meaning.specs.Terms.{told, place_all, entries}
use Rattle.reading_laws.specs.Nodes.{Rise}
use Rattle.reading_laws.proofs.ListLemmas.{both, and-true, or-right, any-map, any-here, any-of-flat, each-map, each-unmap, each-weaker, each-filter}
use Rattle.reading_laws.proofs.ListLemmas.{each-passes, each-both, tests-each, tests-hold}
use Rattle.reading_laws.proofs.SayingLemmas.{of-parsed, of-placed}
use Rattle.reading_laws.proofs.EntryLemmas.{HasValue, OfEntry, of-entries, seats-same}
use Rattle.bind_table.specs.Sound.{IsSoundRow}
use Rattle.reading_laws.proofs.RowLemmas.{IsPickOf}
use Rattle.reading_laws.proofs.PlaceLemmas.{IsKnown, known-in, some-place}
use Rattle.reading_laws.proofs.CountLemmas.{counted}

-- ---- an inner group stands in one outer group

is_within_one : Group → Bool
is_within_one group = elim (inner_group group) [ None ↦ true | Some inner ↦ same_groups (outer_group group) (outer_group inner) ]

terms-within : list_all (λ (row : TermRow). is_within_one row.group) listing_rows ≡ true
unfolding is_within_one terms extension_rows listing_rows parent_of occurrence_of
terms-within = refl

within-one : (group inner : Group) → is_within_one group ≡ true → inner_group group ≡ Some inner → outer_group group ≡ outer_group inner
unfolding is_within_one
within-one group inner h e = same_groups_is (outer_group group) (outer_group inner)
    (sym (ap (λ o. elim o [ None ↦ true | Some i ↦ same_groups (outer_group group) (outer_group i) ]) e) ∙ h)

known-outer : (row : Row) (term : Term) (inner : Group) → IsKnown row term → row.inner ≡ Some inner → row.outer ≡ outer_group inner
known-outer row term inner h e =
    let any = sym (some-place (is_row_in term row.outer row.inner) listing_rows) ∙ h in
    let w = any-here (λ (line : TermRow). is_within_one line.group ≡ true) (is_row_in term row.outer row.inner) listing_rows
    (tests-each (λ (line : TermRow). is_within_one line.group) listing_rows terms-within) any in
    let stands = (both (same_term w.0.term term) (stands_in w.0.group row.outer row.inner) w.2).1 in
    let v = both (same_groups row.outer (outer_group w.0.group)) (same_groups row.inner (inner_group w.0.group)) stands in
    same_groups_is row.outer (outer_group w.0.group) v.0 ∙ within-one w.0.group inner w.1 (sym (same_groups_is row.inner (inner_group w.0.group) v.1) ∙ e)

-- ---- each pick says something

abbrev Full : List ParsedValue → Type 0
Full all = list_any (λ s. true) all ≡ true

parsed-full : (form : Form) (term : Term) (string : List ℕ) → Full (parsed form term string)
parsed-full form term string = of-parsed Full term (λ value. refl) (λ e text code. refl) form string

-- ---- so where a pick stands something is told

term-there : (o : Option Term) → is_some o ≡ true → (term : Term) × (o ≡ Some term)
term-there None h = absurd (false≢true h)
term-there (Some term) h = (term, refl)

module _ (nodes : List Node) (picks : List Pick) where
  abbrev all_told : List Told
  all_told = told nodes (place_all nodes picks)

  -- what holds of the pick's context holds of that of something told
  abbrev Tells : Pick → Type 0
  Tells pick = (q : Context → Bool) → q (context_of (placed nodes picks pick)) ≡ true → list_any (λ t. q (context_of t.placed)) all_told ≡ true

  told-there : (p : Placed) (term : Term) → term_in p.pick.row.content ≡ Some term → (q : Context → Bool) → q (context_of p) ≡ true
      → list_any (λ t. q (context_of t.placed)) (told_by nodes p) ≡ true
  told-there p term e q h =
      any-map (λ s. record { placed = p; parsed = s }) (λ t. q (context_of t.placed)) (parsed_by nodes p)
      ∙ (ap (λ b. list_any (λ (s : ParsedValue). b) (parsed_by nodes p)) h
      ∙ (ap (λ (o : Option Term). list_any (λ (s : ParsedValue). true) (elim o [
        | None ↦ []
        | Some t ↦ parsed p.pick.row.form t (string_at nodes p.pick.node)
      ])) e
      ∙ parsed-full p.pick.row.form term (string_at nodes p.pick.node)))

  all-tell : (R : Row → Type 0) → AllByRecursion (IsPickOf R) picks → AllByRecursion Tells picks
  all-tell R h =
      each-weaker (λ pick. IsPickOf R pick × ((q : Told → Bool) → list_any q (told_by nodes (placed nodes picks pick)) ≡ true
      → list_any q all_told ≡ true)) Tells
      (λ pick w q k. (let t = term-there (term_in pick.row.content) w.0.term in
      w.1 (λ t. q (context_of t.placed)) (told-there (placed nodes picks pick) t.0 t.1 q k))) picks
      (each-both (IsPickOf R) (λ pick. (q : Told → Bool) → list_any q (told_by nodes (placed nodes picks pick)) ≡ true → list_any q all_told ≡ true) picks h
      (each-unmap (λ p. (q : Told → Bool) → list_any q (told_by nodes p) ≡ true → list_any q all_told ≡ true) (placed nodes picks) picks
      (any-of-flat (told_by nodes) (place_all nodes picks))))

  -- ---- elements of groups

  among-append : (m : ℕ) (xs ys : List ℕ) → is_among m (xs ++ ys) ≡ true → (is_among m xs ≡ true) ⊎ (is_among m ys ≡ true)
  among-append m [] ys h = inr h
  among-append m (x ∷ xs) ys h = go (m == x) h (among-append m xs ys)
    where
      go : (b : Bool) → (b || is_among m (xs ++ ys)) ≡ true → (is_among m (xs ++ ys) ≡ true → (is_among m xs ≡ true) ⊎ (is_among m ys ≡ true))
          → ((b || is_among m xs) ≡ true) ⊎ (is_among m ys ≡ true)
      go true k f = inl refl
      go false k f = f k

  among-flat : {X : Type 0} (P : X → Type 0) (f : X → List ℕ) (m : ℕ) (xs : List X) → AllByRecursion P xs → is_among m (flat_map f xs) ≡ true
      → (x : X) × P x × (is_among m (f x) ≡ true)
  among-flat P f m [] all h = absurd (false≢true h)
  among-flat P f m (x ∷ xs) all h = elim (among-append m (f x) (flat_map f xs) h) [ inl k ↦ (x, all.0, k) | inr k ↦ among-flat P f m xs all.1 k ]

  is-listed-one : (m : ℕ) (o : Option ℕ) → is_among m (listed o) ≡ true → o ≡ Some m
  is-listed-one m None h = absurd (false≢true h)
  is-listed-one m (Some n) h = go (m == n) refl h
    where
      go : (b : Bool) → (m == n) ≡ b → (b || false) ≡ true → Some n ≡ Some m
      go true e k = ap Some (sym (eqb-true m n e))
      go false e k = absurd (false≢true k)

  group-is : (o : Option Group) (group : Group) → same_or_none o (Some group) ≡ true → o ≡ Some group
  group-is None group h = absurd (false≢true h)
  group-is (Some g) group h = ap Some (same_group_is g group h)

  -- the outer slot of a pick whose element is this one
  abbrev outer_slot : Group → ℕ → Slot
  outer_slot group n = record { group = group; index = place_among nodes (outer_elements picks group) n }

  abbrev inner_slot : Group → ℕ → Group → ℕ → Slot
  inner_slot outer n group m = record { group = group; index = place_among nodes (inner_elements picks outer n group) m }

  outer-is : (pick : Pick) (group : Group) (n : ℕ) → pick.row.outer ≡ Some group → carrier_in pick group ≡ Some n
      → (context_of (placed nodes picks pick)).outer ≡ Some (outer_slot group n)
  outer-is pick group n e f =
      ap (λ o. slot_of (option_and_then (λ g. option_map (outer_at nodes picks g) (carrier_in pick g)) o)) e
      ∙ ap (λ o. slot_of (option_map (outer_at nodes picks group) o)) f

  inner-is : (pick : Pick) (outer : Group) (n : ℕ) (group : Group) (m : ℕ) → pick.row.outer ≡ Some outer → carrier_in pick outer ≡ Some n
      → pick.row.inner ≡ Some group → carrier_in pick group ≡ Some m
      → (context_of (placed nodes picks pick)).inner ≡ Some (inner_slot outer n group m)
  inner-is pick outer n group m e f g h =
      ap (λ o. slot_of (option_and_then (λ x. option_and_then (inner_within nodes picks pick x) (carrier_in pick x)) o)) e
      ∙ (ap (λ o. slot_of (option_and_then (inner_within nodes picks pick outer) o)) f
      ∙ (ap (λ o. slot_of (option_and_then (λ x. option_map (inner_at nodes picks outer n x) (carrier_in pick x)) o)) g
      ∙ ap (λ o. slot_of (option_map (inner_at nodes picks outer n group) o)) h))

  module _ (rows : List Row) (rise : Rise 0 nodes) (sound : AllByRecursion (IsPickOf (IsSoundRow rows)) picks) (valued : AllByRecursion HasValue all_told) where
    es : List Entry
    es = entries all_told

    occurs-told : (c : Context) → list_any (λ t. is_inside c (context_of t.placed)) all_told ≡ true → occurs es c ≡ true
    unfolding es
    occurs-told c h = seats-same (λ seat. is_inside c seat.context) all_told valued ∙ h

    inside-outer : (slot : Slot) (c : Context) → c.outer ≡ Some slot → is_inside (in_outer slot) c ≡ true
    inside-outer slot c e = ap (λ o. same_slot (Some slot) o && true) e ∙ ap (λ b. b && true) (same_slot_itself (Some slot))

    inside-inner : (outer : Option Slot) (slot : Slot) (c : Context) → c.outer ≡ outer → c.inner ≡ Some slot → is_inside (in_inner outer slot) c ≡ true
    inside-inner outer slot c e f =
        and-true (is_none outer || same_slot outer c.outer) (same_slot (Some slot) c.inner)
        (or-right (is_none outer) (same_slot outer c.outer) (ap (same_slot outer) e ∙ same_slot_itself outer))
        (ap (same_slot (Some slot)) f ∙ same_slot_itself (Some slot))

    outer-occurs : (group : Group) (m : ℕ) → is_among m (outer_elements picks group) ≡ true → occurs es (in_outer (outer_slot group m)) ≡ true
    outer-occurs group m h =
        let own = filter (is_of_outer group) picks in
        let all = each-both Tells (λ pick. is_of_outer group pick ≡ true) own (each-filter Tells (is_of_outer group) picks (all-tell (IsSoundRow rows) sound))
        (each-passes (is_of_outer group) picks) in
        let w = among-flat (λ pick. Tells pick × (is_of_outer group pick ≡ true)) (λ pick. listed (carrier_in pick group)) m own all h in
        let outer = outer-is w.0 group m (group-is w.0.row.outer group w.1.1) (is-listed-one m (carrier_in w.0 group) w.2) in
        occurs-told (in_outer (outer_slot group m))
        (w.1.0 (is_inside (in_outer (outer_slot group m))) (inside-outer (outer_slot group m) (context_of (placed nodes picks w.0)) outer))

    outer-counted : (pick : Pick) → is_counted es in_outer (context_of (placed nodes picks pick)).outer ≡ true
    outer-counted pick = by pick.row.outer
      where
        at : (group : Group) (n : Option ℕ) → is_counted es in_outer (slot_of (option_map (outer_at nodes picks group) n)) ≡ true
        at group None = refl
        at group (Some n) = counted nodes rise es in_outer group (outer_elements picks group) n (outer-occurs group)

        by : (o : Option Group) → is_counted es in_outer
            (slot_of (option_and_then (λ group. option_map (outer_at nodes picks group) (carrier_in pick group)) o)) ≡ true
        by None = refl
        by (Some group) = at group (carrier_in pick group)

    inner-occurs : (outer : Group) (n : ℕ) (group : Group) → outer_group group ≡ Some outer → (m : ℕ) → is_among m (inner_elements picks outer n group) ≡ true
        → occurs es (in_inner (Some (outer_slot outer n)) (inner_slot outer n group m)) ≡ true
    inner-occurs outer n group around m h =
        let test : Pick → Bool = λ pick. is_of_inner group pick && is_inside_of outer n pick in
        let own = filter test picks in
        let all = each-both (λ pick. Tells pick × IsPickOf (IsSoundRow rows) pick) (λ pick. test pick ≡ true) own
        (each-filter (λ pick. Tells pick × IsPickOf (IsSoundRow rows) pick) test picks
        (each-both Tells (IsPickOf (IsSoundRow rows)) picks (all-tell (IsSoundRow rows) sound) sound)) (each-passes test picks) in
        let w = among-flat (λ pick. (Tells pick × IsPickOf (IsSoundRow rows) pick) × (test pick ≡ true)) (λ pick. listed (carrier_in pick group)) m own all h in
        let pick = w.0 in
        let s = w.1.0.1 in
        let t = both (is_of_inner group pick) (is_inside_of outer n pick) w.1.1 in
        let inner : pick.row.inner ≡ Some group = group-is pick.row.inner group t.0 in
        let term = term-there (term_in pick.row.content) s.term in
        let out : pick.row.outer ≡ Some outer = known-outer pick.row term.0 group (known-in pick.row term.0 pick.row.content s.row.known term.1) inner
        ∙ around in
        let carried : carrier_in pick outer ≡ Some n = is-listed-one n (carrier_in pick outer) t.1 in
        let there : carrier_in pick group ≡ Some m = is-listed-one m (carrier_in pick group) w.2 in
        let c = context_of (placed nodes picks pick) in
        occurs-told (in_inner (Some (outer_slot outer n)) (inner_slot outer n group m))
        (w.1.0.0 (is_inside (in_inner (Some (outer_slot outer n)) (inner_slot outer n group m)))
        (inside-inner (Some (outer_slot outer n)) (inner_slot outer n group m) c (outer-is pick outer n out carried)
        (inner-is pick outer n group m out carried inner there)))

    inner-counted : (pick : Pick) → IsPickOf (IsSoundRow rows) pick
        → is_counted es (in_inner (context_of (placed nodes picks pick)).outer) (context_of (placed nodes picks pick)).inner ≡ true
    inner-counted pick s = by pick.row.outer refl
      where
        c : Context
        c = context_of (placed nodes picks pick)

        last : (outer : Group) (n : ℕ) (group : Group) → c.outer ≡ Some (outer_slot outer n) → outer_group group ≡ Some outer → (m : Option ℕ)
            → is_counted es (in_inner c.outer) (slot_of (option_map (inner_at nodes picks outer n group) m)) ≡ true
        last outer n group e around None = refl
        last outer n group e around (Some m) =
            ap (λ o. is_counted es (in_inner o) (Some (inner_slot outer n group m))) e
            ∙ counted nodes rise es (in_inner (Some (outer_slot outer n))) group (inner_elements picks outer n group) m (inner-occurs outer n group around)

        within : (outer : Group) (n : ℕ) → pick.row.outer ≡ Some outer → c.outer ≡ Some (outer_slot outer n) → (i : Option Group) → pick.row.inner ≡ i
            → is_counted es (in_inner c.outer) (slot_of (option_and_then (λ group. option_map (inner_at nodes picks outer n group) (carrier_in pick group)) i))
            ≡ true
        within outer n out e None f = refl
        within outer n out e (Some group) f =
            let term = term-there (term_in pick.row.content) s.term in
            last outer n group e (sym (known-outer pick.row term.0 group (known-in pick.row term.0 pick.row.content s.row.known term.1) f) ∙ out)
            (carrier_in pick group)

        at : (outer : Group) → pick.row.outer ≡ Some outer → (n : Option ℕ) → carrier_in pick outer ≡ n
            → is_counted es (in_inner c.outer) (slot_of (option_and_then (inner_within nodes picks pick outer) n)) ≡ true
        at outer out None e = refl
        at outer out (Some n) e = within outer n out (outer-is pick outer n out e) pick.row.inner refl

        by : (o : Option Group) → pick.row.outer ≡ o
            → is_counted es (in_inner c.outer) (slot_of
            (option_and_then (λ outer. option_and_then (inner_within nodes picks pick outer) (carrier_in pick outer)) o)) ≡ true
        by None e = refl
        by (Some outer) e = at outer e (carrier_in pick outer) refl

    abbrev IsCounted : Context → Type 0
    IsCounted c = (is_counted es in_outer c.outer && is_counted es (in_inner c.outer) c.inner) ≡ true

    pick-counted : (pick : Pick) → IsPickOf (IsSoundRow rows) pick → IsCounted (context_of (placed nodes picks pick))
    pick-counted pick s =
        let c = context_of (placed nodes picks pick) in
        and-true (is_counted es in_outer c.outer) (is_counted es (in_inner c.outer) c.inner) (outer-counted pick) (inner-counted pick s)

    told-counted : AllByRecursion (λ t. IsCounted (context_of t.placed)) all_told
    told-counted =
        of-placed (λ p. IsCounted (context_of p)) nodes
        (place_all nodes picks) (each-map (λ p. IsCounted (context_of p)) (placed nodes picks) picks
        (each-weaker (IsPickOf (IsSoundRow rows)) (λ pick. IsCounted (context_of (placed nodes picks pick))) pick-counted picks sound))

    pub entries-numbered : is_numbered (entries all_told) ≡ true
    unfolding es
    entries-numbered =
        tests-hold (λ (e : Entry). is_counted es in_outer e.context.outer && is_counted es (in_inner e.context.outer) e.context.inner) (entries all_told)
        (of-entries (λ (e : Entry). IsCounted e.context) all_told
        (each-weaker (λ t. IsCounted (context_of t.placed)) (OfEntry (λ (e : Entry). IsCounted e.context)) (λ t h value e. h) all_told told-counted))
