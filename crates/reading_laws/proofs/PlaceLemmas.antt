-- Each term that is told stands in a context that it has.
use Rattle.std.proofs.Common.{◌≡◌, ℕ, suc, ◌+◌, Bool, true, false, not, ◌||◌, cond, List, [], ◌∷◌, length, Option, Some, None, is_some, is_none, option_map}
use Rattle.std.proofs.Common.{refl, ap, sym, ◌∙◌, subst, arith}
use Rattle.std.specs.Prelude.{nat_lt, option_and_then, position}
use Rattle.std.specs.List.{list_any, position_or_len}
use Rattle.std.specs.List.{AllByRecursion}
use Rattle.std.proofs.lemmas.Bool.{false≢true}
use Rattle.std.proofs.lemmas.Bool.Decides.{nat_tests}
use Rattle.inv_base.specs.Tree.{Node}
use Rattle.term_table.specs.declared.groups.Group.{Group}
use Rattle.term_table.specs.declared.terms.Term.{Term}
use Rattle.term_table.specs.declared.contexts.Slot.{Slot}
use Rattle.term_table.specs.declared.contexts.Context.{Context}
use Rattle.term_table.specs.declared.contexts.Seat.{Seat}
use Rattle.term_table.specs.SemanticModel.{terms, extension_rows, listing_rows}
use Rattle.term_table.specs.Contexts.{slot_group}
use Rattle.term_table.specs.Rows.{is_row_in, row_in}
use Rattle.term_table.specs.Places.{place, seat_place}
use Rattle.term_table.proofs.SeatLemmas.{placed_outer}
use Rattle.bind_rows.specs.declared.rows.Row.{Row}
use Rattle.bind_rows.specs.declared.rows.Step.{Step}
use Rattle.bind_rows.specs.declared.rows.Form.{Form}
use Rattle.bind_rows.specs.declared.rows.Content.{Content}
use Rattle.bind_rows.specs.declared.rows.Content.TheVariants as contents
use Rattle.bind_rows.specs.Same.{same_or_none, choose}
use Rattle.bind_table.specs.WellFormed.{is_placed, is_carried, is_carried_once, depth_of}
use Rattle.bind_meaning.specs.Elements.{string_at}
use Rattle.bind_meaning.specs.Picks.{Pick, term_in, carrier, carrier_in}
use Rattle.bind_meaning.specs.Seats.{placed, context_of, slot_of, outer_at, inner_at, inner_within}
use Rattle.bind_meaning.specs.Values.{ParsedValue, parsed, note, subject_code}
use Rattle.bind_meaning.specs.Terms.{told, place_all}
use Rattle.reading_laws.proofs.ListLemmas.{both, each-map, each-weaker}
use Rattle.reading_laws.proofs.EntryLemmas.{HasPlace}
use Rattle.reading_laws.proofs.SayingLemmas.{of-parsed, of-told}
use Rattle.bind_table.specs.Sound.{is_unplaced, IsSoundRow}
use Rattle.reading_laws.proofs.RowLemmas.{IsPickOf}

-- ---- where a row's element carries a group, each way along its path has that element

less-step : (d l : ℕ) → nat_lt (1 + d) (suc l) ≡ true → nat_lt d l ≡ true
less-step d l h = grind (arith, nat_tests)

none-less : (l : ℕ) → nat_lt l 0 ≡ true → ⊥
none-less l h = grind (arith, nat_tests)

carrier-there : (group : Group) (path : List Step) (way : List ℕ) → length way ≡ length path → nat_lt (depth_of group path) (length path) ≡ true
    → is_some (carrier group path way) ≡ true
carrier-there group [] way l h = absurd (none-less 0 h)
carrier-there group (step ∷ path) [] l h = absurd (let z : 0 ≡ suc (length path) = l in omega arith)
carrier-there group (step ∷ path) (n ∷ way) l h =
    go (same_or_none step.group (Some group)) h (carrier-there group path way (let z : suc (length way) ≡ suc (length path) = l in omega arith))
  where
    go : (b : Bool) → nat_lt (choose b (λ _. 0) (λ _. 1 + depth_of group path)) (suc (length path)) ≡ true
        → (nat_lt (depth_of group path) (length path) ≡ true → is_some (carrier group path way) ≡ true)
        → is_some (elim b [ true ↦ Some n | false ↦ carrier group path way ]) ≡ true
    go true k f = refl
    go false k f = f (less-step (depth_of group path) (length path) k)

-- the element of an outer or an inner group of a row that is placed
pub carried : (rows : List Row) (pick : Pick) (group : Group) → length pick.elements ≡ length pick.row.path → is_placed rows pick.row (Some group) ≡ true
    → is_some (carrier_in pick group) ≡ true
carried rows pick group l h = carrier-there group pick.row.path pick.elements l (both (is_carried group pick.row) (is_carried_once group rows) h).0

-- ---- the groups of its context are the row's

no-outer : (term : Term) (group : Group) → is_some (row_in term None (Some group)) ≡ true → ⊥
no-outer term group h =
    let seat : Seat = record { term = term; context = record { outer = None; inner = Some (record { group = group; index = 0 }) } } in
    let w = placed_outer seat (go (row_in term None (Some group)) h) (record { group = group; index = 0 }) refl in
    let z : ◌≡◌ {A = Option Slot} None (Some w.0) = w.1 in cc
  where
    go : (o : Option ℕ) → is_some o ≡ true → is_some
        (option_map (λ row. place row (record { outer = None; inner = Some (record { group = group; index = 0 }) })) o) ≡ true
    go None k = k
    go (Some n) k = refl

-- the term is one of the row's context
abbrev pub IsKnown : Row → Term → Type 0
IsKnown row term = is_some (row_in term row.outer row.inner) ≡ true

not-none : (o : Option ℕ) → is_none o ≡ false → is_some o ≡ true
not-none None l = absurd (false≢true (sym l))
not-none (Some n) l = refl

pub known-in : (row : Row) (term : Term) (content : Content) → is_unplaced row content ≡ false → term_in content ≡ Some term → IsKnown row term
known-in row term (contents.Term t) k f = subst (IsKnown row) (let z : t ≡ term = cc in z) (not-none (row_in t row.outer row.inner) k)
known-in row term (contents.Constant text) k f = absurd (let z : ◌≡◌ {A = Option Term} None (Some term) = f in cc)

-- ---- a note's subject code has the contexts of the note

less-same : (d l : ℕ) → nat_lt (1 + d) (suc l) ≡ nat_lt d l
less-same d l = go (nat_lt d l) refl
  where
    go : (b : Bool) → nat_lt d l ≡ b → nat_lt (1 + d) (suc l) ≡ b
    go true h = grind (arith, nat_tests)
    go false h = grind (arith, nat_tests)

less-first : (l : ℕ) → nat_lt 0 (suc l) ≡ true
less-first l = grind (arith, nat_tests)

place-there : {X : Type 0} (p : X → Bool) (xs : List X) → nat_lt (position_or_len p xs) (length xs) ≡ list_any p xs
place-there p [] = refl
place-there p (x ∷ xs) = go (p x) (place-there p xs)
  where
    go : (b : Bool) → nat_lt (position_or_len p xs) (length xs) ≡ list_any p xs
        → nat_lt (cond (not b) (1 + position_or_len p xs) 0) (suc (length xs)) ≡ (b || list_any p xs)
    go true h = less-first (length xs)
    go false h = less-same (position_or_len p xs) (length xs) ∙ h

pub some-place : {X : Type 0} (p : X → Bool) (xs : List X) → is_some (position p xs) ≡ list_any p xs
some-place p xs = go (nat_lt (position_or_len p xs) (length xs)) ∙ place-there p xs
  where
    go : (b : Bool) → is_some (cond b (Some (position_or_len p xs)) None) ≡ b
    go true = refl
    go false = refl

beside-note : (outer inner : Option Group) → list_any (is_row_in note outer inner) listing_rows ≡ list_any (is_row_in subject_code outer inner) listing_rows
unfolding terms extension_rows listing_rows
beside-note outer inner = refl

code-known : (row : Row) → IsKnown row note → IsKnown row subject_code
code-known row h =
    some-place (is_row_in subject_code row.outer row.inner) listing_rows
    ∙ (sym (beside-note row.outer row.inner) ∙ (sym (some-place (is_row_in note row.outer row.inner) listing_rows) ∙ h))

-- ---- so all that a row says has its context

abbrev AllKnown : Row → List ParsedValue → Type 0
AllKnown row all = AllByRecursion (λ s. IsKnown row s.term) all

parsed-known : (row : Row) (form : Form) (term : Term) (string : List ℕ) → IsKnown row term → AllKnown row (parsed form term string)
parsed-known row form term string k =
    of-parsed (AllKnown row) term (λ value. (k, tt))
    (λ e text code. (let h : IsKnown row note = subst (IsKnown row) e k in (h, (code-known row h, tt)))) form string

module _ (rows : List Row) (nodes : List Node) (picks : List Pick) where
  outer-group : (pick : Pick) (o : Option Group) → length pick.elements ≡ length pick.row.path → is_placed rows pick.row o ≡ true
      → slot_group (slot_of (option_and_then (λ group. option_map (outer_at nodes picks group) (carrier_in pick group)) o)) ≡ o
  outer-group pick None l h = refl
  outer-group pick (Some group) l h = go (carrier_in pick group) (carried rows pick group l h)
    where
      go : (n : Option ℕ) → is_some n ≡ true → slot_group (slot_of (option_map (outer_at nodes picks group) n)) ≡ Some group
      go None k = absurd (false≢true k)
      go (Some n) k = refl

  within-group : (pick : Pick) (outer : Group) (n : ℕ) (i : Option Group) → length pick.elements ≡ length pick.row.path → is_placed rows pick.row i ≡ true
      → slot_group (slot_of (option_and_then (λ group. option_map (inner_at nodes picks outer n group) (carrier_in pick group)) i)) ≡ i
  within-group pick outer n None l h = refl
  within-group pick outer n (Some group) l h = go (carrier_in pick group) (carried rows pick group l h)
    where
      go : (m : Option ℕ) → is_some m ≡ true → slot_group (slot_of (option_map (inner_at nodes picks outer n group) m)) ≡ Some group
      go None k = absurd (false≢true k)
      go (Some m) k = refl

  inner-group : (pick : Pick) (o i : Option Group) → pick.row.inner ≡ i → (o ≡ None → i ≡ None) → length pick.elements ≡ length pick.row.path
      → is_placed rows pick.row o ≡ true → is_placed rows pick.row i ≡ true
      → slot_group (slot_of (option_and_then (λ outer. option_and_then (inner_within nodes picks pick outer) (carrier_in pick outer)) o)) ≡ i
  inner-group pick None i e none l h k = sym (none refl)
  inner-group pick (Some outer) i e none l h k = go (carrier_in pick outer) (carried rows pick outer l h)
    where
      go : (n : Option ℕ) → is_some n ≡ true → slot_group (slot_of (option_and_then (inner_within nodes picks pick outer) n)) ≡ i
      go None m = absurd (false≢true m)
      go (Some n) m =
          ap (λ j. slot_group (slot_of (option_and_then (λ group. option_map (inner_at nodes picks outer n group) (carrier_in pick group)) j))) e
          ∙ within-group pick outer n i l k

  -- the context of a pick has the groups of its row
  pub record HasGroups (pick : Pick) : Type 0 where
    pub outer : slot_group (context_of (placed nodes picks pick)).outer ≡ pick.row.outer
    pub inner : slot_group (context_of (placed nodes picks pick)).inner ≡ pick.row.inner

  none-inside : (row : Row) (term : Term) → IsKnown row term → row.outer ≡ None → (i : Option Group) → row.inner ≡ i → i ≡ None
  none-inside row term h e None f = refl
  none-inside row term h e (Some group) f =
      absurd (no-outer term group (ap (λ o. is_some (row_in term o (Some group))) (sym e) ∙ (ap (λ i. is_some (row_in term row.outer i)) (sym f) ∙ h)))

  pub has-groups : (pick : Pick) (term : Term) → IsPickOf (IsSoundRow rows) pick → term_in pick.row.content ≡ Some term → HasGroups pick
  has-groups pick term s e = record {
    outer = outer-group pick pick.row.outer s.long s.row.outer;
    inner = inner-group pick pick.row.outer pick.row.inner refl
        (λ f. none-inside pick.row term (known-in pick.row term pick.row.content s.row.known e) f pick.row.inner refl) s.long s.row.outer s.row.inner;
  }

  placed-by : (term : Term) (c : Context) (o i : Option Group) → slot_group c.outer ≡ o → slot_group c.inner ≡ i → is_some (row_in term o i) ≡ true
      → is_some (seat_place (record { term = term; context = c })) ≡ true
  placed-by term c o i e f h = go (row_in term (slot_group c.outer) (slot_group c.inner))
      (ap (λ x. is_some (row_in term x (slot_group c.inner))) e ∙ (ap (λ x. is_some (row_in term o x)) f ∙ h))
    where
      go : (n : Option ℕ) → is_some n ≡ true → is_some (option_map (λ row. place row c) n) ≡ true
      go None k = k
      go (Some n) k = refl

  pub told-placed : AllByRecursion (IsPickOf (IsSoundRow rows)) picks → AllByRecursion HasPlace (told nodes (place_all nodes picks))
  told-placed h =
      of-told HasPlace (λ p. IsPickOf (IsSoundRow rows) p.pick × (p ≡ placed nodes picks p.pick)) nodes
      (λ p term w e.
      let s = w.0 in
      let g = has-groups p.pick term s e in
      each-weaker (λ x. IsKnown p.pick.row x.term) (λ x. HasPlace (record { placed = p; parsed = x }))
      (λ x k. subst (λ q. is_some (seat_place (record { term = x.term; context = context_of q })) ≡ true) (sym w.1)
      (placed-by x.term (context_of (placed nodes picks p.pick)) p.pick.row.outer p.pick.row.inner g.outer g.inner k))
      (parsed p.pick.row.form term (string_at nodes p.pick.node))
      (parsed-known p.pick.row p.pick.row.form term (string_at nodes p.pick.node) (known-in p.pick.row term p.pick.row.content s.row.known e)))
      (place_all nodes picks)
      (each-map (λ p. IsPickOf (IsSoundRow rows) p.pick × (p ≡ placed nodes picks p.pick)) (placed nodes picks) picks
      (each-weaker (IsPickOf (IsSoundRow rows)) (λ pick. IsPickOf (IsSoundRow rows) pick × (placed nodes picks pick ≡ placed nodes picks pick))
      (λ pick s. (s, refl)) picks h))
