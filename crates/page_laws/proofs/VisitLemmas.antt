-- The page visits the seat of each entry of an invoice once.
use Rattle.std.proofs.Common.{◌≡◌, ◌≢◌, ℕ, ◌+◌, ◌≤◌, Bool, true, false, ◌&&◌, List, [], ◌∷◌, refl, ap, ap₂, sym, ◌∙◌, true≢false}
use Rattle.std.specs.Prelude.{Option, Some, None, is_some, filter, find, option_map, flat_map, if◌then◌else◌}
use Rattle.std.proofs.lemmas.Bool.{and_from, and_right, eq-eqb}
use Rattle.term_table.specs.declared.groups.Group.{Group}
use Rattle.term_table.specs.declared.terms.Term.{Term}
use Rattle.term_table.specs.declared.contexts.Context.{Context}
use Rattle.term_table.specs.declared.contexts.Seat.{Seat}
use Rattle.term_table.specs.Contexts.{slot_group, same_groups, same_context}
use Rattle.term_table.specs.SemanticModel.{same_term, is_extension}
use Rattle.term_table.proofs.SeatLemmas.{same_term_is}
use Rattle.inv_terms.specs.declared.entries.Entry.{Entry}
use Rattle.inv_terms.specs.Listing.{seat_of, is_at}
use Rattle.inv_terms.proofs.ContextLemmas.{context_is}
use Rattle.inv_terms.proofs.PushLemmas.{same_slot_itself}
use Rattle.page_tables.specs.declared.forms.Form.{Form}
use Rattle.page_tables.specs.declared.forms.Form.TheVariants as forms
use Rattle.page_tables.specs.Tables.{Part, Item}
use Rattle.page_tables.specs.Standing.{Standing, standing}
use Rattle.page_tables.specs.Standing as standings
use Rattle.page_values.specs.Places.{Place, numbers_to, count_in, occurrence, value_at}
use Rattle.page_layouts.specs.Layouts.{is_added}
use Rattle.page_laws.specs.Visits.{of_term, of_parts, of_added, of_form, of_one, of_item, of_layout, is_seat}
use Rattle.page_laws.proofs.SeatLemmas.{seat-is, is_of}
use Rattle.page_laws.proofs.StandingLemmas.{term_standings, part_standings, added_standings, form_standings, one_standings, in_group, inside_group}
use Rattle.page_laws.proofs.StandingLemmas.{item_standings, layout_standings}
use Rattle.page_laws.proofs.TallyLemmas.{tally, bit, tally-append, tally-one, tally-none, tally-kept, tally-dropped, tally-map, tally-found, tally-numbers}
use Rattle.page_laws.proofs.TallyLemmas.{tally-both, tally-row}

-- ---- truth values

kept : (b m d : Bool) → (m ≡ true → d ≡ true → b ≡ true) → (b && (m && d)) ≡ (m && d)
kept true m d h = refl
kept false true true h = absurd (true≢false (sym (h refl refl)))
kept false true false h = refl
kept false false d h = refl

pub both-ways : (a b : Bool) → (a ≡ true → b ≡ true) → (b ≡ true → a ≡ true) → a ≡ b
both-ways true true h k = refl
both-ways true false h k = sym (h refl)
both-ways false true h k = k refl
both-ways false false h k = refl

some-value : (o : Option Entry) → is_some o ≡ true → is_some (option_map (λ (e : Entry). e.value) o) ≡ true
some-value None h = h
some-value (Some e) h = refl

pub same-context-itself : (c : Context) → same_context c c ≡ true
same-context-itself c = and_from _ _ (same_slot_itself c.outer) (same_slot_itself c.inner)

same-back : (a b : Context) → same_context a b ≡ same_context b a
same-back a b =
    both-ways (same_context a b) (same_context b a)
    (λ h. ap (same_context b) (context_is a b h) ∙ same-context-itself b) (λ h. ap (same_context a) (context_is b a h) ∙ same-context-itself a)

pub same-term-itself : (t : Term) → same_term t t ≡ true
same-term-itself t = and_from _ _ (eq-eqb t.number t.number refl) (eq-eqb t.part t.part refl)

-- ---- the seat that is sought

module _ (own : Term) (c : Context) where
  abbrev pub sought : Seat
  sought = record { term = own; context = c }

  abbrev pub visit : Seat → Bool
  visit v = is_seat sought v

  abbrev pub stands : Standing → Bool
  stands s = standings.is_at (slot_group c.outer) (slot_group c.inner) own s

  -- A place whose context matches where the groups do, and which has the entry where it matches.
  pub record IsRight (place : Place) (outer inner : Option Group) : Type 0 where
    pub contexts : same_context place.context c ≡ (same_groups outer (slot_group c.outer) && same_groups inner (slot_group c.inner))
    pub once : tally (is_of sought) place.entries ≡ 1

  is-of : (e : Entry) → is_of sought e ≡ true → (e.term ≡ own) × (e.context ≡ c)
  is-of e h = let s = seat-is sought (seat_of e) h in (ap (λ (x : Seat). x.term) s, ap (λ (x : Seat). x.context) s)

  module _ (place : Place) (outer inner : Option Group) (right : IsRight place outer inner) where
    shows : (term : Term) → same_term term own ≡ true → same_context place.context c ≡ true → is_some (value_at place term) ≡ true
    shows term h k =
        let also : (e : Entry) → is_of sought e ≡ true → is_at term place.context e ≡ true = λ e f.
        ap₂ (λ t x. same_term e.term t && same_context e.context x) (same_term_is term own h) (context_is place.context c k) ∙ f in
        some-value (find (is_at term place.context) place.entries) (tally-found (is_of sought) (is_at term place.context) also place.entries right.once)

    pub term-tally : (term : Term) → tally visit (of_term place term) ≡ tally stands (term_standings outer inner term)
    term-tally term =
        let v : Seat = record { term = term; context = place.context } in
        by (is_some (value_at place term))
        ∙ (ap bit (kept (is_some (value_at place term)) (same_term term own) (same_context place.context c) (shows term))
        ∙ (ap (λ x. bit (same_term term own && x)) right.contexts ∙ sym (tally-one stands (standing outer inner term))))
      where
        by : (b : Bool) → tally visit (if b then record { term = term; context = place.context } ∷ [] else [])
            ≡ bit (b && (same_term term own && same_context place.context c))
        by true = tally-one visit (record { term = term; context = place.context })
        by false = refl

    pub part-tally : (parts : List Part) → tally visit (of_parts place parts) ≡ tally stands (part_standings outer inner parts)
    part-tally parts =
        tally-both visit stands (λ (part : Part). of_term place part.1) (λ (part : Part). term_standings outer inner part.1)
        (λ (part : Part). term-tally part.1) parts

    added-tally : tally visit (of_added place) ≡ tally stands (added_standings own outer inner)
    added-tally = left ∙ (ap bit middle ∙ sym (right-hand (is_extension own)))
      where
        w : Bool
        w = is_extension own && same_context c place.context

        groups : Bool
        groups = same_groups outer (slot_group c.outer) && same_groups inner (slot_group c.inner)

        passing : (e : Entry) → is_of sought e ≡ true → is_added place e ≡ w
        passing e h = let is = is-of e h in ap₂ (λ t x. is_extension t && same_context x place.context) is.0 is.1

        rest : (b : Bool) → w ≡ b → tally (is_of sought) (filter (is_added place) place.entries) ≡ bit b
        rest true h = tally-kept (is_of sought) (is_added place) (λ e f. passing e f ∙ h) place.entries ∙ right.once
        rest false h = tally-dropped (is_of sought) (is_added place) (λ e f. passing e f ∙ h) place.entries

        left : tally visit (of_added place) ≡ bit w
        left = tally-map visit seat_of (filter (is_added place) place.entries) ∙ rest w refl

        middle : w ≡ (is_extension own && (same_term own own && groups))
        middle =
            ap (λ x. is_extension own && x) (same-back c place.context ∙ right.contexts)
            ∙ ap (λ x. is_extension own && (x && groups)) (sym (same-term-itself own))

        right-hand : (b : Bool) → tally stands (if b then term_standings outer inner own else []) ≡ bit (b && (same_term own own && groups))
        right-hand true = tally-one stands (standing outer inner own)
        right-hand false = refl

    form-tally : (form : Form) (parts : List Part) → tally visit (of_form place form parts) ≡ tally stands (form_standings own outer inner form parts)
    form-tally forms.Row parts = part-tally parts
    form-tally (forms.RowOf term) parts =
        tally-row visit stands (of_term place term) (of_parts place parts) (term_standings outer inner term) (part_standings outer inner parts)
        (term-tally term) (part-tally parts)
    form-tally forms.Paragraph parts = part-tally parts
    form-tally forms.Added parts = added-tally

    one-tally : (item : Item) → tally visit (of_one place item) ≡ tally stands (one_standings own outer inner item)
    one-tally item = form-tally item.1 item.3

  -- ---- places that aren't its own

  abbrev pub IsOff : Place → Type 0
  IsOff place = same_context place.context c ≡ false

  module _ (place : Place) (off : IsOff place) where
    off-term : (term : Term) → tally visit (of_term place term) ≡ 0
    off-term term = by (is_some (value_at place term))
      where
        by : (b : Bool) → tally visit (if b then record { term = term; context = place.context } ∷ [] else []) ≡ 0
        by true = tally-one visit (record { term = term; context = place.context }) ∙ ap bit (and_right (same_term term own) _ off)
        by false = refl

    pub off-parts : (parts : List Part) → tally visit (of_parts place parts) ≡ 0
    off-parts parts = tally-none visit (λ (part : Part). of_term place part.1) (λ (part : Part). off-term part.1) parts

    off-added : tally visit (of_added place) ≡ 0
    off-added =
        tally-map visit seat_of (filter (is_added place) place.entries)
        ∙ tally-dropped (is_of sought) (is_added place) (λ e h. and_right (is_extension e.term) _
        (ap (λ x. same_context x place.context) (is-of e h).1 ∙ (same-back c place.context ∙ off))) place.entries

    off-form : (form : Form) (parts : List Part) → tally visit (of_form place form parts) ≡ 0
    off-form forms.Row parts = off-parts parts
    off-form (forms.RowOf term) parts =
        tally-append visit (of_term place term) (of_parts place parts) ∙ ap₂ (λ m n. m + n) (off-term term) (off-parts parts)
    off-form forms.Paragraph parts = off-parts parts
    off-form forms.Added parts = off-added

    pub off-one : (item : Item) → tally visit (of_one place item) ≡ 0
    off-one item = off-form item.1 item.3

  -- ---- standings in other groups

  abbrev pub AreApart : Option Group → Option Group → Type 0
  AreApart outer inner = (same_groups outer (slot_group c.outer) && same_groups inner (slot_group c.inner)) ≡ false

  module _ (outer inner : Option Group) (apart : AreApart outer inner) where
    apart-term : (term : Term) → tally stands (term_standings outer inner term) ≡ 0
    apart-term term = tally-one stands (standing outer inner term) ∙ ap bit (and_right (same_term term own) _ apart)

    pub apart-parts : (parts : List Part) → tally stands (part_standings outer inner parts) ≡ 0
    apart-parts parts = tally-none stands (λ (part : Part). term_standings outer inner part.1) (λ (part : Part). apart-term part.1) parts

    apart-added : tally stands (added_standings own outer inner) ≡ 0
    apart-added = by (is_extension own)
      where
        by : (b : Bool) → tally stands (if b then term_standings outer inner own else []) ≡ 0
        by true = apart-term own
        by false = refl

    apart-form : (form : Form) (parts : List Part) → tally stands (form_standings own outer inner form parts) ≡ 0
    apart-form forms.Row parts = apart-parts parts
    apart-form (forms.RowOf term) parts =
        tally-append stands (term_standings outer inner term) (part_standings outer inner parts)
        ∙ ap₂ (λ m n. m + n) (apart-term term) (apart-parts parts)
    apart-form forms.Paragraph parts = apart-parts parts
    apart-form forms.Added parts = apart-added

    pub apart-one : (item : Item) → tally stands (one_standings own outer inner item) ≡ 0
    apart-one item = apart-form item.1 item.3

  -- ---- items

  -- The seat stands in one of the occurrences of the group in the place, or in none.
  pub data IsIn (place : Place) (outer : Option Group) (group : Group) : Type 0 where
    among : (k : ℕ) → 1 ≤ k → k ≤ count_in place group → IsRight (occurrence place group k) (in_group outer group) (inside_group outer group)
        → ((j : ℕ) → j ≢ k → IsOff (occurrence place group j)) → IsIn place outer group
    elsewhere : ((j : ℕ) → IsOff (occurrence place group j)) → AreApart (in_group outer group) (inside_group outer group) → IsIn place outer group

  -- a place around the seat
  pub record IsWay (place : Place) (outer : Option Group) : Type 0 where
    pub here : IsRight place outer None
    pub inside : (group : Group) → IsIn place outer group

  each-tally : (place : Place) (outer : Option Group) (group : Group) → IsIn place outer group → (item : Item)
      → tally visit (flat_map (λ k. of_one (occurrence place group k) item) (numbers_to (count_in place group)))
      ≡ tally stands (one_standings own (in_group outer group) (inside_group outer group) item)
  each-tally place outer group (among k first last right others) item =
      tally-numbers visit (λ j. of_one (occurrence place group j) item) (count_in place group) k first last
      (λ j h. off-one (occurrence place group j) (others j h) item)
      ∙ one-tally (occurrence place group k) (in_group outer group) (inside_group outer group) right item
  each-tally place outer group (elsewhere off apart) item =
      tally-none visit (λ j. of_one (occurrence place group j) item) (λ j. off-one (occurrence place group j) (off j) item)
      (numbers_to (count_in place group))
      ∙ sym (apart-one (in_group outer group) (inside_group outer group) apart item)

  module _ (place : Place) (outer : Option Group) (way : IsWay place outer) where
    item-tally : (item : Item) → tally visit (of_item place item) ≡ tally stands (item_standings own outer item)
    item-tally item = by item.0
      where
        by : (o : Option Group)
            → tally visit (elim o [
              | None ↦ of_one place item
              | Some group ↦ flat_map (λ k. of_one (occurrence place group k) item) (numbers_to (count_in place
                  group))
            ])
            ≡ tally stands (elim o [
              | None ↦ one_standings own outer None item
              | Some group ↦ one_standings own (in_group outer group) (inside_group outer group)
                  item
            ])
        by None = one-tally place outer None way.here item
        by (Some group) = each-tally place outer group (way.inside group) item

    pub layout-tally : (items : List Item) → tally visit (of_layout place items) ≡ tally stands (layout_standings own outer items)
    layout-tally items = tally-both visit stands (of_item place) (item_standings own outer) item-tally items
