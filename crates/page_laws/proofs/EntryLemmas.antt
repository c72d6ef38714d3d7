-- The places in which the page comes to an entry of an invoice.
use Rattle.std.proofs.Common.{◌≡◌, ◌≢◌, ℕ, ◌≤◌, Bool, true, false, ◌&&◌, List, refl, ap, ap₂, sym, ◌∙◌, subst, arith}
use Rattle.std.specs.Prelude.{Option, Some, None, ◌==◌, Contains, is_some, if◌then◌else◌}
use Rattle.std.proofs.lemmas.Bool.{and_parts, and_from, and_left, and_right, ne_eqb, leb-true}
use Rattle.term_table.specs.declared.groups.Group.{Group}
use Rattle.term_table.specs.declared.terms.Term.{Term}
use Rattle.term_table.specs.declared.contexts.Slot.{Slot}
use Rattle.term_table.specs.declared.contexts.Context.{Context}
use Rattle.term_table.specs.declared.contexts.Seat.{Seat}
use Rattle.term_table.specs.Groups.{same_group}
use Rattle.term_table.specs.Contexts.{slot_group, same_groups, same_slot, is_inside, outer_group, inner_group}
use Rattle.term_table.specs.SemanticModel.{listing_rows}
use Rattle.term_table.specs.Places.{seat_place}
use Rattle.term_table.proofs.GroupLemmas.{same_group_is, same_group_itself}
use Rattle.term_table.proofs.SeatLemmas.{At, at-place, slot_group-is, same_term_is}
use Rattle.inv_terms.specs.declared.entries.Entry.{Entry}
use Rattle.inv_terms.specs.Listing.{IsInvoice, seat_of, is_placed, index_in, is_counted, in_outer, in_inner}
use Rattle.inv_terms.proofs.PushLemmas.{same_slot_itself}
use Rattle.page_tables.specs.Standing.{is_at}
use Rattle.page_values.specs.Places.{Place, count_in, occurrence, slot, entries_in, invoice_place}
use Rattle.page_laws.specs.Visits.{times, visits}
use Rattle.page_laws.proofs.MemberLemmas.{all-member, member-filter, slice_get-member}
use Rattle.page_laws.proofs.SeatLemmas.{seat-is, is_of, once, fold-member, index-own}
use Rattle.page_laws.proofs.StandingLemmas.{page_standings, standing-once}
use Rattle.page_laws.proofs.TallyLemmas.{tally, tally-kept}
use Rattle.page_laws.proofs.VisitLemmas.{sought, stands, same-term-itself, same-context-itself, IsRight, IsIn, among, elsewhere, IsWay}
use Rattle.page_laws.proofs.EveryVisitLemmas.{IsOffWhole, IsRowIn, row_among, row_elsewhere, page-tally}

-- ---- slots and groups

none-slot : (s : Option Slot) → same_slot None s ≡ same_groups None (slot_group s)
none-slot None = refl
none-slot (Some s) = refl

own-slot : (u : Slot) (s : Option Slot) → s ≡ Some u → same_slot (Some u) s ≡ true
own-slot u s h = ap (same_slot (Some u)) h ∙ same_slot_itself (Some u)

own-groups : (u : Slot) (s : Option Slot) → s ≡ Some u → same_groups (Some u.group) (slot_group s) ≡ true
own-groups u s h = ap (λ o. same_groups (Some u.group) (slot_group o)) h ∙ same_group_itself u.group

other-number : (u : Slot) (s : Option Slot) (j : ℕ) → s ≡ Some u → j ≢ u.index → same_slot (Some (slot u.group j)) s ≡ false
other-number u s j h other = ap (same_slot (Some (slot u.group j))) h ∙ and_right (same_group u.group u.group) (j == u.index) (ne_eqb j u.index other)

other-group : (group : Group) (u : Slot) (s : Option Slot) (j : ℕ) → s ≡ Some u → same_group group u.group ≡ false → same_slot (Some (slot group j)) s ≡ false
other-group group u s j h other = ap (same_slot (Some (slot group j))) h ∙ and_left (same_group group u.group) (j == u.index) other

other-groups : (group : Group) (u : Slot) (s : Option Slot) → s ≡ Some u → same_group group u.group ≡ false → same_groups (Some group) (slot_group s) ≡ false
other-groups group u s h other = ap (λ o. same_groups (Some group) (slot_group o)) h ∙ other

no-slot : (group : Group) (s : Option Slot) (j : ℕ) → s ≡ None → same_slot (Some (slot group j)) s ≡ false
no-slot group s j h = ap (same_slot (Some (slot group j))) h

no-group : (group : Group) (s : Option Slot) → s ≡ None → same_groups (Some group) (slot_group s) ≡ false
no-group group s h = ap (λ o. same_groups (Some group) (slot_group o)) h

-- an entry that stands where a slot says
numbered : (es : List Entry) (around : Slot → Context) (s : Option Slot) (u : Slot) → is_counted es around s ≡ true → s ≡ Some u → 1 ≤ u.index
numbered es around s u h e = leb-true 1 u.index (and_parts _ _ (sym (ap (is_counted es around) e) ∙ h)).0

module _ (es : List Entry) (invoice : IsInvoice es) (e : Entry) (member : Contains es e) where
  abbrev c : Context
  c = e.context

  abbrev root : Place
  root = invoice_place es

  itself : is_of (sought e.term c) e ≡ true
  itself = and_from _ _ (same-term-itself e.term) (same-context-itself c)

  counted : (is_counted es in_outer c.outer && is_counted es (in_inner c.outer) c.inner) ≡ true
  counted =
      all-member (λ (x : Entry). is_counted es in_outer x.context.outer && is_counted es (in_inner x.context.outer) x.context.inner) es e
      invoice.numbered member

  -- what is around the entry keeps it
  around-once : (around : Context) (entries : List Entry) → is_inside around c ≡ true → tally (is_of (sought e.term c)) entries ≡ 1
      → tally (is_of (sought e.term c)) (entries_in around entries) ≡ 1
  around-once around entries h one =
      tally-kept (is_of (sought e.term c)) (λ (x : Entry). is_inside around x.context)
      (λ x k. ap (λ (s : Seat). is_inside around s.context) (seat-is (sought e.term c) (seat_of x) k) ∙ h) entries ∙ one

  -- ---- the invoice

  root-right : IsRight e.term c root None None
  root-right = record { contexts = ap₂ (λ a b. a && b) (none-slot c.outer) (none-slot c.inner); once = once es e invoice.listed member itself }

  off-whole : (group : Group) (j : ℕ) → same_slot (Some (slot group j)) c.outer ≡ false → IsOffWhole e.term c (occurrence root group j)
  off-whole group j h = record {
    here = and_left (same_slot (Some (slot group j)) c.outer) _ h;
    inside = λ inner k. and_left (same_slot (Some (slot group j)) c.outer) _ h;
  }

  module _ (u : Slot) (outer : c.outer ≡ Some u) where
    abbrev first_place : Place
    first_place = occurrence root u.group u.index

    outer-within : u.index ≤ count_in root u.group
    outer-within =
        let own : index_in u.group c.outer ≡ u.index = ap (index_in u.group) outer ∙ index-own u.group u.index in
        let most = fold-member (λ (x : Entry). index_in u.group x.context.outer) es 0 e member in
        omega (arith, own, most)

    first-inside : is_inside (in_outer u) c ≡ true
    first-inside = and_from _ true (own-slot u c.outer outer) refl

    first-right : IsRight e.term c first_place (Some u.group) None
    first-right = record {
      contexts = ap₂ (λ a b. a && b) (own-slot u c.outer outer ∙ sym (own-groups u c.outer outer)) (none-slot c.inner);
      once = around-once (in_outer u) es first-inside root-right.once;
    }

    -- ---- an occurrence in it

    module _ (w : Slot) (inner : c.inner ≡ Some w) where
      second-inside : is_inside (in_inner (Some u) w) c ≡ true
      second-inside = and_from _ _ (own-slot u c.outer outer) (own-slot w c.inner inner)

      second-right : IsRight e.term c (occurrence first_place w.group w.index) (Some u.group) (Some w.group)
      second-right = record {
        contexts = ap₂ (λ a b. a && b) (own-slot u c.outer outer ∙ sym (own-groups u c.outer outer))
            (own-slot w c.inner inner ∙ sym (own-groups w c.inner inner));
        once = around-once (in_inner (Some u) w) (entries_in (in_outer u) es) second-inside first-right.once;
      }

      inner-index : Entry → ℕ
      inner-index x = if same_slot x.context.outer (Some u) then index_in w.group x.context.inner else 0

      inner-own : inner-index e ≡ w.index
      unfolding inner-index
      inner-own =
          ap (λ q. if q then index_in w.group c.inner else 0) (ap (λ o. same_slot o (Some u)) outer ∙ same_slot_itself (Some u))
          ∙ (ap (index_in w.group) inner ∙ index-own w.group w.index)

      inner-within : w.index ≤ count_in first_place w.group
      unfolding inner-index
      inner-within =
          let inside = member-filter (λ (x : Entry). is_inside (in_outer u) x.context) es e first-inside member in
          let most = fold-member inner-index (entries_in (in_outer u) es) 0 e inside in
          omega (arith, inner-own, most)

      second-among : IsIn e.term c first_place (Some u.group) w.group
      second-among =
          among w.index (numbered es (in_inner c.outer) c.inner w (and_parts _ _ counted).1 inner) inner-within second-right
          (λ j other. and_right (same_slot (Some u) c.outer) _ (other-number w c.inner j inner other))

    first-in : (group : Group) → IsIn e.term c first_place (Some u.group) group
    first-in group = by c.inner refl
      where
        within : (w : Slot) → c.inner ≡ Some w → (q : Bool) → same_group group w.group ≡ q → IsIn e.term c first_place (Some u.group) group
        within w h true same =
            subst (λ g. IsIn e.term c first_place (Some u.group) g) (sym (same_group_is group w.group same)) (second-among w h)
        within w h false other =
            elsewhere (λ j. and_right (same_slot (Some u) c.outer) _ (other-group group w c.inner j h other))
            (and_right (same_groups (Some u.group) (slot_group c.outer)) _ (other-groups group w c.inner h other))

        by : (o : Option Slot) → c.inner ≡ o → IsIn e.term c first_place (Some u.group) group
        by None h =
            elsewhere (λ j. and_right (same_slot (Some u) c.outer) _ (no-slot group c.inner j h))
            (and_right (same_groups (Some u.group) (slot_group c.outer)) _ (no-group group c.inner h))
        by (Some w) h = within w h (same_group group w.group) refl

    first-way : IsWay e.term c first_place (Some u.group)
    first-way = record { here = first-right; inside = first-in }

    outer-first : 1 ≤ u.index
    outer-first = numbered es in_outer c.outer u (and_parts _ _ counted).0 outer

    first-among : IsIn e.term c root None u.group
    first-among =
        among u.index outer-first outer-within first-right
        (λ j other. and_left (same_slot (Some (slot u.group j)) c.outer) _ (other-number u c.outer j outer other))

    first-row : IsRowIn e.term c root u.group
    first-row =
        row_among u.index outer-first outer-within first-way
        (λ j other. off-whole u.group j (other-number u c.outer j outer other))

  root-in : (group : Group) → IsIn e.term c root None group
  root-in group = by c.outer refl
    where
      within : (u : Slot) → c.outer ≡ Some u → (q : Bool) → same_group group u.group ≡ q → IsIn e.term c root None group
      within u h true same = subst (λ g. IsIn e.term c root None g) (sym (same_group_is group u.group same)) (first-among u h)
      within u h false other =
          elsewhere (λ j. and_left (same_slot (Some (slot group j)) c.outer) _ (other-group group u c.outer j h other))
          (and_left (same_groups (Some group) (slot_group c.outer)) _ (other-groups group u c.outer h other))

      by : (o : Option Slot) → c.outer ≡ o → IsIn e.term c root None group
      by None h =
          elsewhere (λ j. and_left (same_slot (Some (slot group j)) c.outer) _ (no-slot group c.outer j h))
          (and_left (same_groups (Some group) (slot_group c.outer)) _ (no-group group c.outer h))
      by (Some u) h = within u h (same_group group u.group) refl

  root-row : (group : Group) → IsRowIn e.term c root group
  root-row group = by c.outer refl
    where
      within : (u : Slot) → c.outer ≡ Some u → (q : Bool) → same_group group u.group ≡ q → IsRowIn e.term c root group
      within u h true same = subst (λ g. IsRowIn e.term c root g) (sym (same_group_is group u.group same)) (first-row u h)
      within u h false other =
          row_elsewhere (λ j. off-whole group j (other-group group u c.outer j h other)) (other-groups group u c.outer h other)

      by : (o : Option Slot) → c.outer ≡ o → IsRowIn e.term c root group
      by None h = row_elsewhere (λ j. off-whole group j (no-slot group c.outer j h)) (no-group group c.outer h)
      by (Some u) h = within u h (same_group group u.group) refl

  -- ---- once

  standing-at : At (seat_of e) → tally (stands e.term c) (page_standings e.term) ≡ 1
  standing-at a =
      let Tally : Option Group → Option Group → Term → ℕ = λ outer inner term. tally (is_at outer inner term) (page_standings term) in
      ap (λ o. Tally o (slot_group c.inner) e.term) (sym (slot_group-is c.outer (outer_group a.line.group) a.outer))
      ∙ (ap (λ i. Tally (outer_group a.line.group) i e.term) (sym (slot_group-is c.inner (inner_group a.line.group) a.inner))
      ∙ (ap (Tally (outer_group a.line.group) (inner_group a.line.group)) (sym (same_term_is a.line.term e.term a.term))
      ∙ standing-once a.line (slice_get-member listing_rows a.row a.line a.found)))

  standing-placed : tally (stands e.term c) (page_standings e.term) ≡ 1
  standing-placed = by (seat_place (seat_of e)) refl (all-member is_placed es e invoice.placed member)
    where
      by : (o : Option (List ℕ)) → seat_place (seat_of e) ≡ o → is_some o ≡ true → tally (stands e.term c) (page_standings e.term) ≡ 1
      by None p k = cc
      by (Some place) p k = standing-at (at-place (seat_of e) place p).0

  pub visited-once : times (seat_of e) (visits es) ≡ 1
  unfolding visits
  visited-once = page-tally e.term c root (record { here = root-right; inside = root-in }) root-row ∙ standing-placed
