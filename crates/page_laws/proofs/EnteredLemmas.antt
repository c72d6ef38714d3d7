-- Each visit of the page is of an entry.
use Rattle.std.proofs.Common.{◌≡◌, ℕ, true, List, [], ◌∷◌, ◌++◌, map, refl, ap₂, subst, inl, inr}
use Rattle.std.specs.Prelude.{Option, Some, None, filter, find, flat_map, option_map, is_some, Contains, if◌then◌else◌}
use Rattle.std.proofs.lemmas.Bool.{and_parts}
use Rattle.term_table.specs.declared.groups.Group.{Group}
use Rattle.term_table.specs.declared.terms.Term.{Term}
use Rattle.term_table.specs.declared.contexts.Seat.{Seat}
use Rattle.term_table.specs.Contexts.{is_inside, same_context}
use Rattle.term_table.specs.SemanticModel.{same_term}
use Rattle.term_table.proofs.SeatLemmas.{same_term_is}
use Rattle.inv_terms.specs.declared.entries.Entry.{Entry}
use Rattle.inv_terms.specs.Listing.{seat_of, is_at}
use Rattle.inv_terms.proofs.ContextLemmas.{context_is, here, there, member_cases, no_member, append_cases}
use Rattle.page_tables.specs.declared.forms.Form.{Form}
use Rattle.page_tables.specs.declared.forms.Form.TheVariants as forms
use Rattle.page_tables.specs.declared.forms.Holds.{Holds}
use Rattle.page_tables.specs.declared.forms.Holds.TheVariants as holds
use Rattle.page_tables.specs.Tables.{Part, Item, Cell, Row, Section, Table}
use Rattle.page_tables.specs.Tables as tables
use Rattle.page_values.specs.Places.{Place, numbers_to, count_in, occurrence, invoice_place}
use Rattle.page_layouts.specs.Layouts.{is_added}
use Rattle.invoice_page.specs.Page.{bt}
use Rattle.page_laws.specs.Visits.{of_term, of_parts, of_added, of_form, of_one, of_item, of_layout, of_held, of_cell, of_cells, of_row, of_section, of_table}
use Rattle.page_laws.specs.Visits.{visits_of, visits}
use Rattle.page_laws.proofs.MemberLemmas.{find-is, filter-member}

-- ---- members of lists that are made of others

map-member : (x : Entry) (es : List Entry) → Contains es x → Contains (map seat_of es) (seat_of x)
map-member x [] m = absurd (no_member x m)
map-member x (y ∷ es) m = elim (member_cases y x es m) [
  | inl same ↦ subst (λ z. Contains (map seat_of (y ∷ es)) (seat_of z)) same (here (seat_of y) (map seat_of es))
  | inr later ↦ there (seat_of y) (seat_of x) (map seat_of es) (map-member x es later)
]

pub record IsMapped (es : List Entry) (v : Seat) : Type 0 where
  pub entry : Entry
  pub member : Contains es entry
  pub same : seat_of entry ≡ v

pub mapped : (v : Seat) (es : List Entry) → Contains (map seat_of es) v → IsMapped es v
mapped v [] m = absurd (no_member v m)
mapped v (y ∷ es) m = elim (member_cases (seat_of y) v (map seat_of es) m) [
  | inl same ↦ record { entry = y; member = here y es; same = same }
  | inr later ↦ (let rest = mapped v es later in record { entry = rest.entry; member = there y rest.entry es rest.member; same = rest.same })
]

module _ (es : List Entry) where
  -- Each seat is that of an entry.
  record Entered (seats : List Seat) : Type 0 where
    each : (v : Seat) → Contains seats v → Contains (map seat_of es) v

  entered-nil : Entered []
  entered-nil = record { each = λ v m. absurd (no_member v m) }

  entered-append : (a b : List Seat) → Entered a → Entered b → Entered (a ++ b)
  entered-append a b h k = record { each = λ v m. elim (append_cases v a b m) [ inl x ↦ h.each v x | inr y ↦ k.each v y ] }

  entered-all : {X : Type 0} (f : X → List Seat) → ((x : X) → Entered (f x)) → (xs : List X) → Entered (flat_map f xs)
  entered-all f each [] = entered-nil
  entered-all f each (x ∷ xs) = entered-append (f x) (flat_map f xs) (each x) (entered-all f each xs)

  entered-one : (v : Seat) → Contains (map seat_of es) v → Entered (v ∷ [])
  entered-one v h = record {
    each = λ w m. elim (member_cases v w [] m) [ inl same ↦ subst (Contains (map seat_of es)) same h | inr none ↦ absurd (no_member w none) ];
  }

  -- A place has entries of the invoice alone.
  abbrev IsWithin : Place → Type 0
  IsWithin place = (x : Entry) → Contains place.entries x → Contains es x

  within-occurrence : (place : Place) → IsWithin place → (group : Group) (k : ℕ) → IsWithin (occurrence place group k)
  within-occurrence place within group k x m =
      within x (filter-member (λ (y : Entry). is_inside (occurrence place group k).context y.context) place.entries x m)

  seat-at : (x : Entry) (term : Term) (place : Place) → is_at term place.context x ≡ true → seat_of x ≡ record { term = term; context = place.context }
  seat-at x term place h =
      let parts = and_parts (same_term x.term term) (same_context x.context place.context) h in
      let a : Seat = record { term = x.term; context = x.context } in
      let b : Seat = record { term = term; context = place.context } in
      let e : a ≡ b = ap₂ (λ t c. record { term = t; context = c }) (same_term_is x.term term parts.0) (context_is x.context place.context parts.1) in
      e

  module _ (place : Place) (within : IsWithin place) where
    entered-term : (term : Term) → Entered (of_term place term)
    entered-term term = by (find (is_at term place.context) place.entries) refl
      where
        by : (o : Option Entry) → find (is_at term place.context) place.entries ≡ o
            → Entered (if is_some (option_map (λ (x : Entry). x.value) o) then record { term = term; context = place.context } ∷ [] else [])
        by None h = entered-nil
        by (Some x) h =
            let found = find-is (is_at term place.context) place.entries x h in
            entered-one (record { term = term; context = place.context })
            (subst (Contains (map seat_of es)) (seat-at x term place found.0) (map-member x es (within x found.1)))

    entered-parts : (parts : List Part) → Entered (of_parts place parts)
    entered-parts parts = entered-all (λ (part : Part). of_term place part.1) (λ (part : Part). entered-term part.1) parts

    entered-added : Entered (of_added place)
    entered-added = record {
      each = λ v m.
          let it = mapped v (filter (is_added place) place.entries) m in
          subst (Contains (map seat_of es)) it.same
          (map-member it.entry es (within it.entry (filter-member (is_added place) place.entries it.entry it.member)));
    }

    entered-form : (form : Form) (parts : List Part) → Entered (of_form place form parts)
    entered-form forms.Row parts = entered-parts parts
    entered-form (forms.RowOf term) parts = entered-append (of_term place term) (of_parts place parts) (entered-term term) (entered-parts parts)
    entered-form forms.Paragraph parts = entered-parts parts
    entered-form forms.Added parts = entered-added

    entered-item_in : (item : Item) → Entered (of_one place item)
    entered-item_in item = entered-form item.1 item.3

  module _ (place : Place) (within : IsWithin place) where
    entered-item : (item : Item) → Entered (of_item place item)
    entered-item item = by item.0
      where
        by : (o : Option Group) → Entered (of_item place (o, item.1, item.2, item.3))
        by None = entered-item_in place within item
        by (Some group) =
            entered-all _ (λ k. entered-item_in (occurrence place group k) (within-occurrence place within group k) item) (numbers_to (count_in place group))

    entered-layout : (items : List Item) → Entered (of_layout place items)
    entered-layout items = entered-all (of_item place) entered-item items

    entered-held : (kind : Holds) (parts : List Part) (items : List Item) → Entered (of_held place kind parts items)
    entered-held holds.Words parts items = entered-nil
    entered-held holds.Parts parts items = entered-parts place within parts
    entered-held holds.Layout parts items = entered-layout items

    entered-cells : (cells : List Cell) → Entered (of_cells place cells)
    entered-cells cells = entered-all (of_cell place) (λ (cell : Cell). entered-held cell.1 cell.3 cell.4) cells

  module _ (place : Place) (within : IsWithin place) where
    entered-row : (row : Row) → Entered (of_row place row)
    entered-row row =
        entered-all (λ k. of_cells (occurrence place row.0 k) row.1)
        (λ k. entered-cells (occurrence place row.0 k) (within-occurrence place within row.0 k) row.1) (numbers_to (count_in place row.0))

    entered-table : (table : Table) → Entered (of_table place table)
    entered-table table = entered-all (of_row place) entered-row table.3

    entered-section : (section : Section) → Entered (of_section place section)
    entered-section section = entered-layout place within section.2

    entered-page : Entered (visits_of place)
    entered-page =
        entered-append (of_term place (bt 1)) _ (entered-term place within (bt 1))
        (entered-append (of_section place tables.facts) _ (entered-section tables.facts)
        (entered-append (flat_map (of_section place) tables.parties) _ (entered-all (of_section place) entered-section tables.parties)
        (entered-append (of_table place tables.lines) _ (entered-table tables.lines)
        (entered-append (of_table place tables.extras) _ (entered-table tables.extras)
        (entered-append (of_table place tables.vat) _ (entered-table tables.vat)
        (entered-append (of_section place tables.totals) _ (entered-section tables.totals)
        (entered-all (of_section place) entered-section tables.rest)))))))

pub visits-entered : (es : List Entry) (v : Seat) → Contains (visits es) v → Contains (map seat_of es) v
unfolding visits
visits-entered es v m = (entered-page es (invoice_place es) (λ x n. n)).each v m
