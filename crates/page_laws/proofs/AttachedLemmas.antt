-- Where base64 stands in an invoice: as the attached document of a supporting document (BT-125, in BG-24), and nowhere else.
use Rattle.std.proofs.Common.{◌≡◌, ℕ, ◌≤◌, Bool, true, false, ◌||◌, ◌&&◌, List, refl, ap, sym, ◌∙◌, subst, true≢false}
use Rattle.std.specs.Prelude.{Option, Some, None, not, find, option_map, is_some, Contains, if◌then◌else◌}
use Rattle.std.specs.List.{list_all}
use Rattle.std.proofs.lemmas.Bool.{and_parts, leb-true}
use Rattle.std.proofs.lemmas.List.Elements.{All-contains}
use Rattle.std.proofs.lemmas.Option.{same_Some}
use Rattle.term_table.specs.declared.groups.Group.TheVariants as groups
use Rattle.term_table.specs.declared.terms.DataType.{DataType}
use Rattle.term_table.specs.declared.terms.DataType.TheVariants as data_types
use Rattle.term_table.specs.declared.terms.Term.{Term}
use Rattle.term_table.specs.declared.terms.TermRow.{TermRow}
use Rattle.term_table.specs.declared.contexts.Slot.{Slot}
use Rattle.term_table.specs.declared.contexts.Context.{Context}
use Rattle.term_table.specs.Groups.{same_group, parent_of, occurrence_of}
use Rattle.term_table.specs.Contexts.{slot_group, outer_group, inner_group, same_context}
use Rattle.term_table.specs.SemanticModel.{same_term, terms, extension_rows, listing_rows}
use Rattle.term_table.specs.Rows.{HasType, modelled, added, is_base64}
use Rattle.term_table.specs.Places.{seat_place}
use Rattle.term_table.proofs.GroupLemmas.{same_group_is}
use Rattle.term_table.proofs.SeatLemmas.{At, at-place, slot_group-is, slot_of_group, same_term_is}
use Rattle.inv_terms.specs.declared.values.Value.{Value}
use Rattle.inv_terms.specs.declared.values.Value.TheVariants as values
use Rattle.inv_terms.specs.declared.entries.Entry.{Entry}
use Rattle.inv_terms.specs.Values.{value_of, value_by, text_of, identifier_of, code_of, trimmed}
use Rattle.inv_terms.specs.Attachments.{attached_document, base64_in}
use Rattle.inv_terms.specs.Listing.{IsInvoice, Fits, is_at, is_placed, seat_of, value_in, is_counted, in_outer, in_inner}
use Rattle.inv_terms.proofs.ContextLemmas.{context_is}
use Rattle.inv_decimal.specs.WrittenNumber.{read_scaled}
use Rattle.inv_decimal.specs.WrittenDay.{read_dashed_day}
use Rattle.page_laws.proofs.MemberLemmas.{find-is, all-member, slice_get-member}

-- ---- its type

mapped-other : {X : Type 0} (f : X → Value) (o : Option X) (value : Value) (text : List ℕ) → ((x : X) → base64_in (f x) ≡ None) → option_map f o ≡ Some value
    → base64_in value ≡ Some text → ⊥
mapped-other f None value text other e h = cc
mapped-other f (Some x) value text other e h = let none : base64_in value ≡ None = ap base64_in (sym (same_Some _ _ e)) ∙ other x in cc

typed-by : (t : DataType) (given : List ℕ) (value : Value) (text : List ℕ) → value_by t given ≡ Some value → base64_in value ≡ Some text → is_base64 t ≡ true
typed-by data_types.T given value text e h = absurd (mapped-other values.Text (text_of given) value text (λ _. refl) e h)
typed-by data_types.I given value text e h = absurd (mapped-other values.Identifier (identifier_of given) value text (λ _. refl) e h)
typed-by data_types.C given value text e h = absurd (mapped-other values.Code (code_of given) value text (λ _. refl) e h)
typed-by data_types.A given value text e h = absurd (mapped-other values.Amount (read_scaled (trimmed given)) value text (λ _. refl) e h)
typed-by data_types.Q given value text e h = absurd (mapped-other values.Quantity (read_scaled (trimmed given)) value text (λ _. refl) e h)
typed-by data_types.P given value text e h = absurd (mapped-other values.Percent (read_scaled (trimmed given)) value text (λ _. refl) e h)
typed-by data_types.D given value text e h = absurd (mapped-other values.Date (read_dashed_day (trimmed given)) value text (λ _. refl) e h)
typed-by data_types.B given value text e h = refl

where-true : {X : Type 0} (q : Bool) (o : Option X) (x : X) → (if q then o else None) ≡ Some x → o ≡ Some x
where-true true o x e = e
where-true false o x e = cc

typed : (t : DataType) (given : List ℕ) (value : Value) (text : List ℕ) → value_of t given ≡ Some value → base64_in value ≡ Some text → is_base64 t ≡ true
unfolding value_of
typed t given value text e h = typed-by t given value text (where-true _ (value_by t given) value e) h

-- ---- its term

is_attached_row : TermRow → Bool
is_attached_row row = not (is_base64 row.data_type) || same_term row.term attached_document

attached-rows : list_all is_attached_row terms ≡ true
unfolding is_attached_row terms
attached-rows = refl

attached-row : (row : TermRow) (t : DataType) → is_attached_row row ≡ true → row.data_type ≡ t → is_base64 t ≡ true → row.term ≡ attached_document
unfolding is_attached_row
attached-row row t h e base =
    same_term_is row.term attached_document (sym (ap (λ q. not q || same_term row.term attached_document) (ap is_base64 e ∙ base)) ∙ h)

modelled-term : (term : Term) (t : DataType) (o : Option TermRow) → find (λ (row : TermRow). same_term row.term term) terms ≡ o
    → option_map (λ (row : TermRow). row.data_type) o ≡ Some t → is_base64 t ≡ true → term ≡ attached_document
modelled-term term t None e h base = cc
modelled-term term t (Some row) e h base =
    let found = find-is (λ (r : TermRow). same_term r.term term) terms row e in
    sym (same_term_is row.term term found.0)
    ∙ attached-row row t (all-member is_attached_row terms row attached-rows found.1) (same_Some _ _ h) base

attached-term : (term : Term) (t : DataType) → HasType term t → is_base64 t ≡ true → term ≡ attached_document
attached-term term t (modelled e) base = modelled-term term t (find (λ (row : TermRow). same_term row.term term) terms) refl e base
attached-term term t (added e other) base = absurd (true≢false (sym base ∙ other))

-- ---- its context

abbrev pub document_slot : ℕ → Slot
document_slot k = record { group = groups.SupportingDocument; index = k }

is_placed_row : TermRow → Bool
is_placed_row row = not (same_term row.term attached_document) || same_group row.group groups.SupportingDocument

placed-rows : list_all is_placed_row listing_rows ≡ true
unfolding is_placed_row listing_rows terms extension_rows
placed-rows = refl

placed-row : (row : TermRow) → is_placed_row row ≡ true → same_term row.term attached_document ≡ true → row.group ≡ groups.SupportingDocument
unfolding is_placed_row
placed-row row h e =
    same_group_is row.group groups.SupportingDocument (sym (ap (λ q. not q || same_group row.group groups.SupportingDocument) e) ∙ h)

outer-is : outer_group groups.SupportingDocument ≡ Some groups.SupportingDocument
unfolding parent_of occurrence_of
outer-is = refl

inner-is : inner_group groups.SupportingDocument ≡ None
unfolding parent_of occurrence_of
inner-is = refl

no-slot : (slot : Option Slot) → slot_group slot ≡ None → slot ≡ None
no-slot None h = refl
no-slot (Some s) h = cc

slot-is : (s : Slot) → s.group ≡ groups.SupportingDocument → s ≡ document_slot s.index
slot-is s h =
    let x : Slot = record { group = s.group; index = s.index } in
    let e : x ≡ document_slot s.index = rw h refl in
    e

context-parts : (c : Context) (slot : Slot) → c.outer ≡ Some slot → c.inner ≡ None → c ≡ record { outer = Some slot; inner = None }
context-parts c slot o i =
    let x : Context = record { outer = c.outer; inner = c.inner } in
    let y : Context = record { outer = Some slot; inner = None } in
    let e : x ≡ y = rw (o, i) refl in
    e

row-term : (a b : Term) → same_term a b ≡ true → b ≡ attached_document → same_term a attached_document ≡ true
row-term a b h e = subst (λ (t : Term). same_term a t ≡ true) e h

attached-at : (e : Entry) → At (seat_of e) → e.term ≡ attached_document → (k : ℕ) × (e.context ≡ in_outer (document_slot k))
attached-at e a t =
    let member = all-member is_placed_row listing_rows a.line placed-rows (slice_get-member listing_rows a.row a.line a.found) in
    let group : a.line.group ≡ groups.SupportingDocument = placed-row a.line member (row-term a.line.term e.term a.term t) in
    let outer = slot_of_group e.context.outer groups.SupportingDocument (sym (slot_group-is e.context.outer _ a.outer) ∙ (ap outer_group group ∙ outer-is)) in
    let inner = no-slot e.context.inner (sym (slot_group-is e.context.inner _ a.inner) ∙ (ap inner_group group ∙ inner-is)) in
    (outer.0.index, context-parts e.context (document_slot outer.0.index) (outer.1 ∙ ap Some (slot-is outer.0 outer.2)) inner)

attached-context : (e : Entry) → is_placed e ≡ true → e.term ≡ attached_document → (k : ℕ) × (e.context ≡ in_outer (document_slot k))
attached-context e h t = by (seat_place (seat_of e)) refl h
  where
    by : (o : Option (List ℕ)) → seat_place (seat_of e) ≡ o → is_some o ≡ true → (k : ℕ) × (e.context ≡ in_outer (document_slot k))
    by None p k = cc
    by (Some place) p k = attached-at e (at-place (seat_of e) place p).0 t

-- ---- in an invoice

counted-once : (es : List Entry) (e : Entry) (k : ℕ) → is_counted es in_outer e.context.outer ≡ true → e.context ≡ in_outer (document_slot k) → 1 ≤ k
counted-once es e k h c =
    let slot : e.context.outer ≡ Some (document_slot k) = ap (λ (x : Context). x.outer) c in
    leb-true 1 k (and_parts _ _ (sym (ap (is_counted es in_outer) slot) ∙ h)).0

-- An entry with base64 is an attached document.
pub record IsAttached (e : Entry) : Type 0 where
  pub term : e.term ≡ attached_document
  pub number : ℕ
  pub context : e.context ≡ in_outer (document_slot number)
  pub first : 1 ≤ number

pub attached-entry : (es : List Entry) (e : Entry) (text : List ℕ) → IsInvoice es → Contains es e → base64_in e.value ≡ Some text → IsAttached e
attached-entry es e text invoice member base =
    let fits = All-contains (λ (x : Entry). Fits x.term x.value) es e invoice.fit member in
    let term = attached-term e.term fits.data_type fits.typed (typed fits.data_type fits.text e.value text fits.read base) in
    let context = attached-context e (all-member is_placed es e invoice.placed member) term in
    let counted = all-member (λ (x : Entry). is_counted es in_outer x.context.outer && is_counted es (in_inner x.context.outer) x.context.inner) es e
    invoice.numbered member in
    record {
      term = term;
      number = context.0;
      context = context.1;
      first = counted-once es e context.0 (and_parts _ _ counted).0 context.1;
    }

-- What a term has in a context is the value of an entry.
pub record IsEntryOf (es : List Entry) (term : Term) (c : Context) (value : Value) : Type 0 where
  pub entry : Entry
  pub member : Contains es entry
  pub term_is : entry.term ≡ term
  pub context_is : entry.context ≡ c
  pub value_is : entry.value ≡ value

pub entry-of : (es : List Entry) (term : Term) (c : Context) (value : Value) → value_in es term c ≡ Some value → IsEntryOf es term c value
entry-of es term c value h = by (find (is_at term c) es) refl h
  where
    by : (o : Option Entry) → find (is_at term c) es ≡ o → option_map (λ (e : Entry). e.value) o ≡ Some value → IsEntryOf es term c value
    by None f e = cc
    by (Some entry) f e =
        let found = find-is (is_at term c) es entry f in
        let parts = and_parts (same_term entry.term term) (same_context entry.context c) found.0 in
        record {
          entry = entry;
          member = found.1;
          term_is = same_term_is entry.term term parts.0;
          context_is = context_is entry.context c parts.1;
          value_is = same_Some _ _ e;
        }
