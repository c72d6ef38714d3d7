-- What a plain row picks in the document that an invoice is written as: the values of its term, in listing order.
use Rattle.std.proofs.Common.{◌≡◌, ℕ, zero, suc, ◌+◌, ◌<◌, ◌≤◌, Bool, true, false, not, ◌&&◌, ◌||◌, List, [], ◌∷◌, ◌++◌, length, get_or, map, filter, flat_map}
use Rattle.std.proofs.Common.{fold, max, Option, Some, None, ◌⊎◌, inl, inr, All, refl, sym, ap, ◌∙◌, subst, arith}
use Rattle.std.specs.Prelude.{◌==◌, nat_le, nat_lt, if◌then◌else◌, is_some, is_none, find, option_map, Contains}
use Rattle.std.specs.List.{list_all, range_with_len}
use Rattle.std.proofs.lemmas.Bool.{false≢true}
use Rattle.std.proofs.lemmas.Bool.Decides.{nat_tests}
use Rattle.std.proofs.lemmas.Option.{same_Some}
use Rattle.std.proofs.lemmas.List.Elements.{All-head, All-tail}
use Rattle.std.proofs.lemmas.List.Quantifiers.{position-Some}
use Rattle.inv_base.specs.Tree.{document_nodes}
use Rattle.term_table.specs.declared.groups.Group.{Group}
use Rattle.term_table.specs.declared.groups.Group.TheVariants as groups
use Rattle.term_table.specs.declared.terms.DataType.TheVariants as data_types
use Rattle.term_table.specs.declared.terms.Mark.TheVariants as marks
use Rattle.term_table.specs.declared.terms.Term.{Term}
use Rattle.term_table.specs.declared.terms.TermRow.{TermRow}
use Rattle.term_table.specs.declared.contexts.Slot.{Slot}
use Rattle.term_table.specs.declared.contexts.Context.{Context}
use Rattle.term_table.specs.Contexts.{root_context, slot_group, same_groups, stands_in, outer_group, inner_group, same_slot, same_context}
use Rattle.term_table.specs.Groups.{same_group, parent_of, occurrence_of}
use Rattle.term_table.specs.Places.{seat_place, place, slot_place, precedes, first_row}
use Rattle.term_table.specs.Rows.{row_in, row_of, is_row_in}
use Rattle.term_table.specs.SemanticModel.{same_term, is_extension, terms, extension_rows, listing_rows}
use Rattle.term_table.proofs.ExtensionLemmas.{extension-row_is}
use Rattle.term_table.proofs.GroupLemmas.{same_group_itself, same_groups_is}
use Rattle.term_table.proofs.RunLemmas.{same_ahead, never_before_itself}
use Rattle.term_table.proofs.SeatLemmas.{same_term_is}
use Rattle.inv_terms.specs.declared.values.Value.{Value}
use Rattle.inv_terms.specs.declared.values.Value.TheVariants as values_of
use Rattle.inv_terms.specs.declared.entries.Entry.{Entry}
use Rattle.inv_terms.specs.Listing.{seat_of, Fits, is_placed, comes_before, is_listed, is_counted, in_outer, in_inner, is_numbered, IsInvoice, is_at, value_in}
use Rattle.inv_terms.proofs.OrderLemmas.{same_members}
use Rattle.inv_terms.proofs.PushLemmas.{same_slot_is}
use Rattle.bind_rows.specs.declared.rows.Step.{Step}
use Rattle.bind_rows.specs.declared.rows.Row.{Row}
use Rattle.bind_rows.specs.declared.rows.Form.{Form}
use Rattle.bind_rows.specs.declared.rows.Written.TheVariants as written
use Rattle.bind_rows.specs.Added.{is_typed}
use Rattle.bind_table.specs.Lines.{Plan, nothing, a_line, plan_of}
use Rattle.bind_meaning.specs.Values.{form_for, parsed}
use Rattle.bind_meaning.specs.Elements.{string_at, is_full}
use Rattle.bind_meaning.specs.Picks.{Pick, nodes_picked}
use Rattle.bind_meaning.specs.Writing.{slot_for, context_for, formed, if_due, value_for, row_text, writes_entry}
use Rattle.bind_meaning.specs.Trees.{spots, spots_of, outer_spots, inner_spots, outer_count, inner_count, index_in, or_here, is_at_element, document_of}
use Rattle.binding_laws.specs.Written.{Spot, written_at}
use Rattle.binding_laws.specs.Apart.{stands_apart}
use Rattle.binding_laws.specs.Plain.{rows_at, groups_of, listed, stands_there, is_beyond, stands_nowhere_else, is_in_groups, is_whole, IsPlainThere}
use Rattle.binding_laws.specs.Plain.{is_written_by}
use Rattle.binding_laws.proofs.TreeLemmas.{Each, each-weaker, filter-same}
use Rattle.binding_laws.proofs.FormLemmas.{Laws, modelled-untyped, IsRead, ReadsAs, reads-as, whole-full, back-as, typed-back, whole-uncoded}
use Rattle.binding_laws.proofs.TakenLemmas.{as-modelled, taken-is, slots-there}
use Rattle.binding_laws.proofs.ValueLemmas as values
use Rattle.binding_laws.proofs.RowLemmas.{elements-law}
use Rattle.binding_laws.proofs.ListLemmas.{map-map}
use Rattle.binding_laws.proofs.CellLemmas.{own_text}
use Rattle.binding_laws.proofs.NodeLemmas.{and-false}
use Rattle.binding_laws.proofs.RowLemmas.{Place, places_at, places-spots}
use Rattle.binding_laws.proofs.PlaceLemmas.{of-map, places-lead}
use Rattle.binding_laws.proofs.SeatLemmas.{of-spots, leads-nowhere, leads-to-one, leads-to-two}
use Rattle.binding_laws.proofs.ContextLemmas.{Later, Rising, rising-filter, in-one, in-group, in-outer, in-groups}
use Rattle.binding_laws.proofs.ReachLemmas.{Among, among-front, among-back, among-filter, own-texts, Leads, leads-on, leads-in, leads-through, reached}

both : (a b : Bool) → (a && b) ≡ true → (a ≡ true) × (b ≡ true)
both true b h = (refl, h)
both false b h = absurd (false≢true h)

-- ---- what stands in an invoice

same_context_is : (a b : Context) → same_context a b ≡ true → a ≡ b
same_context_is a b h =
    let k = both (same_slot a.outer b.outer) (same_slot a.inner b.inner) h in
    λ i. record { outer = (same_slot_is a.outer b.outer k.0) i; inner = (same_slot_is a.inner b.inner k.1) i }

find-more : (p : Entry → Bool) (e : Entry) (es : List Entry) → find p (e ∷ es) ≡ (elim (p e) [ true ↦ Some e | false ↦ find p es ])
find-more p e es = go (p e) refl
  where
    go : (b : Bool) → p e ≡ b → find p (e ∷ es) ≡ (elim b [ true ↦ Some e | false ↦ find p es ])
    go true k = rw k refl
    go false k = rw k refl

pub record IsFound (p : Entry → Bool) (es : List Entry) (v : Value) : Type 0 where
  pub entry : Entry
  pub among : Among entry es
  pub passes : p entry ≡ true
  pub value : entry.value ≡ v

pub found-value : (p : Entry → Bool) (es : List Entry) (v : Value) → option_map (λ (e : Entry). e.value) (find p es) ≡ Some v → IsFound p es v
found-value p [] v h = absurd (let z : ◌≡◌ {A = Option Value} None (Some v) = h in cc)
found-value p (e ∷ es) v h = go (found-value p es v) (p e) refl (sym (ap (option_map (λ (x : Entry). x.value)) (find-more p e es)) ∙ h)
  where
    go : (option_map (λ (x : Entry). x.value) (find p es) ≡ Some v → IsFound p es v) → (b : Bool) → p e ≡ b
        → option_map (λ (x : Entry). x.value) (elim b [ true ↦ Some e | false ↦ find p es ]) ≡ Some v → IsFound p (e ∷ es) v
    go later true k z = record { entry = e; among = inl refl; passes = k; value = same_Some _ _ z }
    go later false k z = let w = later z in record { entry = w.entry; among = inr w.among; passes = w.passes; value = w.value }

all-among : (q : Entry → Bool) (x : Entry) (es : List Entry) → list_all q es ≡ true → Among x es → q x ≡ true
all-among q x [] h a = absurd a
all-among q x (e ∷ es) h (inl s) = ap q (sym s) ∙ (both (q e) (list_all q es) h).0
all-among q x (e ∷ es) h (inr a) = all-among q x es (both (q e) (list_all q es) h).1 a

abbrev in_order_of : Option (List ℕ) → Option (List ℕ) → Bool
in_order_of a b = elim a [ None ↦ false | Some p ↦ elim b [ None ↦ false | Some q ↦ precedes p q ] ]

before-itself : (e f : Entry) → seat_of e ≡ seat_of f → comes_before e f ≡ true → ⊥
before-itself e f s h = go (seat_place (seat_of f)) (ap (λ x. in_order_of (seat_place x) (seat_place (seat_of f))) (sym s) ∙ h)
  where
    go : (o : Option (List ℕ)) → in_order_of o o ≡ true → ⊥
    go None k = false≢true k
    go (Some p) k = false≢true (sym (never_before_itself p) ∙ k)

at-itself : (e : Entry) → is_at e.term e.context e ≡ true
at-itself e = pair (same-term e.term) (pair (same-slot e.context.outer) (same-slot e.context.inner))
  where
    pair : {a b : Bool} → a ≡ true → b ≡ true → (a && b) ≡ true
    pair e f = rw (e, f) refl

    same-term : (t : Term) → same_term t t ≡ true
    same-term t = grind (arith, nat_tests)

    same-slot : (o : Option Slot) → same_slot o o ≡ true
    same-slot None = refl
    same-slot (Some s) = pair (same_group_itself s.group) (let z : (s.index == s.index) ≡ true = grind (arith, nat_tests) in z)

same-seat : (e f : Entry) → is_at e.term e.context f ≡ true → seat_of f ≡ seat_of e
same-seat e f h =
    let k = both (same_term f.term e.term) (same_context f.context e.context) h in
    λ i. record { term = (same_term_is f.term e.term k.0) i; context = (same_context_is f.context e.context k.1) i }

pub own-value : (es : List Entry) (e : Entry) → is_listed es ≡ true → Among e es → value_in es e.term e.context ≡ Some e.value
own-value [] e h a = absurd a
own-value (f ∷ es) e h a = ap (option_map (λ (x : Entry). x.value)) (find-more (is_at e.term e.context) f es) ∙
    go (own-value es e (both (list_all (comes_before f) es) (is_listed es) h).1) (is_at e.term e.context f) refl a
  where
    parts : (list_all (comes_before f) es ≡ true) × (is_listed es ≡ true)
    parts = both (list_all (comes_before f) es) (is_listed es) h

    go : (Among e es → value_in es e.term e.context ≡ Some e.value) → (b : Bool) → is_at e.term e.context f ≡ b → (f ≡ e) ⊎ Among e es →
        option_map (λ (x : Entry). x.value) (elim b [ true ↦ Some f | false ↦ find (is_at e.term e.context) es ]) ≡ Some e.value
    go later true k (inl s) = ap (λ (x : Entry). Some x.value) s
    go later true k (inr m) = absurd (before-itself f e (same-seat e f k) (all-among (comes_before f) e es parts.0 m))
    go later false k (inl s) = absurd (false≢true (sym k ∙ (ap (is_at e.term e.context) s ∙ at-itself e)))
    go later false k (inr m) = later m

-- ---- the entries of a term

abbrev pub entry_at : List Entry → Term → Context → List Entry
entry_at es term d = elim (value_in es term d) [ None ↦ [] | Some v ↦ record { context = d; term = term; value = v } ∷ [] ]

all-filter : (q p : Entry → Bool) (es : List Entry) → list_all q es ≡ true → list_all q (filter p es) ≡ true
all-filter q p [] h = refl
all-filter q p (e ∷ es) h = go (all-filter q p es) (p e) (both (q e) (list_all q es) h)
  where
    go : (list_all q es ≡ true → list_all q (filter p es) ≡ true) → (b : Bool) → (q e ≡ true) × (list_all q es ≡ true) →
        list_all q (if b then e ∷ filter p es else filter p es) ≡ true
    go later true k = rw (k.0, later k.1) refl
    go later false k = later k.1

pub listed-filter : (p : Entry → Bool) (es : List Entry) → is_listed es ≡ true → is_listed (filter p es) ≡ true
listed-filter p [] h = refl
listed-filter p (e ∷ es) h = go (listed-filter p es) (p e) (both (list_all (comes_before e) es) (is_listed es) h)
  where
    go : (is_listed es ≡ true → is_listed (filter p es) ≡ true) → (b : Bool) → (list_all (comes_before e) es ≡ true) × (is_listed es ≡ true) →
        is_listed (if b then e ∷ filter p es else filter p es) ≡ true
    go later true k = rw (all-filter (comes_before e) p es k.0, later k.1) refl
    go later false k = later k.1

pub of-filter : (p : Entry → Bool) (x : Entry) (es : List Entry) → Among x (filter p es) → (Among x es) × (p x ≡ true)
of-filter p x [] h = absurd h
of-filter p x (e ∷ es) h = go (of-filter p x es) (p e) refl h
  where
    go : (Among x (filter p es) → (Among x es) × (p x ≡ true)) → (b : Bool) → p e ≡ b → Among x (if b then e ∷ filter p es else filter p es) →
        ((e ≡ x) ⊎ Among x es) × (p x ≡ true)
    go later true k (inl s) = (inl s, ap p (sym s) ∙ k)
    go later true k (inr m) = let w = later m in (inr w.0, w.1)
    go later false k m = let w = later m in (inr w.0, w.1)

pub contains-among : (x : Entry) (xs : List Entry) → Contains xs x → Among x xs
contains-among x [] w = absurd (let l = w.1 in omega (arith, l))
contains-among x (y ∷ xs) w = go (contains-among x xs) w.0 w.1 w.2
  where
    go : (Contains xs x → Among x xs) → (k : ℕ) → k < length (y ∷ xs) → get_or (y ∷ xs) k x ≡ x → (y ≡ x) ⊎ Among x xs
    go later zero l at = inl at
    go later (suc k) l at = inr (later (k, omega (arith, l), at))

pub among-contains : (x : Entry) (xs : List Entry) → Among x xs → Contains xs x
among-contains x [] h = absurd h
among-contains x (y ∷ xs) (inl s) = (0, omega arith, s)
among-contains x (y ∷ xs) (inr h) = let w = among-contains x xs h in (suc w.0, (let l = w.1 in omega (arith, l)), w.2)

-- ---- a later context comes later in listing order

some-place : (o : Option (List ℕ)) → is_some o ≡ true → (p : List ℕ) × (o ≡ Some p)
some-place None h = absurd (false≢true h)
some-place (Some p) h = (p, refl)

placed-row : (o : Option ℕ) (d : Context) (p : List ℕ) → option_map (λ row. place row d) o ≡ Some p → (r : ℕ) × (p ≡ place r d)
placed-row None d p h = absurd (let z : ◌≡◌ {A = Option (List ℕ)} None (Some p) = h in cc)
placed-row (Some r) d p h = (r, sym (same_Some _ _ h))

less-ahead : (x y : ℕ) (p q : List ℕ) → x < y → precedes (x ∷ p) (y ∷ q) ≡ true
less-ahead x y p q h = grind (arith, nat_tests)

later-places : (a b : Context) (r q : ℕ) → Later a b → precedes (place r a) (place q b) ≡ true
later-places a b r q (inl l) =
    ap (λ o. precedes (slot_place r o ++ (slot_place r a.inner ++ r ∷ [])) (place q b)) l.first_is
    ∙ (ap (λ o. precedes (slot_place r (Some l.first) ++ (slot_place r a.inner ++ r ∷ [])) (slot_place q o ++ (slot_place q b.inner ++ q ∷ []))) l.second_is
    ∙ (same_ahead (first_row l.first.group) (first_row l.second.group) (l.first.index ∷ (slot_place r a.inner ++ r ∷ []))
    (l.second.index ∷ (slot_place q b.inner ++ q ∷ [])) (ap first_row l.same)
    ∙ less-ahead l.first.index l.second.index (slot_place r a.inner ++ r ∷ []) (slot_place q b.inner ++ q ∷ []) l.less))
later-places a b r q (inr l) =
    ap (λ o. precedes (slot_place r o ++ (slot_place r a.inner ++ r ∷ [])) (place q b)) l.around_first
    ∙ (ap (λ o. precedes (slot_place r (Some l.around) ++ (slot_place r a.inner ++ r ∷ [])) (slot_place q o ++ (slot_place q b.inner ++ q ∷ [])))
    l.around_second
    ∙ (same_ahead (first_row l.around.group) (first_row l.around.group) (l.around.index ∷ (slot_place r a.inner ++ r ∷ []))
    (l.around.index ∷ (slot_place q b.inner ++ q ∷ [])) refl
    ∙ (same_ahead l.around.index l.around.index (slot_place r a.inner ++ r ∷ []) (slot_place q b.inner ++ q ∷ []) refl
    ∙ (ap (λ o. precedes (slot_place r o ++ r ∷ []) (slot_place q b.inner ++ q ∷ [])) l.first_is
    ∙ (ap (λ o. precedes (slot_place r (Some l.first) ++ r ∷ []) (slot_place q o ++ q ∷ [])) l.second_is
    ∙ (same_ahead (first_row l.first.group) (first_row l.second.group) (l.first.index ∷ (r ∷ [])) (l.second.index ∷ (q ∷ [])) (ap first_row l.same)
    ∙ less-ahead l.first.index l.second.index (r ∷ []) (q ∷ []) l.less))))))

later-entries : (e f : Entry) → is_placed e ≡ true → is_placed f ≡ true → Later e.context f.context → comes_before e f ≡ true
later-entries e f p q l =
    let a = some-place (seat_place (seat_of e)) p in
    let b = some-place (seat_place (seat_of f)) q in
    let r = placed-row (row_of e.term e.context) e.context a.0 a.1 in
    let s = placed-row (row_of f.term f.context) f.context b.0 b.1 in
    ap (λ o. in_order_of o (seat_place (seat_of f))) a.1
    ∙ (ap (λ o. in_order_of (Some a.0) o) b.1
    ∙ (ap (λ x. precedes x b.0) r.1 ∙ (ap (precedes (place r.0 e.context)) s.1 ∙ later-places e.context f.context r.0 s.0 l)))

-- ---- the groups of a term

all-at : (q : TermRow → Bool) (rows : List TermRow) (k : ℕ) (d : TermRow) → list_all q rows ≡ true → k < length rows → q (get_or rows k d) ≡ true
all-at q [] k d h l = absurd (omega (arith, l))
all-at q (r ∷ rows) zero d h l = (both (q r) (list_all q rows) h).0
all-at q (r ∷ rows) (suc k) d h l = all-at q rows k d (both (q r) (list_all q rows) h).1 (omega (arith, l))

or-not : (a b : Bool) → a ≡ true → (not a || b) ≡ true → b ≡ true
or-not true b e h = h
or-not false b e h = absurd (false≢true e)

some-number : (o : Option ℕ) (d : Context) → is_some (option_map (λ row. place row d) o) ≡ true → (k : ℕ) × (o ≡ Some k)
some-number None d h = absurd (false≢true h)
some-number (Some k) d h = (k, refl)

-- a term that stands in these groups alone, stands there
pub groups-are : (e : Entry) (term : Term) (outer inner : Option Group) → e.term ≡ term → is_placed e ≡ true → stands_there term outer inner ≡ true
    → (slot_group e.context.outer ≡ outer) × (slot_group e.context.inner ≡ inner)
groups-are e term outer inner same p there =
    let o : Option Group = slot_group e.context.outer in
    let i : Option Group = slot_group e.context.inner in
    let n = some-number (row_of e.term e.context) e.context p in
    let d : TermRow = record { term = e.term; group = groups.Root; data_type = data_types.T; mark = marks.One; list = None } in
    let at = position-Some (is_row_in e.term o i) listing_rows n.0 d n.1 in
    let r : TermRow = get_or listing_rows n.0 d in
    let is = both (same_term r.term e.term) (stands_in r.group o i) at.1 in
    let here = both (same_groups o (outer_group r.group)) (same_groups i (inner_group r.group)) is.1 in
    let so = or-not (same_term r.term term) (stands_in r.group outer inner) (ap (same_term r.term) (sym same) ∙ is.0)
    (all-at (λ (x : TermRow). not (same_term x.term term) || stands_in x.group outer inner) listing_rows n.0 d there at.0) in
    let therefore = both (same_groups outer (outer_group r.group)) (same_groups inner (inner_group r.group)) so in (
      same_groups_is o (outer_group r.group) here.0 ∙ sym (same_groups_is outer (outer_group r.group) therefore.0),
      same_groups_is i (inner_group r.group) here.1 ∙ sym (same_groups_is inner (inner_group r.group) therefore.1),
    )

-- a term that stands in these groups alone is one of the model: one that a table adds may stand in lines and in the invoice
pub stands-modelled : (term : Term) (outer inner : Option Group) → stands_there term outer inner ≡ true → is_extension term ≡ false
unfolding parent_of occurrence_of
stands-modelled term outer inner there = go (is_extension term) refl
  where
    at_root : Entry
    at_root = record { context = root_context; term = term; value = values_of.Text [] }

    in_line : Entry
    in_line = record {
      context = record { outer = Some (record { group = groups.InvoiceLine; index = 1 }); inner = None };
      term = term;
      value =
          values_of.Text [];
    }

    has-place : (o : Option ℕ) (c : Context) → is_some o ≡ true → is_some (option_map (λ row. place row c) o) ≡ true
    has-place None c h = absurd (false≢true h)
    has-place (Some k) c h = refl

    go : (b : Bool) → is_extension term ≡ b → b ≡ false
    go false own = refl
    go true own =
        let first : is_placed at_root ≡ true = has-place (row_in term None None) root_context (ap is_some (sym (extension-row_is term None None own))) in
        let second : is_placed in_line ≡ true = has-place (row_in term (Some groups.InvoiceLine) None) in_line.context
        (ap is_some (sym (extension-row_is term (Some groups.InvoiceLine) None own))) in
        let a = groups-are at_root term outer inner refl first there in
        let b = groups-are in_line term outer inner refl second there in
        absurd (let z : ◌≡◌ {A = Option Group} None (Some groups.InvoiceLine) = a.0 ∙ sym b.0 in cc)

-- the groups of a context differ
abbrev differ : Option Group → Option Group → Bool
differ (Some g) (Some h) = not (same_group g h)
differ o i = true

differ-everywhere : list_all (λ (r : TermRow). differ (outer_group r.group) (inner_group r.group)) listing_rows ≡ true
unfolding terms extension_rows listing_rows parent_of occurrence_of
differ-everywhere = refl

pub groups-differ : (e : Entry) → is_placed e ≡ true → (g h : Group) → slot_group e.context.outer ≡ Some g → slot_group e.context.inner ≡ Some h →
    same_group g h ≡ false
groups-differ e p g h a b =
    let o : Option Group = slot_group e.context.outer in
    let i : Option Group = slot_group e.context.inner in
    let n = some-number (row_of e.term e.context) e.context p in
    let d : TermRow = record { term = e.term; group = groups.Root; data_type = data_types.T; mark = marks.One; list = None } in
    let at = position-Some (is_row_in e.term o i) listing_rows n.0 d n.1 in
    let r : TermRow = get_or listing_rows n.0 d in
    let is = both (same_term r.term e.term) (stands_in r.group o i) at.1 in
    let here = both (same_groups o (outer_group r.group)) (same_groups i (inner_group r.group)) is.1 in
    let outer : outer_group r.group ≡ Some g = sym (same_groups_is o (outer_group r.group) here.0) ∙ a in
    let inner : inner_group r.group ≡ Some h = sym (same_groups_is i (inner_group r.group) here.1) ∙ b in
    let k : differ (Some g) (Some h) ≡ true = (λ z. differ ((sym outer) z) ((sym inner) z)) ∙
    all-at (λ (x : TermRow). differ (outer_group x.group) (inner_group x.group)) listing_rows n.0 d differ-everywhere at.0 in
    not-so (same_group g h) k
  where
    not-so : (x : Bool) → not x ≡ true → x ≡ false
    not-so true z = absurd (false≢true z)
    not-so false z = refl

-- ---- the contexts of a path

abbrev pub IsAtGroups : Option Group → Option Group → Context → Type 0
IsAtGroups o i c = (slot_group c.outer ≡ o) × (slot_group c.inner ≡ i)

-- the context is that of the groups, or one around it
abbrev pub IsReachable : Option Group → Option Group → Context → Type 0
IsReachable o i c = IsAtGroups o i c ⊎ (IsAtGroups None None c ⊎ (IsAtGroups o None c ⊎ IsAtGroups i None c))

or-of : (c d : Context) (ds : List Context) → Among d (or_here c ds) → (c ≡ d) ⊎ Among d ds
or-of c d [] (inl e) = inl e
or-of c d [] (inr a) = absurd a
or-of c d (x ∷ ds) a = inr a

-- the contexts of a group's elements
pub spots-reach : (es : List Entry) (f : Group) (c : Context) → Among c (spots es root_context (Some f)) → IsReachable (Some f) None c
spots-reach es f c a =
    elim (or-of root_context c (outer_spots f (outer_count es f)) a) [
      | inl w ↦ inr (inl (ap (λ (x : Context). slot_group x.outer) (sym w), ap (λ (x : Context). slot_group x.inner) (sym w)))
      | inr a ↦ let k = of-spots (λ k. record { outer = Some (record { group = f; index = k }); inner = None }) 1 (outer_count es f) c a in
          inl (ap (λ (x : Context). slot_group x.outer) k.1.1.1, ap (λ (x : Context). slot_group x.inner) k.1.1.1)
    ]

reach-of : (es : List Entry) (path : List Step) (c : Context) (o i : Option Group) → groups_of path ≡ listed o ++ listed i → (is_some o || is_none i) ≡ true →
    Leads es path root_context c → IsReachable o i c
reach-of es path c None None e n l = let w = leads-nowhere es path root_context c e l in
    inl (ap (λ (x : Context). slot_group x.outer) (sym w), ap (λ (x : Context). slot_group x.inner) (sym w))
reach-of es path c None (Some g) e n l = absurd (false≢true n)
reach-of es path c (Some f) None e n l = spots-reach es f c (leads-to-one es path root_context c f e l)
reach-of es path c (Some f) (Some g) e n l =
    let two = leads-to-two es path root_context c f g e l in
    elim (or-of root_context two.0 (outer_spots f (outer_count es f)) two.1.0) [
      | inl w ↦ elim (or-of root_context c (outer_spots g (outer_count es g)) (subst (λ x. Among c (spots es x (Some g))) (sym w) two.1.1)) [
        | inl v ↦ inr (inl (ap (λ (x : Context). slot_group x.outer) (sym v), ap (λ (x : Context). slot_group x.inner) (sym v)))
        | inr a ↦ let k = of-spots (λ k. record { outer = Some (record { group = g; index = k }); inner = None }) 1 (outer_count es g) c a in
            inr (inr (inr (ap (λ (x : Context). slot_group x.outer) k.1.1.1, ap (λ (x : Context). slot_group x.inner) k.1.1.1)))
      ]
      | inr a ↦ let k = of-spots (λ k. record { outer = Some (record { group = f; index = k }); inner = None }) 1 (outer_count es f) two.0 a in
          let slot : Slot = record { group = f; index = k.0 } in
          let here : Context = record { outer = Some slot; inner = None } in
          elim (or-of here c (inner_spots slot g (inner_count es slot g)) (subst (λ x. Among c (spots es x (Some g))) k.1.1.1 two.1.1)) [
            | inl v ↦ inr (inr (inl (ap (λ (x : Context). slot_group x.outer) (sym v), ap (λ (x : Context). slot_group x.inner) (sym v))))
            | inr b ↦ let m = of-spots (λ k. record { outer = Some slot; inner = Some (record { group = g; index = k }) }) 1 (inner_count es slot g) c b in
                inl (ap (λ (x : Context). slot_group x.outer) m.1.1.1, ap (λ (x : Context). slot_group x.inner) m.1.1.1)
          ]
    ]

same-groups-itself : (o : Option Group) → same_groups o o ≡ true
same-groups-itself None = refl
same-groups-itself (Some g) = same_group_itself g

-- where such a context is one of the term's, it is that of the groups
pub context-there : (e : Entry) (term : Term) (o i : Option Group) → e.term ≡ term → is_placed e ≡ true → stands_nowhere_else term o i ≡ true →
    IsReachable o i e.context → IsAtGroups o i e.context
context-there e term o i same p there reach =
    let eo : Option Group = slot_group e.context.outer in
    let ei : Option Group = slot_group e.context.inner in
    let n = some-number (row_of e.term e.context) e.context p in
    let d : TermRow = record { term = e.term; group = groups.Root; data_type = data_types.T; mark = marks.One; list = None } in
    let at = position-Some (is_row_in e.term eo ei) listing_rows n.0 d n.1 in
    let r : TermRow = get_or listing_rows n.0 d in
    let is = both (same_term r.term e.term) (stands_in r.group eo ei) at.1 in
    let so = or-not (same_term r.term term) (stands_in r.group o i || is_beyond r.group o i) (ap (same_term r.term) (sym same) ∙ is.0)
    (all-at (λ (x : TermRow). not (same_term x.term term) || (stands_in x.group o i || is_beyond x.group o i)) listing_rows n.0 d there at.0) in
    go r.group (stands_in r.group o i) refl so is.1 reach
  where
    not-so : (x : Bool) → not x ≡ true → x ≡ false
    not-so true z = absurd (false≢true z)
    not-so false z = refl

    -- it stands in one of the contexts around
    around : (group : Group) (a b : Option Group) → stands_in group (slot_group e.context.outer) (slot_group e.context.inner) ≡ true → IsAtGroups a b e.context
        → stands_in group a b ≡ true
    around group a b h k = (λ z. stands_in group ((sym k.0) z) ((sym k.1) z)) ∙ h

    never : (group : Group) → is_beyond group o i ≡ true →
        (stands_in group None None ≡ true) ⊎ ((stands_in group o None ≡ true) ⊎ (stands_in group i None ≡ true)) → ⊥
    never group h (inl k) = false≢true (sym (not-so _ h) ∙ ap (λ b. b || (stands_in group o None || stands_in group i None)) k)
    never group h (inr (inl k)) = false≢true (sym (not-so _ h) ∙
        (ap (λ b. stands_in group None None || (b || stands_in group i None)) k ∙ or-true (stands_in group None None)))
      where
        or-true : (b : Bool) → (b || true) ≡ true
        or-true true = refl
        or-true false = refl
    never group h (inr (inr k)) =
        false≢true (sym (not-so _ h) ∙ (ap (λ b. stands_in group None None || (stands_in group o None || b)) k ∙
        (ap (λ b. stands_in group None None || b) (or-true (stands_in group o None)) ∙ or-true (stands_in group None None))))
      where
        or-true : (b : Bool) → (b || true) ≡ true
        or-true true = refl
        or-true false = refl

    go : (group : Group) (b : Bool) → stands_in group o i ≡ b → (b || is_beyond group o i) ≡ true →
        stands_in group (slot_group e.context.outer) (slot_group e.context.inner) ≡ true → IsReachable o i e.context → IsAtGroups o i e.context
    go group b h k l (inl m) = m
    go group true h k l (inr m) =
        let here = both (same_groups (slot_group e.context.outer) (outer_group group)) (same_groups (slot_group e.context.inner) (inner_group group)) l in
        let therefore = both (same_groups o (outer_group group)) (same_groups i (inner_group group)) h in (
          same_groups_is (slot_group e.context.outer) (outer_group group) here.0 ∙ sym (same_groups_is o (outer_group group) therefore.0),
          same_groups_is (slot_group e.context.inner) (inner_group group) here.1 ∙ sym (same_groups_is i (inner_group group) therefore.1),
        )
    go group false h k l (inr (inl m)) = absurd (never group k (inl (around group None None l m)))
    go group false h k l (inr (inr (inl m))) = absurd (never group k (inr (inl (around group o None l m))))
    go group false h k l (inr (inr (inr m))) = absurd (never group k (inr (inr (around group i None l m))))

-- a context that is led to and has the slots of both groups is that of the groups
pub slots-at : (o i : Option Group) (d : Context) → ((is_none o || is_some d.outer) && (is_none i || is_some d.inner)) ≡ true → IsReachable o i d →
    IsAtGroups o i d
slots-at o i d h reach =
    let w = both (is_none o || is_some d.outer) (is_none i || is_some d.inner) h in
    go w.0 w.1 reach
  where
    no-group : (g : Option Group) (s : Option Slot) → (is_none g || is_some s) ≡ true → slot_group s ≡ None → g ≡ None
    no-group None s k e = refl
    no-group (Some g) None k e = absurd (false≢true k)
    no-group (Some g) (Some s) k e = absurd (let z : ◌≡◌ {A = Option Group} (Some s.group) None = e in cc)

    go : (is_none o || is_some d.outer) ≡ true → (is_none i || is_some d.inner) ≡ true → IsReachable o i d → IsAtGroups o i d
    go outer inner (inl at) = at
    go outer inner (inr (inl at)) = (at.0 ∙ sym (no-group o d.outer outer at.0), at.1 ∙ sym (no-group i d.inner inner at.1))
    go outer inner (inr (inr (inl at))) = (at.0, at.1 ∙ sym (no-group i d.inner inner at.1))
    go outer inner (inr (inr (inr at))) =
        let none = no-group i d.inner inner at.1 in
        let first : slot_group d.outer ≡ None = at.0 ∙ none in
        (first ∙ sym (no-group o d.outer outer first), at.1 ∙ sym none)

-- ---- occurrences

in-range : (f : ℕ → Context) (k n i : ℕ) → k ≤ i → i < k + n → Among (f i) (map f (range_with_len k n))
in-range f k zero i l r = absurd (omega (arith, l, r))
in-range f k (suc n) i l r = go (in-range f (k + 1) n i) (nat_lt k i) refl
  where
    go : (k + 1 ≤ i → i < k + 1 + n → Among (f i) (map f (range_with_len (k + 1) n))) → (b : Bool) → nat_lt k i ≡ b →
        (f k ≡ f i) ⊎ Among (f i) (map f (range_with_len (k + 1) n))
    go later true e = inr (later (let z : k < i = grind (arith, nat_tests, e) in omega (arith, z)) (omega (arith, r)))
    go later false e = inl (ap f (let z : i ≤ k = grind (arith, nat_tests, e) in omega (arith, l, z)))

fold-least : (xs : List ℕ) (n : ℕ) → n ≤ fold max n xs
fold-least [] n = omega arith
fold-least (x ∷ xs) n = let h = fold-least xs (max n x) in omega (arith, h)

fold-most : (g : Entry → ℕ) (e : Entry) (es : List Entry) (n : ℕ) → Among e es → g e ≤ fold max n (map g es)
fold-most g e [] n h = absurd h
fold-most g e (f ∷ es) n (inl s) = let h = fold-least (map g es) (max n (g f)) in let k : g f ≡ g e = ap g s in omega (arith, h, k)
fold-most g e (f ∷ es) n (inr m) = fold-most g e es (max n (g f)) m

or-among : (c d : Context) (ds : List Context) → Among d ds → Among d (or_here c ds)
or-among c d [] h = absurd h
or-among c d (x ∷ ds) h = h

counted : (es : List Entry) (around : Slot → Context) (s : Slot) → is_counted es around (Some s) ≡ true → 1 ≤ s.index
counted es around s h = let k = (both (nat_le 1 s.index) _ h).0 in grind (arith, nat_tests, k)

numbered-at : (es : List Entry) (e : Entry) → is_numbered es ≡ true → Among e es → (is_counted es in_outer e.context.outer ≡ true) ×
    (is_counted es (in_inner e.context.outer) e.context.inner ≡ true)
numbered-at es e h a =
    both (is_counted es in_outer e.context.outer) (is_counted es (in_inner e.context.outer) e.context.inner)
    (all-among (λ (x : Entry). is_counted es in_outer x.context.outer && is_counted es (in_inner x.context.outer) x.context.inner) e es h a)

own-index : (g : Group) (s : Slot) → s.group ≡ g → index_in g (Some s) ≡ s.index
own-index g s e = ap (λ b. elim b [ true ↦ s.index | false ↦ 0 ]) (ap (same_group s.group) (sym e) ∙ same_group_itself s.group)

outer-among : (es : List Entry) (e : Entry) (g : Group) (k : ℕ) → Among e es → is_numbered es ≡ true → e.context.outer ≡ Some (record { group = g; index = k })
    → Among (record { outer = Some (record { group = g; index = k }); inner = None }) (spots es root_context (Some g))
outer-among es e g k a h o =
    let c = counted es in_outer (record { group = g; index = k }) (ap (is_counted es in_outer) (sym o) ∙ (numbered-at es e h a).0) in
    let m = fold-most (λ (x : Entry). index_in g x.context.outer) e es 0 a in
    let i : index_in g e.context.outer ≡ k = ap (index_in g) o ∙ own-index g (record { group = g; index = k }) refl in
    or-among root_context _ (outer_spots g (outer_count es g))
    (in-range (λ j. record { outer = Some (record { group = g; index = j }); inner = None }) 1 (outer_count es g) k c (omega (arith, m, i)))

same-slot-itself : (o : Option Slot) → same_slot o o ≡ true
same-slot-itself None = refl
same-slot-itself (Some s) = rw (same_group_itself s.group) (let z : (s.index == s.index) ≡ true = grind (arith, nat_tests) in z)

inner-among : (es : List Entry) (e : Entry) (o : Slot) (g : Group) (k : ℕ) (c : Context) → Among e es → is_numbered es ≡ true → e.context.outer ≡ Some o →
    e.context.inner ≡ Some (record { group = g; index = k })
    → c.outer ≡ Some o → Among (record { outer = Some o; inner = Some (record { group = g; index = k }) }) (spots es c (Some g))
inner-among es e o g k c a h at in_it here =
    let n = counted es (in_inner e.context.outer) (record { group = g; index = k }) (ap (is_counted es (in_inner e.context.outer)) (sym in_it) ∙
    (numbered-at es e h a).1) in
    let m = fold-most (λ (x : Entry). elim (same_slot x.context.outer (Some o)) [ true ↦ index_in g x.context.inner | false ↦ 0 ]) e es 0 a in
    let i : (elim (same_slot e.context.outer (Some o)) [ true ↦ index_in g e.context.inner | false ↦ 0 ]) ≡ k =
    ap (λ b. elim b [ true ↦ index_in g e.context.inner | false ↦ 0 ]) (ap (λ x. same_slot x (Some o)) at ∙ same-slot-itself (Some o))
    ∙ (ap (index_in g) in_it ∙ own-index g (record { group = g; index = k }) refl) in
    or-among c _ (spots_of es c g)
    (subst (λ x. Among (record { outer = Some o; inner = Some (record { group = g; index = k }) })
    (elim x [ None ↦ outer_spots g (outer_count es g) | Some outer ↦ inner_spots outer g (inner_count es outer g) ])) (sym here)
    (in-range (λ j. record { outer = Some o; inner = Some (record { group = g; index = j }) }) 1 (inner_count es o g) k n (omega (arith, m, i))))

-- ---- the law

slot-of-group : (o : Option Slot) (g : Group) → slot_group o ≡ Some g → (k : ℕ) × (o ≡ Some (record { group = g; index = k }))
slot-of-group None g h = absurd (let z : ◌≡◌ {A = Option Group} None (Some g) = h in cc)
slot-of-group (Some s) g h = (s.index, (λ i. Some (record { group = (same_Some _ _ h) i; index = s.index })))

pub no-slot : (o : Option Slot) → slot_group o ≡ None → o ≡ None
no-slot None h = refl
no-slot (Some s) h = absurd (let z : Some s.group ≡ None = h in cc)

module _ (law : Laws) (es : List Entry) (invoice : IsInvoice es) (term : Term) where
  abbrev pub of_term : Entry → Bool
  of_term e = same_term e.term term

  -- ---- the entries at the elements

  abbrev pub entries-of : List Spot → List Entry
  entries-of spots = flat_map (λ (spot : Spot). entry_at es term spot.context) spots

  pub at-value : (d : Context) (v : Value) → value_in es term d ≡ Some v → (Among (record { context = d; term = term; value = v }) es)
  at-value d v h =
      let w = found-value (is_at term d) es v h in
      let k = both (same_term w.entry.term term) (same_context w.entry.context d) w.passes in
      subst (λ x. Among x es) (λ i. record {
        context = (same_context_is w.entry.context d k.1) i;
        term = (same_term_is w.entry.term term k.0) i;
        value =
            w.value i;
      }) w.among

  pub placed-at : (e : Entry) → Among e es → is_placed e ≡ true
  placed-at e a = all-among is_placed e es invoice.placed a

  pub fits-among : (e : Entry) (xs : List Entry) → All (λ (x : Entry). Fits x.term x.value) xs → Among e xs → Fits e.term e.value
  fits-among e [] h a = absurd a
  fits-among e (x ∷ xs) h (inl s) = subst (λ (z : Entry). Fits z.term z.value) s (All-head (λ (z : Entry). Fits z.term z.value) x xs h)
  fits-among e (x ∷ xs) h (inr a) = fits-among e xs (All-tail (λ (z : Entry). Fits z.term z.value) x xs h) a

  -- the string of a value that is written by itself
  pub one-string : (form : Form) → is_whole (form_for form term) ≡ true → (d : Context) (o : Option Value) → value_in es term d ≡ o
      → (if is_full (elim o [ None ↦ [] | Some value ↦ formed (form_for form term) es d value ]) then
      (elim o [ None ↦ [] | Some value ↦ formed (form_for form term) es d value ]) ∷ [] else [])
      ≡ map (λ (e : Entry). formed (form_for form term) es e.context e.value)
      (elim o [ None ↦ [] | Some v ↦ record { context = d; term = term; value = v } ∷ [] ])
  one-string form whole d None h = refl
  one-string form whole d (Some v) h =
      ap (λ b. if b then formed (form_for form term) es d v ∷ [] else [])
      (whole-full law form term es d v whole (fits-among (record { context = d; term = term; value = v }) es invoice.fit (at-value d v h)))

  -- order
  pub comes-all : (e : Entry) → Among e es → (spots : List Spot) → Each (λ (spot : Spot). Later e.context spot.context) spots →
      list_all (comes_before e) (entries-of spots) ≡ true
  comes-all e a [] h = refl
  comes-all e a (spot ∷ spots) h = go (comes-all e a spots h.1) (value_in es term spot.context) refl
    where
      go : list_all (comes_before e) (flat_map (λ (x : Spot). entry_at es term x.context) spots) ≡ true → (o : Option Value) → value_in es term spot.context ≡ o
          → list_all (comes_before e) ((elim o [ None ↦ [] | Some v ↦ record { context = spot.context; term = term; value = v } ∷ [] ]) ++
          flat_map (λ (x : Spot). entry_at es term x.context) spots) ≡ true
      go later None k = later
      go later (Some v) k =
          rw (later-entries e (record { context = spot.context; term = term; value = v }) (placed-at e a)
          (placed-at (record { context = spot.context; term = term; value = v }) (at-value spot.context v k)) h.0)
          later

  pub listed-entries : (spots : List Spot) → Rising (λ (a : Spot) (b : Spot). Later a.context b.context) spots → is_listed (entries-of spots) ≡ true
  listed-entries [] h = refl
  listed-entries (spot ∷ spots) h = go (listed-entries spots h.1) (value_in es term spot.context) refl
    where
      go : is_listed (flat_map (λ (x : Spot). entry_at es term x.context) spots) ≡ true → (o : Option Value) → value_in es term spot.context ≡ o
          → is_listed ((elim o [ None ↦ [] | Some v ↦ record { context = spot.context; term = term; value = v } ∷ [] ]) ++
          flat_map (λ (x : Spot). entry_at es term x.context) spots) ≡ true
      go later None k = later
      go later (Some v) k = rw (comes-all (record { context = spot.context; term = term; value = v }) (at-value spot.context v k) spots h.0) later

  -- members
  pub entry-known : (spots : List Spot) (x : Entry) → Among x (entries-of spots) → Among x (filter of_term es)
  entry-known [] x h = absurd h
  entry-known (spot ∷ spots) x h = go (entry-known spots x) (value_in es term spot.context) refl h
    where
      go : (Among x (flat_map (λ (y : Spot). entry_at es term y.context) spots) → Among x (filter (λ (e : Entry). same_term e.term term) es)) →
          (o : Option Value) → value_in es term spot.context ≡ o
          → Among x ((elim o [ None ↦ [] | Some v ↦ record { context = spot.context; term = term; value = v } ∷ [] ]) ++
          flat_map (λ (y : Spot). entry_at es term y.context) spots)
          → Among x (filter (λ (e : Entry). same_term e.term term) es)
      go later None k m = later m
      go later (Some v) k (inl s) =
          subst (λ y. Among y (filter (λ (e : Entry). same_term e.term term) es)) s
          (among-filter (λ (e : Entry). same_term e.term term) (record { context = spot.context; term = term; value = v }) es
          (let z : same_term term term ≡ true = grind (arith, nat_tests) in z) (at-value spot.context v k))
      go later (Some v) k (inr m) = later m

  pub among-entries : (x : Entry) (spots : List Spot) → x.term ≡ term → value_in es term x.context ≡ Some x.value →
      Among x.context (map (λ (spot : Spot). spot.context) spots) → Among x (entries-of spots)
  among-entries x [] e v h = absurd h
  among-entries x (spot ∷ spots) e v (inl s) =
      among-front x (entry_at es term spot.context) (flat_map (λ (y : Spot). entry_at es term y.context) spots)
      (subst (λ c. Among x (entry_at es term c)) (sym s)
      (subst (λ (o : Option Value). Among x (elim o [ None ↦ [] | Some w ↦ record { context = x.context; term = term; value = w } ∷ [] ])) (sym v)
      (inl (λ i. record { context = x.context; term = (sym e) i; value = x.value }))))
  among-entries x (spot ∷ spots) e v (inr m) = among-back x (entry_at es term spot.context) (flat_map (λ (y : Spot). entry_at es term y.context) spots)
      (among-entries x spots e v m)

  -- entries at elements whose contexts pass a test
  pub kept : (p : Context → Bool) (d : Context) (spots : List Spot) → p d ≡ true → Among d (map (λ (spot : Spot). spot.context) spots)
      → Among d (map (λ (spot : Spot). spot.context) (filter (λ (spot : Spot). p spot.context) spots))
  kept p d [] h a = absurd a
  kept p d (spot ∷ spots) h (inl s) =
      subst (λ b. Among d (map (λ (x : Spot). x.context)
      (if b then spot ∷ filter (λ (x : Spot). p x.context) spots else filter (λ (x : Spot). p x.context) spots))) (sym (ap p s ∙ h)) (inl s)
  kept p d (spot ∷ spots) h (inr a) = go (p spot.context) (kept p d spots h a)
    where
      go : (b : Bool) → Among d (map (λ (x : Spot). x.context) (filter (λ (x : Spot). p x.context) spots))
          → Among d (map (λ (x : Spot). x.context) (if b then spot ∷ filter (λ (x : Spot). p x.context) spots else filter (λ (x : Spot). p x.context) spots))
      go true m = inr m
      go false m = m

  pub entries-pass : (p : Context → Bool) (spots : List Spot) (x : Entry) → Among x (entries-of (filter (λ (spot : Spot). p spot.context) spots)) →
      p x.context ≡ true
  entries-pass p [] x h = absurd h
  entries-pass p (spot ∷ spots) x h = go (entries-pass p spots x) (p spot.context) refl h
    where
      here : (Among x (entries-of (filter (λ (y : Spot). p y.context) spots)) → p x.context ≡ true) → (o : Option Value) → p spot.context ≡ true
          → Among x ((elim o [ None ↦ [] | Some v ↦ record { context = spot.context; term = term; value = v } ∷ [] ]) ++
          flat_map (λ (y : Spot). entry_at es term y.context) (filter (λ (y : Spot). p y.context) spots))
          → p x.context ≡ true
      here later None e m = later m
      here later (Some v) e (inl s) = ap (λ (y : Entry). p y.context) (sym s) ∙ e
      here later (Some v) e (inr m) = later m

      go : (Among x (entries-of (filter (λ (y : Spot). p y.context) spots)) → p x.context ≡ true) → (b : Bool) → p spot.context ≡ b
          → Among x (entries-of (if b then spot ∷ filter (λ (y : Spot). p y.context) spots else filter (λ (y : Spot). p y.context) spots)) → p x.context ≡ true
      go later true e m = here later (value_in es term spot.context) e m
      go later false e m = later m

module _ (law : Laws) (rows : List Row) (es : List Entry) (invoice : IsInvoice es) (row : Row) (term : Term) (plain : IsPlainThere rows row term) where
  abbrev spots_at : List Spot
  spots_at = written_at rows es row.path

  abbrev pub due : Context → Option Value → Option (List ℕ)
  due c o = values.due es row term plain.content (values.by-value es row term plain.by_value) c o

  abbrev pub is_written : Context → Bool
  is_written c = is_written_by row term es c

  pub written-as : (d : Context) → row_text row es d ≡ values.due es row term plain.content (values.by-value es row term plain.by_value) (context_for row d)
      (value_for row es term (context_for row d))
  written-as d = values.written-as es row term plain.content (values.by-value es row term plain.by_value) d

  abbrev pub value_text : Context → Option Value → List ℕ
  value_text c o = elim o [ None ↦ [] | Some value ↦ formed (form_for row.form term) es c value ]

  -- at an element in which a value is written, the context is one of the row: the term stands in no other that is led to, or
  -- the row writes in none that lacks its groups
  groups-of-value : (d : Context) → context_for row d ≡ d → IsReachable row.outer row.inner d → (v : Value) → value_in es term d ≡ Some v →
      writes_entry row es d ≡ true → IsAtGroups row.outer row.inner d
  groups-of-value d own reach v e w = go (is_typed (form_for row.form term)) refl plain.context
    where
      go : (typed : Bool) → is_typed (form_for row.form term) ≡ typed → (typed || stands_nowhere_else term row.outer row.inner) ≡ true →
          IsAtGroups row.outer row.inner d
      go false k there =
          let x : Entry = record { context = d; term = term; value = v } in
          context-there x term row.outer row.inner refl (placed-at law es invoice term x (at-value law es invoice term d v e)) there reach
      go true k there =
          let some : is_some (value_for row es term d) ≡ true =
          ap (λ c. is_some (value_for row es term c)) (sym own) ∙
          values.written-value es row term plain.content (values.by-value es row term plain.by_value) d w in
          slots-at row.outer row.inner d (slots-there row es term d k some) reach

  groups-there : (d : Context) → context_for row d ≡ d → IsReachable row.outer row.inner d → (o : Option Value) → value_in es term d ≡ o → (b : Bool) →
      writes_entry row es d ≡ b
      → (is_some o && b) ≡ (is_in_groups row d && (is_some o && b))
  groups-there d own reach None e b w = sym (and-false (is_in_groups row d))
  groups-there d own reach (Some v) e false w = sym (and-false (is_in_groups row d))
  groups-there d own reach (Some v) e true w =
      let at = groups-of-value d own reach v e w in
      sym (ap (λ c. c && true) (pair-of (ap (λ g. same_groups g row.outer) at.0 ∙ same-groups-itself row.outer) (ap (λ g. same_groups g row.inner) at.1 ∙
      same-groups-itself row.inner)))
    where
      pair-of : {x y : Bool} → x ≡ true → y ≡ true → (x && y) ≡ true
      pair-of e f = rw (e, f) refl

  pub text-as : (d : Context) → context_for row d ≡ d → IsReachable row.outer row.inner d →
      own_text es d row ≡ (elim (is_written d) [ true ↦ value_text d (value_in es term d) | false ↦ [] ])
  text-as d own reach =
      values.text-as es row term plain.content (values.by-value es row term plain.by_value) d
      ∙ (ap (λ c. elim (is_some (value_in es term c) && writes_entry row es d)
      [ true ↦ elim (value_in es term c) [ None ↦ [] | Some value ↦ formed (form_for row.form term) es c value ] | false ↦ [] ]) own
      ∙ ap (λ b. elim b [ true ↦ elim (value_in es term d) [ None ↦ [] | Some value ↦ formed (form_for row.form term) es d value ] | false ↦ [] ])
      (groups-there d own reach (value_in es term d) refl (writes_entry row es d) refl))

  -- its elements are written in such contexts
  pub reaches : Each (λ (spot : Spot). IsReachable row.outer row.inner spot.context) spots_at
  reaches = each-reach spots_at (λ x a. a)
    where
      one : (x : Spot) → Among x spots_at → IsReachable row.outer row.inner x.context
      one x a =
          let w = of-map (λ (q : Place). q.spot) x (places_at rows es row.path)
          (subst (Among x) (sym (places-spots es (plan_of rows) row.path false root_context 1)) a) in
          subst (λ (y : Spot). IsReachable row.outer row.inner y.context) w.1.1
          (reach-of es row.path w.0.spot.context row.outer row.inner plain.through plain.nested
          (places-lead es (plan_of rows) row.path false root_context 1 w.0 w.1.0))

      each-reach : (xs : List Spot) → ((x : Spot) → Among x xs → Among x spots_at) → Each (λ (spot : Spot). IsReachable row.outer row.inner spot.context) xs
      each-reach [] f = tt
      each-reach (x ∷ xs) f = (one x (f x (inl refl)), each-reach xs (λ y a. f y (inr a)))

  -- the groups of a context in which it writes
  pub written-groups : (c : Context) → is_written c ≡ true → (slot_group c.outer ≡ row.outer) × (slot_group c.inner ≡ row.inner)
  written-groups c h =
      let w = both (same_groups (slot_group c.outer) row.outer) (same_groups (slot_group c.inner) row.inner) (both (is_in_groups row c) _ h).0 in
      (same_groups_is (slot_group c.outer) row.outer w.0, same_groups_is (slot_group c.inner) row.inner w.1)

  -- each element is written in a context of the row, in their order
  pub record HasContexts (spots : List Spot) : Type 0 where
    pub rising : Rising (λ (a : Spot) (b : Spot). Later a.context b.context) spots
    pub own : Each (λ (spot : Spot). context_for row spot.context ≡ spot.context) spots

  pub whole-context : (o i : Option Group) → row.outer ≡ o → row.inner ≡ i → (d : Context) → (o ≡ None → d.outer ≡ None) → (i ≡ None → d.inner ≡ None) →
      context_for row d ≡ d
  whole-context o i a b d p q = λ k. record { outer = (first o a p) k; inner = (second i b q) k }
    where
      first : (o : Option Group) → row.outer ≡ o → (o ≡ None → d.outer ≡ None) → slot_for row.outer d.outer ≡ d.outer
      first None e h = ap (λ x. slot_for x d.outer) e ∙ sym (h refl)
      first (Some g) e h = ap (λ x. slot_for x d.outer) e

      second : (i : Option Group) → row.inner ≡ i → (i ≡ None → d.inner ≡ None) → slot_for row.inner d.inner ≡ d.inner
      second None e h = ap (λ x. slot_for x d.inner) e ∙ sym (h refl)
      second (Some g) e h = ap (λ x. slot_for x d.inner) e

  pub contexts : HasContexts spots_at
  contexts = go row.outer row.inner refl refl (plain.through) plain.nested
    where
      no : {X : Type 0} (g : Group) → Some g ≡ None → X
      no g e = absurd (let z : ◌≡◌ {A = Option Group} (Some g) None = e in cc)

      go : (o i : Option Group) → row.outer ≡ o → row.inner ≡ i → groups_of row.path ≡ listed row.outer ++ listed row.inner →
          (is_some row.outer || is_none row.inner) ≡ true → HasContexts (written_at rows es row.path)
      go None None a b h n =
          let w = in-one es (plan_of rows) row.path false root_context (h ∙ (λ k. listed (a k) ++ listed (b k))) in
          record {
            rising = w.1;
            own = each-weaker (λ (x : Spot). x.context ≡ root_context) (λ (x : Spot). context_for row x.context ≡ x.context) (written_at rows es row.path)
                (λ x e. whole-context None None a b x.context (λ k. ap (λ (c : Context). c.outer) e) (λ k. ap (λ (c : Context). c.inner) e)) w.0;
          }
      go None (Some g) a b h n = absurd (false≢true (sym (λ k. is_some (a k) || is_none (b k)) ∙ n))
      go (Some f) None a b h n =
          let e : groups_of row.path ≡ f ∷ [] = h ∙ (λ k. listed (a k) ++ listed (b k)) in
          record {
            rising = in-group es (plan_of rows) row.path false root_context f e;
            own = each-weaker (λ (x : Spot). x.context.inner ≡ None) (λ (x : Spot). context_for row x.context ≡ x.context) (written_at rows es row.path)
                (λ x k. whole-context (Some f) None a b x.context (no f) (λ z. k)) (in-outer es (plan_of rows) row.path false f e);
          }
      go (Some f) (Some g) a b h n =
          let e : groups_of row.path ≡ f ∷ (g ∷ []) = h ∙ (λ k. listed (a k) ++ listed (b k)) in
          record {
            rising = in-groups es (plan_of rows) row.path false f g e;
            own = all-spots (written_at rows es row.path) (λ x. whole-context (Some f) (Some g) a b x.context (no f) (no g));
          }
        where
          all-spots : (xs : List Spot) → ((x : Spot) → context_for row x.context ≡ x.context) → Each (λ (x : Spot). context_for row x.context ≡ x.context) xs
          all-spots [] f = tt
          all-spots (x ∷ xs) f = (f x, all-spots xs f)

  -- strings
  abbrev pub written_spots : List Spot → List Spot
  written_spots spots = filter (λ (spot : Spot). is_written spot.context) spots

  strings : is_whole (form_for row.form term) ≡ true → (spots : List Spot) → Each (λ (spot : Spot). spot.text ≡ own_text es spot.context row) spots →
      Each (λ (spot : Spot). context_for row spot.context ≡ spot.context) spots → Each (λ (spot : Spot). IsReachable row.outer row.inner spot.context) spots
      → filter is_full (map (λ (spot : Spot). spot.text) spots) ≡ map (λ (e : Entry). formed (form_for row.form term) es e.context e.value)
      (entries-of law es invoice term (written_spots spots))
  strings form [] h k l = refl
  strings form (spot ∷ spots) h k l = go (strings form spots h.1 k.1 l.1) (is_written spot.context) (h.0 ∙ text-as spot.context k.0 l.0)
    where
      one : (b : Bool) (x : List ℕ) (xs : List (List ℕ)) → (if b then x ∷ xs else xs) ≡ (if b then x ∷ [] else []) ++ xs
      one true x xs = refl
      one false x xs = refl

      map-append : (xs ys : List Entry) → map (λ (e : Entry). formed (form_for row.form term) es e.context e.value) (xs ++ ys) ≡ map
          (λ (e : Entry). formed (form_for row.form term) es e.context e.value) xs ++
          map (λ (e : Entry). formed (form_for row.form term) es e.context e.value) ys
      map-append [] ys = refl
      map-append (x ∷ xs) ys = ap (λ l. formed (form_for row.form term) es x.context x.value ∷ l) (map-append xs ys)

      go : filter is_full (map (λ (x : Spot). x.text) spots) ≡ map (λ (e : Entry). formed (form_for row.form term) es e.context e.value)
          (entries-of law es invoice term (written_spots spots))
          → (b : Bool) → spot.text ≡ (elim b [ true ↦ value_text spot.context (value_in es term spot.context) | false ↦ [] ])
          → filter is_full (map (λ (x : Spot). x.text) (spot ∷ spots))
          ≡ map (λ (e : Entry). formed (form_for row.form term) es e.context e.value)
          (entries-of law es invoice term (if b then spot ∷ written_spots spots else written_spots spots))
      go later true text =
          one (is_full spot.text) spot.text (filter is_full (map (λ (x : Spot). x.text) spots))
          ∙ (ap (λ t. (if is_full t then t ∷ [] else []) ++ filter is_full (map (λ (x : Spot). x.text) spots)) text
          ∙ (ap (λ l. l ++ filter is_full (map (λ (x : Spot). x.text) spots))
          (one-string law es invoice term row.form form spot.context (value_in es term spot.context) refl)
          ∙ (ap (λ l. map (λ (e : Entry). formed (form_for row.form term) es e.context e.value) (entry_at es term spot.context) ++ l) later
          ∙ sym (map-append (entry_at es term spot.context) (flat_map (λ (x : Spot). entry_at es term x.context) (written_spots spots))))))
      go later false text = ap (λ t. if is_full t then t ∷ filter is_full (map (λ (x : Spot). x.text) spots) else filter is_full
          (map (λ (x : Spot). x.text) spots)) text ∙ later

  pub leads : (x : Entry) → Among x es → (slot_group x.context.outer ≡ row.outer) × (slot_group x.context.inner ≡ row.inner) →
      Leads es row.path root_context x.context
  leads x a at = go row.outer row.inner refl refl
    where
      go : (o i : Option Group) → row.outer ≡ o → row.inner ≡ i → Leads es row.path root_context x.context
      go None None p q =
          subst (Leads es row.path root_context)
          (λ k. record { outer = (sym (no-slot x.context.outer (at.0 ∙ p))) k; inner = (sym (no-slot x.context.inner (at.1 ∙ q))) k })
          (leads-on es row.path root_context (plain.through ∙ (λ k. listed (p k) ++ listed (q k))))
      go None (Some g) p q = absurd (false≢true (sym (λ k. is_some (p k) || is_none (q k)) ∙ plain.nested))
      go (Some f) None p q =
          let w = slot-of-group x.context.outer f (at.0 ∙ p) in
          subst (Leads es row.path root_context) (λ k. record { outer = (sym w.1) k; inner = (sym (no-slot x.context.inner (at.1 ∙ q))) k })
          (leads-in es row.path root_context (record { outer = Some (record { group = f; index = w.0 }); inner = None }) f
          (plain.through ∙ (λ k. listed (p k) ++ listed (q k)))
          (outer-among es x f w.0 a invoice.numbered w.1))
      go (Some f) (Some g) p q =
          let w = slot-of-group x.context.outer f (at.0 ∙ p) in
          let v = slot-of-group x.context.inner g (at.1 ∙ q) in
          subst (Leads es row.path root_context) (λ k. record { outer = (sym w.1) k; inner = (sym v.1) k })
          (leads-through es row.path root_context (record { outer = Some (record { group = f; index = w.0 }); inner = None })
          (record { outer = Some (record { group = f; index = w.0 }); inner = Some (record { group = g; index = v.0 }) }) f g
          (plain.through ∙ (λ k. listed (p k) ++ listed (q k)))
          (outer-among es x f w.0 a invoice.numbered w.1)
          (inner-among es x (record { group = f; index = w.0 }) g v.0 (record { outer = Some (record { group = f; index = w.0 }); inner = None }) a
          invoice.numbered w.1 v.1 refl))

  pub own-context : (x : Entry) → (slot_group x.context.outer ≡ row.outer) × (slot_group x.context.inner ≡ row.inner) → context_for row x.context ≡ x.context
  own-context x at =
      whole-context row.outer row.inner refl refl x.context (λ k. no-slot x.context.outer (at.0 ∙ k)) (λ k. no-slot x.context.inner (at.1 ∙ k))

  pub written-some : (c : Context) → is_written c ≡ true → (v : Value) × (value_in es term c ≡ Some v)
  written-some c h = go (value_in es term c) refl (both (is_some (value_in es term c)) (writes_entry row es c) (both (is_in_groups row c) _ h).1).0
    where
      go : (o : Option Value) → value_in es term c ≡ o → is_some o ≡ true → (v : Value) × (value_in es term c ≡ Some v)
      go None e k = absurd (false≢true k)
      go (Some v) e k = (v, e)

  -- it is written at an element of the row
  pub written-spot : (c : Context) → is_written c ≡ true → Among c (map (λ (spot : Spot). spot.context) spots_at)
  written-spot c h =
      let w = written-some c h in
      let x : Entry = record { context = c; term = term; value = w.0 } in
      there row.path plain.own (leads x (at-value law es invoice term c w.0 w.1) (written-groups c h))
      (both (is_some (value_in es term c)) (writes_entry row es c) (both (is_in_groups row c) _ h).1).1
    where
      there : (path : List Step) → rows_at is_at_element (plan_of rows) path ≡ row ∷ [] → Leads es path root_context c → writes_entry row es c ≡ true →
          Among c (map (λ (spot : Spot). spot.context) (written_at rows es path))
      there [] own l k = absurd (nothing-at (plan_of rows) own)
        where
          nothing-at : (plan : Plan) → rows_at is_at_element plan [] ≡ row ∷ [] → ⊥
          nothing-at nothing z = let y : ◌≡◌ {A = List Row} [] (row ∷ []) = z in cc
          nothing-at (a_line t cells inside rest) z = let y : ◌≡◌ {A = List Row} [] (row ∷ []) = z in cc
      there (s ∷ path) own l k = (reached es row (plan_of rows) s path false root_context c own l k).1

  abbrev pub wanted : Entry → Bool
  wanted e = same_term e.term term && is_written_by row term es e.context

  wanted-known : (x : Entry) → Among x (filter wanted es) → Among x (entries-of law es invoice term (written_spots spots_at))
  wanted-known x h =
      let w = of-filter wanted x es h in
      let k = both (same_term x.term term) (is_written x.context) w.1 in
      let e : x.term ≡ term = same_term_is x.term term k.0 in
      let v : value_in es term x.context ≡ Some x.value = ap (λ t. value_in es t x.context) (sym e) ∙ own-value es x invoice.listed w.0 in
      among-entries law es invoice term x (written_spots spots_at) e v (kept law es invoice term is_written x.context spots_at k.1 (written-spot x.context k.1))

  known-wanted : (x : Entry) → Among x (entries-of law es invoice term (written_spots spots_at)) → Among x (filter wanted es)
  known-wanted x h =
      let w = of-filter (λ (e : Entry). same_term e.term term) x es (entry-known law es invoice term (written_spots spots_at) x h) in
      among-filter wanted x es (pair w.1 (entries-pass law es invoice term is_written spots_at x h)) w.0
    where
      pair : {a b : Bool} → a ≡ true → b ≡ true → (a && b) ≡ true
      pair e f = rw (e, f) refl

  pub same-entries : entries-of law es invoice term (written_spots spots_at) ≡ filter wanted es
  same-entries =
      same_members (entries-of law es invoice term (written_spots spots_at)) (filter wanted es)
      (listed-entries law es invoice term (written_spots spots_at)
      (rising-filter (λ (a : Spot) (b : Spot). Later a.context b.context) (λ (spot : Spot). is_written spot.context) spots_at contexts.rising))
      (listed-filter wanted es invoice.listed)
      (λ x. (
        λ h. among-contains x (filter wanted es) (known-wanted x (contains-among x (entries-of law es invoice term (written_spots spots_at)) h)),
        λ h. among-contains x (entries-of law es invoice term (written_spots spots_at)) (wanted-known x (contains-among x (filter wanted es) h)),
      ))

  pub plain-law : stands_apart rows row.path ≡ true → is_whole (form_for row.form term) ≡ true → (k : ℕ) →
      map (λ (pick : Pick). string_at (document_nodes (document_of rows es)) pick.node) (nodes_picked (document_nodes (document_of rows es)) k row)
      ≡ map (λ (e : Entry). formed (form_for row.form term) es e.context e.value)
      (filter (λ (e : Entry). same_term e.term term && is_written_by row term es e.context) es)
  plain-law apart form k =
      elements-law rows es k row plain.leaf apart
      ∙ (strings form spots_at (own-texts es row (plan_of rows) row.path false root_context plain.own) contexts.own reaches
      ∙ ap (map (λ (e : Entry). formed (form_for row.form term) es e.context e.value)) same-entries)

  -- a row that is always written, writes all values of its term
  always-written : row.written ≡ written.Always → stands_there term row.outer row.inner ≡ true → (x : Entry) → Among x es → same_term x.term term ≡ true →
      is_written x.context ≡ true
  always-written always stands x a same =
      let e : x.term ≡ term = same_term_is x.term term same in
      let at = groups-are x term row.outer row.inner e (placed-at law es invoice term x a) stands in
      let v : value_in es term x.context ≡ Some x.value = ap (λ t. value_in es t x.context) (sym e) ∙ own-value es x invoice.listed a in
      let text : row_text row es x.context ≡ Some (formed (form_for row.form term) es x.context x.value) =
      written-as x.context ∙ (ap (λ c. due c (value_for row es term c)) (own-context x at)
      ∙ (ap (due x.context) (as-modelled row es term x.context (modelled-untyped row.form term (stands-modelled term row.outer row.inner stands)) ∙ v) ∙
      ap (λ rule. if_due rule es term x.context (formed (form_for row.form term) es x.context x.value)) always)) in
      pair (pair (ap (λ g. same_groups g row.outer) at.0 ∙ same-groups-itself row.outer) (ap (λ g. same_groups g row.inner) at.1 ∙
      same-groups-itself row.inner)) (pair (ap is_some v) (ap is_some text))
    where
      pair : {a b : Bool} → a ≡ true → b ≡ true → (a && b) ≡ true
      pair e f = rw (e, f) refl

  pub always-law : row.written ≡ written.Always → stands_there term row.outer row.inner ≡ true →
      filter (λ (e : Entry). same_term e.term term && is_written_by row term es e.context) es ≡ filter (λ (e : Entry). same_term e.term term) es
  always-law always stands = filter-same wanted (λ (e : Entry). same_term e.term term) es (each es (λ x a. a))
    where
      one : (x : Entry) → Among x es → (b : Bool) → same_term x.term term ≡ b → (b && is_written_by row term es x.context) ≡ b
      one x a true e = always-written always stands x a e
      one x a false e = refl

      each : (xs : List Entry) → ((x : Entry) → Among x xs → Among x es) →
          Each (λ (x : Entry). (same_term x.term term && is_written_by row term es x.context) ≡ same_term x.term term) xs
      each [] f = tt
      each (x ∷ xs) f = (one x (f x (inl refl)) (same_term x.term term) refl, each xs (λ y a. f y (inr a)))

  -- ---- what the strings say

  -- what it writes of a value is read by the type of the term, or by that of its form
  reads-so : is_whole (form_for row.form term) ≡ true → IsRead row.form term → (e : Entry) → Among e es → Fits e.term e.value → same_term e.term term ≡ true →
      is_written e.context ≡ true → ReadsAs (form_for row.form term) term es e.context e.value
  reads-so form (inl own) e a fits same w = reads-as law row.form term es e.context e.value form own
      (subst (λ x. Fits x e.value) (same_term_is e.term term same) fits)
  reads-so form (inr typed) e a fits same w =
      let t : e.term ≡ term = same_term_is e.term term same in
      let v : value_in es term e.context ≡ Some e.value = ap (λ u. value_in es u e.context) (sym t) ∙ own-value es e invoice.listed a in
      let some : is_some (value_for row es term e.context) ≡ true =
      ap (λ c. is_some (value_for row es term c)) (sym (own-context e (written-groups e.context w)))
      ∙ values.written-value es row term plain.content (values.by-value es row term plain.by_value) e.context
      (both (is_some (value_in es term e.context)) (writes_entry row es e.context) (both (is_in_groups row e.context) _ w).1).1 in
      back-as law row.form term es e.context e.value
      (typed-back es (form_for row.form term) e.context e.value typed (taken-is row es term e.context e.value typed v some)) (inr typed)
      (subst (λ x. Fits x e.value) t fits)

  parsed-again : is_whole (form_for row.form term) ≡ true → IsRead row.form term → (xs : List Entry) → ((x : Entry) → Among x xs → Among x es) →
      All (λ (e : Entry). Fits e.term e.value) xs → map (λ s. parsed row.form term s)
      (map (λ (e : Entry). formed (form_for row.form term) es e.context e.value) (filter wanted xs))
      ≡ map (λ (e : Entry). record { term = term; value = Some e.value } ∷ []) (filter wanted xs)
  parsed-again form read [] f h = refl
  parsed-again form read (e ∷ xs) f h = go (wanted e) refl (parsed-again form read xs (λ x a. f x (inr a)) (All-tail (λ (x : Entry). Fits x.term x.value) e xs
      h))
    where
      fits : Fits e.term e.value
      fits = All-head (λ (x : Entry). Fits x.term x.value) e xs h

      says : (same_term e.term term ≡ true) × (is_written e.context ≡ true) →
          parsed row.form term (formed (form_for row.form term) es e.context e.value) ≡ record { term = term; value = Some e.value } ∷ []
      says t = (reads-so form read e (f e (inl refl)) fits t.0 t.1).parsed ∙
          ap (λ l. record { term = term; value = Some e.value } ∷ l) (whole-uncoded (form_for row.form term) es e.context form)

      go : (b : Bool) → wanted e ≡ b
          → map (λ s. parsed row.form term s) (map (λ (x : Entry). formed (form_for row.form term) es x.context x.value) (filter wanted xs)) ≡ map
          (λ (x : Entry). record { term = term; value = Some x.value } ∷ []) (filter wanted xs)
          → map (λ s. parsed row.form term s) (map (λ (x : Entry). formed (form_for row.form term) es x.context x.value)
          (if b then e ∷ filter wanted xs else filter wanted xs))
          ≡ map (λ (x : Entry). record { term = term; value = Some x.value } ∷ []) (if b then e ∷ filter wanted xs else filter wanted xs)
      go true k more = (λ i. says (both (same_term e.term term) (is_written e.context) k) i ∷ more i)
      go false k more = more

  pub says-law : stands_apart rows row.path ≡ true → is_whole (form_for row.form term) ≡ true →
      (is_extension term && not (is_typed (form_for row.form term))) ≡ false → (k : ℕ) →
      map (λ (pick : Pick). parsed row.form term (string_at (document_nodes (document_of rows es)) pick.node))
      (nodes_picked (document_nodes (document_of rows es)) k row)
      ≡ map (λ (e : Entry). record { term = term; value = Some e.value } ∷ [])
      (filter (λ (e : Entry). same_term e.term term && is_written_by row term es e.context) es)
  says-law apart form says k =
      sym (map-map (λ s. parsed row.form term s) (λ (pick : Pick). string_at (document_nodes (document_of rows es)) pick.node)
      (nodes_picked (document_nodes (document_of rows es)) k row))
      ∙ (ap (map (λ s. parsed row.form term s)) (plain-law apart form k) ∙
      parsed-again form (read-by (is_extension term) (is_typed (form_for row.form term)) refl refl says) es (λ x a. a) invoice.fit)
    where
      read-by : (a b : Bool) → is_extension term ≡ a → is_typed (form_for row.form term) ≡ b → (a && not b) ≡ false → IsRead row.form term
      read-by false b own typed h = inl own
      read-by true true own typed h = inr typed
      read-by true false own typed h = absurd (false≢true (sym h))
