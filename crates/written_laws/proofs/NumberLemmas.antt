-- An invoice that is read has its number: else the number would be missing, and reading would find that fault.
use Rattle.std.proofs.Common.{◌≡◌, suc, Bool, true, false, not, ◌||◌, List, [], ◌∷◌, ◌++◌, map, filter, flat_map, length, drop, Option, Some, None, is_some}
use Rattle.std.proofs.Common.{is_none, option_map, find, Result, Ok, Err, refl, ap, sym, ◌∙◌, subst, arith, if◌then◌else◌}
use Rattle.std.specs.List.{list_any, AllByRecursion}
use Rattle.std.proofs.lemmas.Bool.{false≢true}
use Rattle.inv_base.specs.Tree.{Node}
use Rattle.code_lists.specs.CodeFiles.{Lists}
use Rattle.term_table.specs.declared.terms.Term.{Term}
use Rattle.term_table.specs.declared.terms.TermRow.{TermRow}
use Rattle.term_table.specs.declared.contexts.Slot.{Slot}
use Rattle.term_table.specs.declared.contexts.Context.{Context}
use Rattle.term_table.specs.declared.contexts.Seat.{Seat}
use Rattle.term_table.specs.Contexts.{root_context, same_slot, same_context, is_inside}
use Rattle.term_table.specs.Groups.{parent_of, occurrence_of}
use Rattle.term_table.specs.SemanticModel.{same_term, terms}
use Rattle.term_table.specs.Places.{comes_before, place}
use Rattle.inv_terms.specs.declared.values.Value.{Value}
use Rattle.inv_terms.specs.declared.entries.Entry.{Entry}
use Rattle.inv_terms.specs.Listing.{is_at, value_in}
use Rattle.inv_terms.specs.declared.violations.Name.{Name}
use Rattle.inv_terms.specs.declared.violations.Name.TheVariants as names
use Rattle.inv_terms.specs.declared.violations.ModelViolation.{ModelViolation}
use Rattle.inv_terms.specs.declared.violations.TermFault.TheVariants as lack_faults
use Rattle.inv_terms.specs.Lacking.{missing_at, missing_from, first_missing}
use Rattle.inv_terms.specs.Lacking as lacking
use Rattle.bind_rows.specs.declared.rows.Row.{Row}
use Rattle.bind_meaning.specs.declared.fault.BindFault.{BindFault}
use Rattle.bind_meaning.specs.declared.fault.BindKind.{BindKind}
use Rattle.bind_meaning.specs.declared.fault.BindKind.TheVariants as kinds
use Rattle.bind_meaning.specs.Currencies.{Currencies, currencies}
use Rattle.bind_meaning.specs.Seats.{Placed, context_of, whole, each_once, outer_room, inner_room, rooms}
use Rattle.bind_meaning.specs.Judging.{Found, found, Told, is_of_seat, first_before, is_bad, breaks, Cause, first_cause, causes, place_at, fault_of}
use Rattle.bind_meaning.specs.Judging.{faults_behind, wrong_word, missing_place, missing_in, name_of, seat_of, least}
use Rattle.bind_meaning.specs.Terms.{Read, firsts_behind, entry_of, seat_of_entry, put, listed, entries, told, term_picks, constant_picks, place_all}
use Rattle.bind_meaning.specs.Terms.{passed_over, all_faults, terms_of}
use Rattle.written_laws.specs.Readable.{invoice_number}
use Rattle.written_laws.proofs.ListLemmas.{both, and-true, or-left, or-right, neither}
use Rattle.written_laws.proofs.RootLemmas.{first_row, term-is}

-- ---- lists and truth values

none-of-both : {X : Type 0} (xs ys : List X) → xs ++ ys ≡ [] → (xs ≡ []) × (ys ≡ [])
none-of-both [] ys h = (refl, h)
none-of-both (x ∷ xs) ys h = absurd (let z : suc (length (xs ++ ys)) ≡ 0 = ap length h in omega arith)

or-more : (a b c : Bool) → (a || b) ≡ true → (b ≡ true → c ≡ true) → (a || c) ≡ true
or-more true b c h f = refl
or-more false b c h f = f h

or-past : (a b c d : Bool) → (a || (b || c)) ≡ true → ((a || c) ≡ true → d ≡ true) → (b || d) ≡ true
or-past a true c d h f = refl
or-past a false c d h f = f h

or-behind : (a b c d : Bool) → d ≡ (a || (b || false)) → (d || c) ≡ true → (a || (b || c)) ≡ true
or-behind true b c d e h = refl
or-behind false true c d e h = refl
or-behind false false c d e h = ap (λ t. t || c) (sym e) ∙ h

any-append : {X : Type 0} (p : X → Bool) (xs ys : List X) → list_any p (xs ++ ys) ≡ (list_any p xs || list_any p ys)
any-append p [] ys = refl
any-append p (x ∷ xs) ys = go (p x) (any-append p xs ys)
  where
    go : (b : Bool) → list_any p (xs ++ ys) ≡ (list_any p xs || list_any p ys) → (b || list_any p (xs ++ ys)) ≡ ((b || list_any p xs) || list_any p ys)
    go true e = refl
    go false e = e

any-filter : {X : Type 0} (p q : X → Bool) (xs : List X) → list_any q (filter p xs) ≡ true → list_any q xs ≡ true
any-filter p q [] h = h
any-filter p q (x ∷ xs) h = go (p x) h (any-filter p q xs)
  where
    go : (b : Bool) → list_any q (if b then x ∷ filter p xs else filter p xs) ≡ true → (list_any q (filter p xs) ≡ true → list_any q xs ≡ true) →
        (q x || list_any q xs) ≡ true
    go true k f = or-more (q x) (list_any q (filter p xs)) (list_any q xs) k f
    go false k f = or-right (q x) (list_any q xs) (f k)

any-map : {X Y : Type 0} (f : X → Y) (q : Y → Bool) (xs : List X) → list_any q (map f xs) ≡ list_any (λ x. q (f x)) xs
any-map f q [] = refl
any-map f q (x ∷ xs) = ap (λ t. q (f x) || t) (any-map f q xs)

-- ---- no fault is found

no-least : (xs : List Found) → least xs ≡ None → xs ≡ []
no-least [] h = refl
no-least (a ∷ others) h = absurd (false≢true (sym (ap is_some h)))

all-false : (list : List Cause) → first_cause list ≡ None → AllByRecursion (λ (cause : Cause). cause.holds tt ≡ false) list
all-false [] h = tt
all-false (cause ∷ list) h = go (cause.holds tt) refl h (all-false list)
  where
    go : (b : Bool) → cause.holds tt ≡ b → ◌≡◌ {A = Option BindKind} (elim b [ true ↦ Some cause.kind | false ↦ first_cause list ]) None
        → (first_cause list ≡ None → AllByRecursion (λ (cause : Cause). cause.holds tt ≡ false) list)
        → (cause.holds tt ≡ false) × AllByRecursion (λ (cause : Cause). cause.holds tt ≡ false) list
    go true e k f = absurd (false≢true (sym (ap is_some k)))
    go false e k f = (e, f k)

not-not : (b : Bool) → not b ≡ false → b ≡ true
not-not true h = refl
not-not false h = absurd (false≢true (sym h))

abbrev HasValue : Told → Type 0
HasValue t = is_some t.parsed.value ≡ true

module _ (nodes : List Node) where
  has-value : (lists : Lists) (c : Currencies) (before : Option Told) (t : Told) → fault_of nodes lists c before t ≡ [] → HasValue t
  has-value lists c before t h =
      let none = go (first_cause (causes nodes lists c before t)) h in
      let all = all-false (causes nodes lists c before t) none in
      let bad : is_bad nodes t ≡ false = all.1.1.0 in
      not-not (is_some t.parsed.value) (neither (is_none t.parsed.value) (breaks nodes t.placed.pick.row.check t.placed.pick.node) bad).0
    where
      go : (o : Option BindKind)
          → ◌≡◌ {A = List Found} (elim o [
            | None ↦ []
            | Some kind ↦ found (place_at t.placed.pick kind) kind (names.Term t.parsed.term) t.placed.pick.node ∷ []
          ]) []
          → o ≡ None
      go None k = refl
      go (Some kind) k = absurd (let z : suc 0 ≡ 0 = ap length k in omega arith)

  told-values : (lists : Lists) (c : Currencies) (before ts : List Told) → faults_behind nodes lists c before ts ≡ [] → AllByRecursion HasValue ts
  told-values lists c before [] h = tt
  told-values lists c before (t ∷ ts) h =
      let w = none-of-both (fault_of nodes lists c (first_before before t) t) (faults_behind nodes lists c (before ++ (t ∷ [])) ts) h in
      (has-value lists c (first_before before t) t w.0, told-values lists c (before ++ (t ∷ [])) ts w.1)

  -- ---- the number isn't missing

  terms-are : terms ≡ first_row ∷ drop 1 terms
  unfolding terms
  terms-are = refl

  head-there : (seats : List Seat) (row : TermRow) (rows : List TermRow) → missing_from seats root_context 0 (row ∷ rows) ≡ None →
      missing_at seats root_context 0 row ≡ None
  head-there seats row rows h = go (missing_at seats root_context 0 row) h
    where
      go : (o : Option Name)
          → ◌≡◌ {A = Option ModelViolation} (elim o [
            | Some name ↦ Some (record { place = place 0 root_context; fault = lack_faults.Missing name })
            | None ↦ missing_from seats root_context 1 rows
          ]) None
          → o ≡ None
      go None k = refl
      go (Some name) k = absurd (false≢true (sym (ap is_some k)))

  number-there : (seats : List Seat) → missing_at seats root_context 0 first_row ≡ None → list_any (lacking.is_at root_context invoice_number) seats ≡ true
  unfolding parent_of occurrence_of
  number-there seats h = go (list_any (lacking.is_at root_context invoice_number) seats) h
    where
      go : (b : Bool) → ◌≡◌ {A = Option Name} (if not b then Some (names.Term invoice_number) else None) None → b ≡ true
      go true k = refl
      go false k = absurd (false≢true (sym (ap is_some k)))

  no-violation : (o : Option ModelViolation)
      → ◌≡◌ {A = List Found} (elim o [
        | None ↦ []
        | Some violation ↦ found (missing_place nodes whole violation.place) kinds.Missing (name_of violation.fault) whole.element ∷ []
      ]) []
      → o ≡ None
  no-violation None k = refl
  no-violation (Some violation) k = absurd (let z : suc 0 ≡ 0 = ap length k in omega arith)

  number-told : (seats : List Seat) → missing_in nodes seats whole ≡ [] → list_any (lacking.is_at root_context invoice_number) seats ≡ true
  number-told seats h =
      let inside = filter (λ (seat : Seat). is_inside root_context seat.context) seats in
      let none = no-violation (first_missing inside root_context) h in
      any-filter (λ (seat : Seat). is_inside root_context seat.context) (lacking.is_at root_context invoice_number) seats
      (number-there inside (head-there inside first_row (drop 1 terms) (subst (λ l. missing_from inside root_context 0 l ≡ None) terms-are none)))

-- ---- so it is told, and is an entry

abbrev at_number : Told → Bool
at_number t = lacking.is_at root_context invoice_number (seat_of t)

slot-same : (a b : Option Slot) → same_slot a b ≡ true → same_slot b None ≡ true → same_slot a None ≡ true
slot-same None b h k = refl
slot-same (Some x) None h k = absurd (false≢true h)
slot-same (Some x) (Some y) h k = absurd (false≢true k)

context-same : (a b : Context) → same_context a b ≡ true → same_context b root_context ≡ true → same_context a root_context ≡ true
context-same a b h k =
    let w = both (same_slot a.outer b.outer) (same_slot a.inner b.inner) h in
    let v = both (same_slot b.outer None) (same_slot b.inner None) k in
    and-true (same_slot a.outer None) (same_slot a.inner None) (slot-same a.outer b.outer w.0 v.0) (slot-same a.inner b.inner w.1 v.1)

seat-same : (a t : Told) → is_of_seat a t ≡ true → at_number t ≡ true → at_number a ≡ true
seat-same a t h k = go (same_term a.parsed.term t.parsed.term) refl h
  where
    w : (same_term t.parsed.term invoice_number ≡ true) × (same_context (context_of t.placed) root_context ≡ true)
    w = both (same_term t.parsed.term invoice_number) (same_context (context_of t.placed) root_context) k

    go : (b : Bool) → same_term a.parsed.term t.parsed.term ≡ b →
        (elim b [ true ↦ same_context (context_of a.placed) (context_of t.placed) | false ↦ false ]) ≡ true → at_number a ≡ true
    go true e l =
        and-true (same_term a.parsed.term invoice_number) (same_context (context_of a.placed) root_context)
        (ap (λ x. same_term x invoice_number) (term-is a.parsed.term t.parsed.term e) ∙ w.0) (context-same (context_of a.placed) (context_of t.placed) l w.1)
    go false e l = absurd (false≢true l)

found-before : (before : List Told) (t : Told) → is_some (first_before before t) ≡ true → at_number t ≡ true → list_any at_number before ≡ true
found-before [] t h k = absurd (false≢true h)
found-before (a ∷ before) t h k = go (is_of_seat a t) refl h (λ l. found-before before t l k)
  where
    go : (b : Bool) → is_of_seat a t ≡ b → is_some (elim b [ true ↦ Some a | false ↦ first_before before t ]) ≡ true →
        (is_some (first_before before t) ≡ true → list_any at_number before ≡ true)
        → (at_number a || list_any at_number before) ≡ true
    go true e l f = or-left (at_number a) (list_any at_number before) (seat-same a t e k)
    go false e l f = or-right (at_number a) (list_any at_number before) (f l)

first-kept : (before ts : List Told) → list_any at_number ts ≡ true → (list_any at_number before || list_any at_number (firsts_behind before ts)) ≡ true
first-kept before [] h = absurd (false≢true h)
first-kept before (t ∷ ts) h = go (first_before before t) refl (at_number t) refl h (first-kept (before ++ (t ∷ [])) ts) (first-kept before ts)
  where
    go : (o : Option Told) → first_before before t ≡ o → (b : Bool) → at_number t ≡ b → (b || list_any at_number ts) ≡ true
        → (list_any at_number ts ≡ true → (list_any at_number (before ++ (t ∷ [])) || list_any at_number (firsts_behind (before ++ (t ∷ [])) ts)) ≡ true)
        → (list_any at_number ts ≡ true → (list_any at_number before || list_any at_number (firsts_behind before ts)) ≡ true)
        → (list_any at_number before || list_any at_number (elim o [ None ↦ t ∷ firsts_behind (before ++ (t ∷ [])) ts | Some first ↦ firsts_behind before ts ]))
        ≡ true
    go None e true d k f g =
        or-right (list_any at_number before) (at_number t || list_any at_number (firsts_behind (before ++ (t ∷ [])) ts))
        (or-left (at_number t) (list_any at_number (firsts_behind (before ++ (t ∷ [])) ts)) d)
    go None e false d k f g =
        or-behind (list_any at_number before) (at_number t) (list_any at_number (firsts_behind (before ++ (t ∷ [])) ts))
        (list_any at_number (before ++ (t ∷ []))) (any-append at_number before (t ∷ [])) (f k)
    go (Some first) e true d k f g = or-left (list_any at_number before) (list_any at_number (firsts_behind before ts)) (found-before before t (ap is_some e) d)
    go (Some first) e false d k f g = g k

firsts-values : (before ts : List Told) → AllByRecursion HasValue ts → AllByRecursion HasValue (firsts_behind before ts)
firsts-values before [] h = tt
firsts-values before (t ∷ ts) h = go (first_before before t) (firsts-values (before ++ (t ∷ [])) ts h.1) (firsts-values before ts h.1)
  where
    go : (o : Option Told) → AllByRecursion HasValue (firsts_behind (before ++ (t ∷ [])) ts) → AllByRecursion HasValue (firsts_behind before ts)
        → AllByRecursion HasValue (elim o [ None ↦ t ∷ firsts_behind (before ++ (t ∷ [])) ts | Some first ↦ firsts_behind before ts ])
    go None f g = (h.0, f)
    go (Some first) f g = g

entry-there : (ts : List Told) → AllByRecursion HasValue ts → list_any at_number ts ≡ true →
    list_any (is_at invoice_number root_context) (flat_map entry_of ts) ≡ true
entry-there [] v h = h
entry-there (t ∷ ts) v h = go t.parsed.value v.0 (entry-there ts v.1)
  where
    go : (o : Option Value) → is_some o ≡ true → (list_any at_number ts ≡ true → list_any (is_at invoice_number root_context) (flat_map entry_of ts) ≡ true)
        → list_any (is_at invoice_number root_context)
        ((elim o [ None ↦ [] | Some value ↦ record { context = context_of t.placed; term = t.parsed.term; value = value } ∷ [] ]) ++
        flat_map entry_of ts) ≡ true
    go None k f = absurd (false≢true k)
    go (Some value) k f = or-more (at_number t) (list_any at_number ts) (list_any (is_at invoice_number root_context) (flat_map entry_of ts)) h f

any-put : (q : Entry → Bool) (e : Entry) (es : List Entry) → (q e || list_any q es) ≡ true → list_any q (put e es) ≡ true
any-put q e [] h = h
any-put q e (other ∷ es) h = go (comes_before (seat_of_entry e) (seat_of_entry other)) (any-put q e es)
  where
    go : (b : Bool) → ((q e || list_any q es) ≡ true → list_any q (put e es) ≡ true) →
        list_any q (elim b [ true ↦ e ∷ (other ∷ es) | false ↦ other ∷ put e es ]) ≡ true
    go true f = h
    go false f = or-past (q e) (q other) (list_any q es) (list_any q (put e es)) h f

any-listed : (q : Entry → Bool) (es : List Entry) → list_any q es ≡ true → list_any q (listed es) ≡ true
any-listed q [] h = h
any-listed q (e ∷ es) h = any-put q e (listed es) (or-more (q e) (list_any q es) (list_any q (listed es)) h (any-listed q es))

value-found : (es : List Entry) (term : Term) (c : Context) → list_any (is_at term c) es ≡ true → is_some (value_in es term c) ≡ true
value-found [] term c h = absurd (false≢true h)
value-found (e ∷ es) term c h = go (is_at term c e) h (value-found es term c)
  where
    go : (b : Bool) → (b || list_any (is_at term c) es) ≡ true → (list_any (is_at term c) es ≡ true → is_some (value_in es term c) ≡ true)
        → is_some (option_map (λ (e : Entry). e.value) (if b then Some e else find (is_at term c) es)) ≡ true
    go true k f = refl
    go false k f = f k

-- ---- the invoice that is read

abbrev read_entries : Result Read BindFault → List Entry
read_entries (Ok read) = read.entries
read_entries (Err fault) = []

placed-number : (nodes : List Node) (lists : Lists) (c : Currencies) (rows : List Row) (ps : List Placed) → all_faults nodes lists c rows ps ≡ [] →
    is_some (value_in (entries (told nodes ps)) invoice_number root_context) ≡ true
placed-number nodes lists c rows ps h =
    let ts = told nodes ps in
    let seats = map seat_of ts in
    let others = flat_map (missing_in nodes seats) (each_once (flat_map (λ p. outer_room p ++ inner_room p) ps)) in
    let a = none-of-both (faults_behind nodes lists c [] ts) (flat_map (wrong_word nodes) (constant_picks nodes rows) ++
    flat_map (missing_in nodes seats) (rooms ps)) h in
    let b = none-of-both (flat_map (wrong_word nodes) (constant_picks nodes rows)) (flat_map (missing_in nodes seats) (rooms ps)) a.1 in
    let d = none-of-both (missing_in nodes seats whole) others b.1 in
    let there : list_any at_number ts ≡ true = sym (any-map seat_of (lacking.is_at root_context invoice_number) ts) ∙ number-told nodes seats d.0 in
    let values = told-values nodes lists c [] ts a.0 in
    value-found (entries ts) invoice_number root_context
    (any-listed (is_at invoice_number root_context) (flat_map entry_of (firsts_behind [] ts))
    (entry-there (firsts_behind [] ts) (firsts-values [] ts values) (first-kept [] ts there)))

number-placed : (nodes : List Node) (lists : Lists) (c : Currencies) (rows : List Row) (ps : List Placed) (read : Read) (o : Option Found) →
    least (all_faults nodes lists c rows ps) ≡ o
    → ◌≡◌ {A = Result Read BindFault} (elim o [
      | Some first ↦ Err first.fault
      | None ↦ Ok (record { entries = entries (told nodes ps); passed_over = passed_over nodes rows })
    ]) (Ok read)
    → is_some (value_in read.entries invoice_number root_context) ≡ true
number-placed nodes lists c rows ps read (Some first) e k = absurd (let z : ◌≡◌ {A = Result Read BindFault} (Err first.fault) (Ok read) = k in cc)
number-placed nodes lists c rows ps read None e k =
    subst (λ es. is_some (value_in es invoice_number root_context) ≡ true) (ap read_entries k)
    (placed-number nodes lists c rows ps (no-least (all_faults nodes lists c rows ps) e))

pub number-read : (nodes : List Node) (rows : List Row) (lists : Lists) (read : Read) → terms_of nodes rows lists ≡ Ok read →
    is_some (value_in read.entries invoice_number root_context) ≡ true
unfolding terms_of
number-read nodes rows lists read h =
    let c = currencies nodes rows in
    let ps = place_all nodes (term_picks nodes c rows) in
    number-placed nodes lists c rows ps read (least (all_faults nodes lists c rows ps)) refl h
