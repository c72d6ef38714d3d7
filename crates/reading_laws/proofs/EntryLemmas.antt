-- The entries are what was told first of each seat: what holds of all that is told holds of each entry, and the entries
-- have the seats that are told.
use Rattle.std.proofs.Common.{◌≡◌, Bool, true, false, ◌||◌, List, [], ◌∷◌, ◌++◌, flat_map, Option, Some, None, is_some, refl, ap, sym, ◌∙◌}
use Rattle.std.specs.List.{list_any, AllByRecursion}
use Rattle.std.proofs.lemmas.Bool.{false≢true}
use Rattle.term_table.specs.declared.contexts.Seat.{Seat}
use Rattle.term_table.specs.SemanticModel.{same_term}
use Rattle.term_table.specs.Contexts.{same_context}
use Rattle.term_table.specs.Places.{seat_place, comes_before}
use Rattle.term_table.proofs.SeatLemmas.{same_term_is}
use Rattle.inv_terms.specs.declared.values.Value.{Value}
use Rattle.inv_terms.specs.declared.entries.Entry.{Entry}
use Rattle.inv_terms.proofs.ContextLemmas.{context_is}
use Rattle.bind_meaning.specs.Seats.{context_of}
use Rattle.bind_meaning.specs.Judging.{Told, is_of_seat, first_before, seat_of}
use Rattle.bind_meaning.specs.Terms.{firsts_behind, entry_of, seat_of_entry, put, listed, entries}
use Rattle.reading_laws.proofs.ListLemmas.{any-append, each-flat, or-left, or-right}

abbrev pub entry_at : Told → Value → Entry
entry_at t value = record { context = context_of t.placed; term = t.parsed.term; value = value }

-- ---- of each

pub each-first : (P : Told → Type 0) (before ts : List Told) → AllByRecursion P ts → AllByRecursion P (firsts_behind before ts)
each-first P before [] h = tt
each-first P before (t ∷ ts) h = go (first_before before t) (each-first P (before ++ (t ∷ [])) ts h.1) (each-first P before ts h.1)
  where
    go : (o : Option Told) → AllByRecursion P (firsts_behind (before ++ (t ∷ [])) ts) → AllByRecursion P (firsts_behind before ts)
        → AllByRecursion P (elim o [ None ↦ t ∷ firsts_behind (before ++ (t ∷ [])) ts | Some first ↦ firsts_behind before ts ])
    go None f g = (h.0, f)
    go (Some first) f g = g

pub each-put : (P : Entry → Type 0) (e : Entry) (es : List Entry) → P e → AllByRecursion P es → AllByRecursion P (put e es)
each-put P e [] h all = (h, tt)
each-put P e (other ∷ es) h all = go (comes_before (seat_of_entry e) (seat_of_entry other)) (each-put P e es h all.1)
  where
    go : (b : Bool) → AllByRecursion P (put e es) → AllByRecursion P (elim b [ true ↦ e ∷ (other ∷ es) | false ↦ other ∷ put e es ])
    go true f = (h, all)
    go false f = (all.0, f)

pub each-listed : (P : Entry → Type 0) (es : List Entry) → AllByRecursion P es → AllByRecursion P (listed es)
each-listed P [] all = tt
each-listed P (e ∷ es) all = each-put P e (listed es) all.0 (each-listed P es all.1)

-- it holds of the entry that the told makes
abbrev pub OfEntry : (Entry → Type 0) → Told → Type 0
OfEntry P t = (value : Value) → t.parsed.value ≡ Some value → P (entry_at t value)

pub each-entry : (P : Entry → Type 0) (t : Told) → OfEntry P t → AllByRecursion P (entry_of t)
each-entry P t h = go t.parsed.value refl
  where
    go : (o : Option Value) → t.parsed.value ≡ o
        → AllByRecursion P (elim o [ None ↦ [] | Some value ↦ record { context = context_of t.placed; term = t.parsed.term; value = value } ∷ [] ])
    go None e = tt
    go (Some value) e = (h value e, tt)

pub of-entries : (P : Entry → Type 0) (ts : List Told) → AllByRecursion (OfEntry P) ts → AllByRecursion P (entries ts)
of-entries P ts h =
    each-listed P (flat_map entry_of (firsts_behind [] ts))
    (each-flat P (OfEntry P) entry_of (each-entry P) (firsts_behind [] ts) (each-first (OfEntry P) [] ts h))

-- ---- the same seats

abbrev pub HasValue : Told → Type 0
HasValue t = is_some t.parsed.value ≡ true

-- its term has such a context
abbrev pub HasPlace : Told → Type 0
HasPlace t = is_some (seat_place (seat_of t)) ≡ true

pub seat-is : (a t : Told) → is_of_seat a t ≡ true → seat_of a ≡ seat_of t
seat-is a t h = go (same_term a.parsed.term t.parsed.term) refl h
  where
    go : (b : Bool) → same_term a.parsed.term t.parsed.term ≡ b
        → (elim b [ true ↦ same_context (context_of a.placed) (context_of t.placed) | false ↦ false ]) ≡ true → seat_of a ≡ seat_of t
    go true e l =
        let term : a.parsed.term ≡ t.parsed.term = same_term_is a.parsed.term t.parsed.term e in
        let context : context_of a.placed ≡ context_of t.placed = context_is (context_of a.placed) (context_of t.placed) l in
        λ i. record { term = term i; context = context i }
    go false e l = absurd (false≢true l)

module _ (q : Seat → Bool) where
  any_told : List Told → Bool
  any_told ts = list_any (λ t. q (seat_of t)) ts

  found-before : (before : List Told) (t : Told) → is_some (first_before before t) ≡ true → q (seat_of t) ≡ true → any_told before ≡ true
  unfolding any_told
  found-before [] t h k = absurd (false≢true h)
  found-before (a ∷ before) t h k = go (is_of_seat a t) refl h (λ l. found-before before t l k)
    where
      go : (b : Bool) → is_of_seat a t ≡ b → is_some (elim b [ true ↦ Some a | false ↦ first_before before t ]) ≡ true
          → (is_some (first_before before t) ≡ true → list_any (λ t. q (seat_of t)) before ≡ true)
          → (q (seat_of a) || list_any (λ t. q (seat_of t)) before) ≡ true
      go true e l f = or-left (q (seat_of a)) (list_any (λ t. q (seat_of t)) before) (ap q (seat-is a t e) ∙ k)
      go false e l f = or-right (q (seat_of a)) (list_any (λ t. q (seat_of t)) before) (f l)

  new-step : (b t f r n : Bool) → n ≡ (b || (t || false)) → (n || f) ≡ (n || r) → (b || (t || f)) ≡ (b || (t || r))
  new-step true t f r n e h = refl
  new-step false true f r n e h = refl
  new-step false false f r n e h = ap (λ x. x || f) (sym e) ∙ (h ∙ ap (λ x. x || r) e)

  old-step : (b t f r : Bool) → (t ≡ true → b ≡ true) → (b || f) ≡ (b || r) → (b || f) ≡ (b || (t || r))
  old-step true t f r k h = refl
  old-step false true f r k h = absurd (false≢true (k refl))
  old-step false false f r k h = h

  firsts-behind : (before ts : List Told) → (any_told before || any_told (firsts_behind before ts)) ≡ (any_told before || any_told ts)
  unfolding any_told
  firsts-behind before [] = refl
  firsts-behind before (t ∷ ts) = go (first_before before t) refl (firsts-behind (before ++ (t ∷ [])) ts) (firsts-behind before ts)
    where
      go : (o : Option Told) → first_before before t ≡ o
          → (any_told (before ++ (t ∷ [])) || any_told (firsts_behind (before ++ (t ∷ [])) ts)) ≡ (any_told (before ++ (t ∷ [])) || any_told ts)
          → (any_told before || any_told (firsts_behind before ts)) ≡ (any_told before || any_told ts)
          → (any_told before || any_told (elim o [ None ↦ t ∷ firsts_behind (before ++ (t ∷ [])) ts | Some first ↦ firsts_behind before ts ]))
          ≡ (any_told before || any_told (t ∷ ts))
      go None e f g =
          new-step (any_told before) (q (seat_of t)) (any_told (firsts_behind (before ++ (t ∷ [])) ts)) (any_told ts) (any_told (before ++ (t ∷ [])))
          (any-append (λ t. q (seat_of t)) before (t ∷ [])) f
      go (Some first) e f g =
          old-step (any_told before) (q (seat_of t)) (any_told (firsts_behind before ts)) (any_told ts) (found-before before t (ap is_some e)) g

  any_entry : List Entry → Bool
  any_entry es = list_any (λ e. q (seat_of_entry e)) es

  entries-there : (ts : List Told) → AllByRecursion HasValue ts → any_entry (flat_map entry_of ts) ≡ any_told ts
  unfolding any_entry any_told
  entries-there [] v = refl
  entries-there (t ∷ ts) v = go t.parsed.value v.0 (entries-there ts v.1)
    where
      go : (o : Option Value) → is_some o ≡ true → any_entry (flat_map entry_of ts) ≡ any_told ts
          → any_entry ((elim o [ None ↦ [] | Some value ↦ record { context = context_of t.placed; term = t.parsed.term; value = value } ∷ [] ])
          ++ flat_map entry_of ts) ≡ any_told (t ∷ ts)
      go None k f = absurd (false≢true k)
      go (Some value) k f = ap (λ b. q (seat_of t) || b) f

  swap : (a b c : Bool) → (a || (b || c)) ≡ (b || (a || c))
  swap true true c = refl
  swap true false c = refl
  swap false b c = refl

  any-put : (e : Entry) (es : List Entry) → any_entry (put e es) ≡ (q (seat_of_entry e) || any_entry es)
  unfolding any_entry
  any-put e [] = refl
  any-put e (other ∷ es) = go (comes_before (seat_of_entry e) (seat_of_entry other)) (any-put e es)
    where
      go : (b : Bool) → any_entry (put e es) ≡ (q (seat_of_entry e) || any_entry es)
          → any_entry (elim b [ true ↦ e ∷ (other ∷ es) | false ↦ other ∷ put e es ]) ≡ (q (seat_of_entry e) || any_entry (other ∷ es))
      go true f = refl
      go false f = ap (λ b. q (seat_of_entry other) || b) f ∙ swap (q (seat_of_entry other)) (q (seat_of_entry e)) (any_entry es)

  any-listed : (es : List Entry) → any_entry (listed es) ≡ any_entry es
  unfolding any_entry
  any-listed [] = refl
  any-listed (e ∷ es) = any-put e (listed es) ∙ ap (λ b. q (seat_of_entry e) || b) (any-listed es)

  pub seats-same : (ts : List Told) → AllByRecursion HasValue ts → list_any (λ e. q (seat_of_entry e)) (entries ts) ≡ list_any (λ t. q (seat_of t)) ts
  unfolding any_entry any_told
  seats-same ts v =
      any-listed (flat_map entry_of (firsts_behind [] ts))
      ∙ (entries-there (firsts_behind [] ts) (each-first HasValue [] ts v) ∙ firsts-behind [] ts)
