-- The entries are in strictly rising order: their seats differ, and each has a place.
use Rattle.std.proofs.Common.{◌≡◌, ℕ, Bool, true, false, List, [], ◌∷◌, ◌++◌, flat_map, ◌⊎◌, inl, inr, Option, Some, None, is_some, refl, ap, sym, ◌∙◌}
use Rattle.std.specs.List.{list_all, AllByRecursion}
use Rattle.std.proofs.lemmas.Bool.{false≢true}
use Rattle.term_table.specs.declared.contexts.Seat.{Seat}
use Rattle.term_table.specs.Places.{seat_place, precedes, comes_before}
use Rattle.term_table.proofs.RunLemmas.{neither_before}
use Rattle.term_table.proofs.SeatLemmas.{comes_before-trans, one_seat}
use Rattle.inv_terms.specs.declared.values.Value.{Value}
use Rattle.inv_terms.specs.declared.entries.Entry.{Entry}
use Rattle.inv_terms.specs.Listing.{is_listed}
use Rattle.inv_terms.specs.Listing as listing
use Rattle.bind_meaning.specs.Seats.{context_of}
use Rattle.bind_meaning.specs.Judging.{Told, is_of_seat, first_before, seat_of}
use Rattle.bind_meaning.specs.Terms.{firsts_behind, entry_of, seat_of_entry, put, listed, entries}
use Rattle.reading_laws.proofs.SeatLemmas.{seat-told}
use Rattle.reading_laws.proofs.ListLemmas.{and-true, bool-cases, tests-hold, each-flat, each-weaker, each-both}
use Rattle.reading_laws.proofs.EntryLemmas.{HasPlace, entry_at, OfEntry, each-first, each-put, each-listed, each-entry}

-- ---- what is told first of each has a seat of its own

abbrev Other : Told → Told → Type 0
Other t u = is_of_seat t u ≡ false

abbrev EachPair : List Told → Type 0
EachPair [] = Unit {0}
EachPair (t ∷ ts) = AllByRecursion (Other t) ts × EachPair ts

none-split : (before : List Told) (t u : Told) → first_before (before ++ (t ∷ [])) u ≡ None → (first_before before u ≡ None) × Other t u
none-split [] t u h = go (is_of_seat t u) refl h
  where
    go : (b : Bool) → is_of_seat t u ≡ b → ◌≡◌ {A = Option Told} (elim b [ true ↦ Some t | false ↦ None ]) None → ◌≡◌ {A = Option Told} None None × Other t u
    go true e k = absurd (false≢true (sym (ap is_some k)))
    go false e k = (refl, e)
none-split (a ∷ before) t u h = go (is_of_seat a u) h (none-split before t u)
  where
    go : (b : Bool) → ◌≡◌ {A = Option Told} (elim b [ true ↦ Some a | false ↦ first_before (before ++ (t ∷ [])) u ]) None
        → (first_before (before ++ (t ∷ [])) u ≡ None → (first_before before u ≡ None) × Other t u)
        → ◌≡◌ {A = Option Told} (elim b [ true ↦ Some a | false ↦ first_before before u ]) None × Other t u
    go true k f = absurd (false≢true (sym (ap is_some k)))
    go false k f = f k

abbrev Fresh : List Told → Told → Type 0
Fresh before u = first_before before u ≡ None

fresh : (before ts : List Told) → AllByRecursion (Fresh before) (firsts_behind before ts)
fresh before [] = tt
fresh before (t ∷ ts) = go (first_before before t) refl (fresh (before ++ (t ∷ [])) ts) (fresh before ts)
  where
    go : (o : Option Told) → first_before before t ≡ o → AllByRecursion (Fresh (before ++ (t ∷ []))) (firsts_behind (before ++ (t ∷ [])) ts)
        → AllByRecursion (Fresh before) (firsts_behind before ts)
        → AllByRecursion (Fresh before) (elim o [ None ↦ t ∷ firsts_behind (before ++ (t ∷ [])) ts | Some first ↦ firsts_behind before ts ])
    go None e f g = (e, each-weaker (Fresh (before ++ (t ∷ []))) (Fresh before) (λ u k. (none-split before t u k).0) (firsts_behind (before ++ (t ∷ [])) ts) f)
    go (Some first) e f g = g

first-pairs : (before ts : List Told) → EachPair (firsts_behind before ts)
first-pairs before [] = tt
first-pairs before (t ∷ ts) = go (first_before before t) (first-pairs (before ++ (t ∷ [])) ts) (first-pairs before ts)
  where
    go : (o : Option Told) → EachPair (firsts_behind (before ++ (t ∷ [])) ts) → EachPair (firsts_behind before ts)
        → EachPair (elim o [ None ↦ t ∷ firsts_behind (before ++ (t ∷ [])) ts | Some first ↦ firsts_behind before ts ])
    go None f g = (
      each-weaker (Fresh (before ++ (t ∷ []))) (Other t) (λ u k. (none-split before t u k).1) (firsts_behind (before ++ (t ∷ [])) ts)
          (fresh (before ++ (t ∷ [])) ts),
      f,
    )
    go (Some first) f g = g

-- ---- entries put in order

abbrev ahead : Entry → Entry → Bool
ahead a b = comes_before (seat_of_entry a) (seat_of_entry b)

abbrev Ahead : Entry → Entry → Type 0
Ahead a b = ahead a b ≡ true

abbrev Apart : Entry → Entry → Type 0
Apart a b = (ahead a b ≡ true) ⊎ (ahead b a ≡ true)

abbrev Rises : List Entry → Type 0
Rises [] = Unit {0}
Rises (e ∷ es) = AllByRecursion (Ahead e) es × Rises es

behind-of : (e o : Entry) → ahead e o ≡ false → Apart e o → ahead o e ≡ true
behind-of e o h (inl k) = absurd (false≢true (sym h ∙ k))
behind-of e o h (inr k) = k

put-rises : (e : Entry) (es : List Entry) → AllByRecursion (Apart e) es → Rises es → Rises (put e es)
put-rises e [] h r = (tt, tt)
put-rises e (other ∷ es) h r = go (ahead e other) refl (put-rises e es h.1 r.1)
  where
    go : (b : Bool) → ahead e other ≡ b → Rises (put e es) → Rises (elim b [ true ↦ e ∷ (other ∷ es) | false ↦ other ∷ put e es ])
    go true k f = ((k, each-weaker (Ahead other) (Ahead e) (λ x l. comes_before-trans (seat_of_entry e) (seat_of_entry other) (seat_of_entry x) k l) es r.0), r)
    go false k f = (each-put (Ahead other) e es (behind-of e other k h.0) r.0, f)

rises-listed : (es : List Entry) → Rises es → is_listed es ≡ true
rises-listed [] r = refl
rises-listed (e ∷ es) r = and-true (list_all (listing.comes_before e) es) (is_listed es) (tests-hold (listing.comes_before e) es r.0) (rises-listed es r.1)

-- ---- told with seats of their own and places make entries apart

ordered : (a b : Seat) (o q : Option (List ℕ)) → seat_place a ≡ o → seat_place b ≡ q
    → comes_before a b ≡ (elim o [ None ↦ false | Some x ↦ elim q [ None ↦ false | Some y ↦ precedes x y ] ])
ordered a b o q e f =
    ap (λ x. elim x [ None ↦ false | Some p ↦ elim (seat_place b) [ None ↦ false | Some y ↦ precedes p y ] ]) e
    ∙ ap (λ y. elim o [ None ↦ false | Some p ↦ elim y [ None ↦ false | Some z ↦ precedes p z ] ]) f

apart-at : (t u : Told) (p q : List ℕ) → seat_place (seat_of t) ≡ Some p → seat_place (seat_of u) ≡ Some q → Other t u
    → (comes_before (seat_of t) (seat_of u) ≡ true) ⊎ (comes_before (seat_of u) (seat_of t) ≡ true)
apart-at t u p q e f other = elim (bool-cases (precedes p q)) [
  | inl h ↦ inl (ordered (seat_of t) (seat_of u) (Some p) (Some q) e f ∙ h)
  | inr h ↦ elim (bool-cases (precedes q p)) [
    | inl k ↦ inr (ordered (seat_of u) (seat_of t) (Some q) (Some p) f e ∙ k)
    | inr k ↦ absurd (false≢true (sym other ∙ seat-told t u (one_seat (seat_of t) (seat_of u) q (e ∙ ap Some (neither_before p q h k)) f)))
  ]
]

apart-told : (t u : Told) → HasPlace t → HasPlace u → Other t u → (comes_before (seat_of t) (seat_of u) ≡ true) ⊎ (comes_before (seat_of u) (seat_of t) ≡ true)
apart-told t u h k other = go (seat_place (seat_of t)) (seat_place (seat_of u)) refl refl h k
  where
    go : (o q : Option (List ℕ)) → seat_place (seat_of t) ≡ o → seat_place (seat_of u) ≡ q → is_some o ≡ true → is_some q ≡ true
        → (comes_before (seat_of t) (seat_of u) ≡ true) ⊎ (comes_before (seat_of u) (seat_of t) ≡ true)
    go None q e f l m = absurd (false≢true l)
    go (Some p) None e f l m = absurd (false≢true m)
    go (Some p) (Some q) e f l m = apart-at t u p q e f other

told-rises : (ts : List Told) → AllByRecursion HasPlace ts → EachPair ts → Rises (listed (flat_map entry_of ts))
told-rises [] h pairs = tt
told-rises (t ∷ ts) h pairs = go t.parsed.value (told-rises ts h.1 pairs.1)
  where
    go : (o : Option Value) → Rises (listed (flat_map entry_of ts))
        → Rises (listed ((elim o [ None ↦ [] | Some value ↦ record { context = context_of t.placed; term = t.parsed.term; value = value } ∷ [] ])
        ++ flat_map entry_of ts))
    go None r = r
    go (Some value) r =
        put-rises (entry_at t value) (listed (flat_map entry_of ts))
        (each-listed (Apart (entry_at t value)) (flat_map entry_of ts)
        (each-flat (Apart (entry_at t value)) (OfEntry (Apart (entry_at t value))) entry_of (each-entry (Apart (entry_at t value))) ts
        (each-weaker (λ u. HasPlace u × Other t u) (OfEntry (Apart (entry_at t value))) (λ u w v e. apart-told t u h.0 w.0 w.1) ts
        (each-both HasPlace (Other t) ts h.1 pairs.0)))) r

pub entries-listed : (ts : List Told) → AllByRecursion HasPlace ts → is_listed (entries ts) ≡ true
entries-listed ts h = rises-listed (entries ts) (told-rises (firsts_behind [] ts) (each-first HasPlace [] ts h) (first-pairs [] ts))
