-- Entries put one after another by their places are the entries in listing order.
use Rattle.std.proofs.Common.{◌≡◌, ℕ, Bool, true, false, ◌||◌, cond, List, [], ◌∷◌, ◌++◌, map, flat_map, Option, Some, None, ◌⊎◌, inl, inr, refl, sym, ap, ◌∙◌}
use Rattle.std.proofs.Common.{Ordering}
use Rattle.std.specs.Prelude.{unwrap_or}
use Rattle.std.specs.List.{list_any}
use Rattle.std.specs.Ordering.{nat_cmp, is_eq, is_lt, match_ordering}
use Rattle.std.specs.declared.cmp.Ordering.TheVariants.{Less, Equal, Greater}
use Rattle.std.specs.Cmp.Lexicographic.{slice_cmp}
use Rattle.std.specs.BTreeMap.{insert_entry}
use Rattle.std.proofs.lemmas.Bool.{false≢true}
use Rattle.term_table.specs.declared.contexts.Seat.{Seat}
use Rattle.term_table.specs.Places.{seat_place, precedes, comes_before}
use Rattle.term_table.proofs.RunLemmas.{neither_before, not_both_ways}
use Rattle.term_table.proofs.SeatLemmas.{comes_before-trans, one_seat}
use Rattle.inv_terms.specs.declared.entries.Entry.{Entry}
use Rattle.inv_terms.specs.declared.values.Value.{Value}
use Rattle.bind_meaning.specs.Seats.{context_of}
use Rattle.bind_meaning.specs.Judging.{Told, is_of_seat, first_before, seat_of}
use Rattle.bind_meaning.specs.Terms.{firsts_behind, entry_of, seat_of_entry, put, listed, entries}
use Rattle.bind_terms.specs.declared.firsts.First.{First}
use Rattle.bind_terms.specs.Telling.{seat_of_first, first_of, Entries, kept_at, told_place, arranged}
use Rattle.bind_terms.specs.Entries.{entries_of}
use Rattle.reading_laws.proofs.SeatLemmas.{seat-told}
use Rattle.bind_terms.proofs.Tolds.{bool_cases, or_else, first-append}
use Rattle.bind_terms.proofs.Holding.{place-is, any-insert}

abbrev pub Each : {X : Type 0} → (X → Type 0) → List X → Type 0
Each P [] = Unit {0}
Each P (x ∷ xs) = P x × Each P xs

-- ---- two entries put in either order

abbrev ahead : Entry → Entry → Bool
ahead a b = comes_before (seat_of_entry a) (seat_of_entry b)

choice : (a b : Seat) (o q : Option (List ℕ)) → seat_place a ≡ o → seat_place b ≡ q
    → comes_before a b ≡ (elim o [ None ↦ false | Some x ↦ elim q [ None ↦ false | Some y ↦ precedes x y ] ])
choice a b o q e f =
    ap (λ x. elim x [ None ↦ false | Some p ↦ elim (seat_place b) [ None ↦ false | Some y ↦ precedes p y ] ]) e
    ∙ ap (λ y. elim o [ None ↦ false | Some p ↦ elim y [ None ↦ false | Some z ↦ precedes p z ] ]) f

by-places : (a b : Seat) (p q : List ℕ) → seat_place a ≡ Some p → seat_place b ≡ Some q → comes_before a b ≡ precedes p q
by-places a b p q e f = choice a b (Some p) (Some q) e f

not-back : (a b : Seat) → comes_before a b ≡ true → comes_before b a ≡ false
not-back a b h = go (seat_place a) (seat_place b) refl refl (sym (choice a b (seat_place a) (seat_place b) refl refl) ∙ h)
  where
    go : (o q : Option (List ℕ)) → seat_place a ≡ o → seat_place b ≡ q
        → (elim o [ None ↦ false | Some x ↦ elim q [ None ↦ false | Some y ↦ precedes x y ] ]) ≡ true → comes_before b a ≡ false
    go None q e f k = absurd (false≢true k)
    go (Some p) None e f k = absurd (false≢true k)
    go (Some p) (Some q) e f k = by-places b a q p f e ∙ not_both_ways p q k

put-true : (e o : Entry) (es : List Entry) → ahead e o ≡ true → put e (o ∷ es) ≡ e ∷ (o ∷ es)
put-true e o es h = ap (λ b. elim b [ true ↦ e ∷ (o ∷ es) | false ↦ o ∷ put e es ]) h

put-false : (e o : Entry) (es : List Entry) → ahead e o ≡ false → put e (o ∷ es) ≡ o ∷ put e es
put-false e o es h = ap (λ b. elim b [ true ↦ e ∷ (o ∷ es) | false ↦ o ∷ put e es ]) h

either-order : (a b : Entry) → ahead a b ≡ true → (es : List Entry) → put a (put b es) ≡ put b (put a es)
either-order a b h [] = put-true a b [] h ∙ sym (put-false b a [] (not-back (seat_of_entry a) (seat_of_entry b) h))
either-order a b h (o ∷ es) =
    let back : ahead b a ≡ false = not-back (seat_of_entry a) (seat_of_entry b) h in
    elim (bool_cases (ahead b o)) [
      | inl bo ↦
          let ao : ahead a o ≡ true = comes_before-trans (seat_of_entry a) (seat_of_entry b) (seat_of_entry o) h bo in
          (ap (put a) (put-true b o es bo) ∙ put-true a b (o ∷ es) h)
          ∙ sym (ap (put b) (put-true a o es ao) ∙ (put-false b a (o ∷ es) back ∙ ap (λ l. a ∷ l) (put-true b o es bo)))
      | inr bo ↦ elim (bool_cases (ahead a o)) [
        | inl ao ↦
            (ap (put a) (put-false b o es bo) ∙ put-true a o (put b es) ao)
            ∙ sym (ap (put b) (put-true a o es ao) ∙ (put-false b a (o ∷ es) back ∙ ap (λ l. a ∷ l) (put-false b o es bo)))
        | inr ao ↦
            (ap (put a) (put-false b o es bo) ∙ put-false a o (put b es) ao)
            ∙ (ap (λ l. o ∷ l) (either-order a b h es) ∙ sym (ap (put b) (put-false a o es ao) ∙ put-false b o (put a es) bo))
      ]
    ]

abbrev Apart : Entry → Entry → Type 0
Apart a b = (ahead a b ≡ true) ⊎ (ahead b a ≡ true)

commutes : (a b : Entry) → Apart a b → (es : List Entry) → put a (put b es) ≡ put b (put a es)
commutes a b (inl h) es = either-order a b h es
commutes a b (inr h) es = sym (either-order b a h es)

abbrev puts : List Entry → List Entry → List Entry
puts done [] = done
puts done (e ∷ es) = puts (put e done) es

puts-put : (e : Entry) (es : List Entry) → Each (Apart e) es → (done : List Entry) → puts (put e done) es ≡ put e (puts done es)
puts-put e [] h done = refl
puts-put e (x ∷ es) h done = ap (λ l. puts l es) (sym (commutes e x h.0 done)) ∙ puts-put e es h.1 (put x done)

abbrev EachApart : List Entry → Type 0
EachApart [] = Unit {0}
EachApart (e ∷ es) = Each (Apart e) es × EachApart es

puts-listed : (es : List Entry) → EachApart es → puts [] es ≡ listed es
puts-listed [] h = refl
puts-listed (e ∷ es) h = puts-put e es h.0 [] ∙ ap (put e) (puts-listed es h.1)

-- ---- what was told first of each, apart from one another

or-none : (a b : Option Told) → or_else a b ≡ None → (a ≡ None) × (b ≡ None)
or-none None b h = (refl, h)
or-none (Some f) b h = absurd (let k : Some f ≡ None = h in cc)

one-none : (b : Bool) (t : Told) → ◌≡◌ {A = Option Told} (elim b [ true ↦ Some t | false ↦ None ]) None → b ≡ false
one-none true t h = absurd (let k : Some t ≡ None = h in cc)
one-none false t h = refl

abbrev Fresh : List Told → Told → Type 0
Fresh pre u = first_before pre u ≡ None

each-weaker : {X : Type 0} (P Q : X → Type 0) → ((x : X) → P x → Q x) → (xs : List X) → Each P xs → Each Q xs
each-weaker P Q f [] h = tt
each-weaker P Q f (x ∷ xs) h = (f x h.0, each-weaker P Q f xs h.1)

fresh-step : (o : Option Told) (pre ts : List Told) (t : Told) → first_before pre t ≡ o → Each (Fresh (pre ++ t ∷ [])) (firsts_behind (pre ++ t ∷ []) ts)
    → Each (Fresh pre) (firsts_behind pre ts)
    → Each (Fresh pre) (elim o [ None ↦ t ∷ firsts_behind (pre ++ (t ∷ [])) ts | Some first ↦ firsts_behind pre ts ])
fresh-step None pre ts t e more same = (
  e,
  each-weaker (Fresh (pre ++ t ∷ [])) (Fresh pre) (λ u h. (or-none _ _ (sym (first-append pre (t ∷ []) u) ∙ h)).0)
      (firsts_behind (pre ++ t ∷ []) ts) more,
)
fresh-step (Some f) pre ts t e more same = same

fresh : (pre ts : List Told) → Each (Fresh pre) (firsts_behind pre ts)
fresh pre [] = tt
fresh pre (t ∷ ts) = fresh-step (first_before pre t) pre ts t refl (fresh (pre ++ t ∷ []) ts) (fresh pre ts)

abbrev Other : Told → Told → Type 0
Other t u = is_of_seat t u ≡ false

abbrev EachOther : List Told → Type 0
EachOther [] = Unit {0}
EachOther (t ∷ ts) = Each (Other t) ts × EachOther ts

other-step : (o : Option Told) (pre ts : List Told) (t : Told) → EachOther (firsts_behind (pre ++ t ∷ []) ts) → EachOther (firsts_behind pre ts)
    → EachOther (elim o [ None ↦ t ∷ firsts_behind (pre ++ (t ∷ [])) ts | Some first ↦ firsts_behind pre ts ])
other-step None pre ts t more same = (
  each-weaker (Fresh (pre ++ t ∷ [])) (Other t) (λ u h. one-none (is_of_seat t u) t (or-none _ _ (sym (first-append pre (t ∷ []) u) ∙ h)).1)
      (firsts_behind (pre ++ t ∷ []) ts) (fresh (pre ++ t ∷ []) ts),
  more,
)
other-step (Some f) pre ts t more same = same

pub others : (pre ts : List Told) → EachOther (firsts_behind pre ts)
others pre [] = tt
others pre (t ∷ ts) = other-step (first_before pre t) pre ts t (others (pre ++ t ∷ []) ts) (others pre ts)

kept-step : (o : Option Told) (P : Told → Type 0) (pre ts : List Told) (t : Told) → P t → Each P (firsts_behind (pre ++ t ∷ []) ts)
    → Each P (firsts_behind pre ts)
    → Each P (elim o [ None ↦ t ∷ firsts_behind (pre ++ (t ∷ [])) ts | Some first ↦ firsts_behind pre ts ])
kept-step None P pre ts t p more same = (p, more)
kept-step (Some f) P pre ts t p more same = same

each-first : (P : Told → Type 0) (pre ts : List Told) → Each P ts → Each P (firsts_behind pre ts)
each-first P pre [] h = tt
each-first P pre (t ∷ ts) h = kept-step (first_before pre t) P pre ts t h.0 (each-first P (pre ++ t ∷ []) ts h.1) (each-first P pre ts h.1)

-- ---- what is told has a place and a value

pub record IsWhole (t : Told) : Type 0 where
  pub place : List ℕ
  pub value : Value
  pub placed : seat_place (seat_of t) ≡ Some place
  pub valued : t.parsed.value ≡ Some value

abbrev entry_at : (t : Told) → IsWhole t → Entry
entry_at t w = record { context = context_of t.placed; term = t.parsed.term; value = w.value }

entry-is : (t : Told) (w : IsWhole t) → entry_of t ≡ entry_at t w ∷ []
entry-is t w = ap (λ v. elim v [ None ↦ [] | Some value ↦ record { context = context_of t.placed; term = t.parsed.term; value = value } ∷ [] ]) w.valued

first-entry-is : (t : Told) (w : IsWhole t) → entries_of (first_of t) ≡ entry_at t w ∷ []
first-entry-is t w = ap (λ v. elim v [ None ↦ [] | Some value ↦ record { context = context_of t.placed; term = t.parsed.term; value = value } ∷ [] ]) w.valued

apart-places : (t u : Told) (w : IsWhole t) (x : IsWhole u) → is_of_seat t u ≡ false → w.place ≡ x.place → ⊥
apart-places t u w x other e =
    false≢true (sym other ∙ seat-told t u (one_seat (seat_of t) (seat_of u) x.place (w.placed ∙ ap Some e) x.placed))

apart-entries : (t u : Told) (w : IsWhole t) (x : IsWhole u) → is_of_seat t u ≡ false → Apart (entry_at t w) (entry_at u x)
apart-entries t u w x other = elim (bool_cases (precedes w.place x.place)) [
  | inl h ↦ inl (by-places (seat_of t) (seat_of u) w.place x.place w.placed x.placed ∙ h)
  | inr h ↦ elim (bool_cases (precedes x.place w.place)) [
    | inl k ↦ inr (by-places (seat_of u) (seat_of t) x.place w.place x.placed w.placed ∙ k)
    | inr k ↦ absurd (apart-places t u w x other (neither_before w.place x.place h k))
  ]
]

abbrev entries_at : (ts : List Told) → Each IsWhole ts → List Entry
entries_at [] h = []
entries_at (t ∷ ts) h = entry_at t h.0 ∷ entries_at ts h.1

entries-are : (ts : List Told) (h : Each IsWhole ts) → flat_map entry_of ts ≡ entries_at ts h
entries-are [] h = refl
entries-are (t ∷ ts) h = ap (λ l. l ++ flat_map entry_of ts) (entry-is t h.0) ∙ ap (λ l. entry_at t h.0 ∷ l) (entries-are ts h.1)

each-apart : (t : Told) (w : IsWhole t) (ts : List Told) (h : Each IsWhole ts) → Each (Other t) ts → Each (Apart (entry_at t w)) (entries_at ts h)
each-apart t w [] h other = tt
each-apart t w (u ∷ ts) h other = (apart-entries t u w h.0 other.0, each-apart t w ts h.1 other.1)

all-apart : (ts : List Told) (h : Each IsWhole ts) → EachOther ts → EachApart (entries_at ts h)
all-apart [] h other = tt
all-apart (t ∷ ts) h other = (each-apart t h.0 ts h.1 other.0, all-apart ts h.1 other.1)

-- ---- entries kept by their places

abbrev order : List ℕ → List ℕ → Ordering
order = slice_cmp nat_cmp

-- the kept is at its place, and has a value
record IsKept (e : List ℕ × First) : Type 0 where
  value : Value
  placed : seat_place (seat_of_first e.1) ≡ Some e.0
  valued : e.1.value ≡ Some value

abbrev kept_entry : (e : List ℕ × First) → IsKept e → Entry
kept_entry e k = record { context = e.1.context; term = e.1.term; value = k.value }

abbrev entries_kept : Entries → List Entry
entries_kept entries = flat_map entries_of (map (λ (e : List ℕ × First). e.1) entries)

kept-is : (e : List ℕ × First) (k : IsKept e) → entries_of e.1 ≡ kept_entry e k ∷ []
kept-is e k = ap (λ v. elim v [ None ↦ [] | Some value ↦ record { context = e.1.context; term = e.1.term; value = value } ∷ [] ]) k.valued

none-at : (o : Ordering) (x : First) (rest : Option First) → (cond (is_eq o) (Some x) rest) ≡ None → (o ≡ Equal → ⊥) × (rest ≡ None)
none-at Less x rest h = (λ e. absurd (let k : Less ≡ Equal = e in cc), h)
none-at Equal x rest h = absurd (let k : Some x ≡ None = h in cc)
none-at Greater x rest h = (λ e. absurd (let k : Greater ≡ Equal = e in cc), h)

put-step : (o : Ordering) (new e same : List ℕ × First) (es later : Entries) (a b : Entry) → (o ≡ Equal → ⊥) → entries_of new.1 ≡ a ∷ []
    → entries_of e.1 ≡ b ∷ [] → ahead a b ≡ is_lt o
    → entries_kept later ≡ put a (entries_kept es) → entries_kept (match_ordering o (new ∷ (e ∷ es)) (same ∷ es) (e ∷ later)) ≡ put a (entries_kept (e ∷ es))
put-step Less new e same es later a b apart new_is e_is is more =
    ap (λ l. l ++ entries_kept (e ∷ es)) new_is
    ∙ (ap (λ l. a ∷ (l ++ entries_kept es)) e_is ∙ (sym (put-true a b (entries_kept es) is) ∙ ap (λ l. put a (l ++ entries_kept es)) (sym e_is)))
put-step Equal new e same es later a b apart new_is e_is is more = absurd (apart refl)
put-step Greater new e same es later a b apart new_is e_is is more =
    ap (λ l. l ++ entries_kept later) e_is ∙ (ap (λ l. b ∷ l) more
    ∙ (sym (put-false a b (entries_kept es) is) ∙ ap (λ l. put a (l ++ entries_kept es)) (sym e_is)))

put-insert : (entries : Entries) → Each IsKept entries → (t : Told) (w : IsWhole t) → kept_at w.place entries ≡ None
    → entries_kept (insert_entry order entries w.place (first_of t)) ≡ put (entry_at t w) (entries_kept entries)
put-insert [] h t w absent = ap (λ l. l ++ []) (first-entry-is t w)
put-insert (e ∷ es) h t w absent =
    let k = none-at (order w.place e.0) e.1 (kept_at w.place es) absent in
    put-step (order w.place e.0) (w.place, first_of t) e (e.0, first_of t) es (insert_entry order es w.place (first_of t)) (entry_at t w) (kept_entry e h.0) k.0
    (first-entry-is t w) (kept-is e h.0)
    (by-places (seat_of t) (seat_of_first e.1) w.place e.0 w.placed h.0.placed) (put-insert es h.1 t w k.1)

each-step : (o : Ordering) (new e same : List ℕ × First) (es later : Entries) → (o ≡ Equal → ⊥) → IsKept new → IsKept e → Each IsKept es → Each IsKept later
    → Each IsKept (match_ordering o (new ∷ (e ∷ es)) (same ∷ es) (e ∷ later))
each-step Less new e same es later apart n h k m = (n, (h, k))
each-step Equal new e same es later apart n h k m = absurd (apart refl)
each-step Greater new e same es later apart n h k m = (h, m)

each-insert : (entries : Entries) → Each IsKept entries → (t : Told) (w : IsWhole t) → kept_at w.place entries ≡ None
    → Each IsKept (insert_entry order entries w.place (first_of t))
each-insert [] h t w absent = (record { value = w.value; placed = w.placed; valued = w.valued }, tt)
each-insert (e ∷ es) h t w absent =
    let k = none-at (order w.place e.0) e.1 (kept_at w.place es) absent in
    each-step (order w.place e.0) (w.place, first_of t) e (e.0, first_of t) es (insert_entry order es w.place (first_of t)) k.0
    (record { value = w.value; placed = w.placed; valued = w.valued }) h.0 h.1
    (each-insert es h.1 t w k.1)

-- ---- no entry of a place

abbrev has_place : List ℕ → Entries → Bool
has_place q entries = list_any (λ (e : List ℕ × First). is_eq (order q e.0)) entries

absent-step : (b : Bool) (x : First) (rest : Option First) (more : Bool) → (b || more) ≡ false → (more ≡ false → rest ≡ None) → cond b (Some x) rest ≡ None
absent-step true x rest more h f = absurd (false≢true (sym h))
absent-step false x rest more h f = f h

no-place : (q : List ℕ) (entries : Entries) → has_place q entries ≡ false → kept_at q entries ≡ None
no-place q [] h = refl
no-place q (e ∷ es) h = absent-step (is_eq (order q e.0)) e.1 (kept_at q es) (has_place q es) h (no-place q es)

abbrev Away : Entries → Told → Type 0
Away entries t = has_place (told_place t) entries ≡ false

place-told : (t : Told) (w : IsWhole t) → told_place t ≡ w.place
place-told t w = ap (λ o. unwrap_or o []) w.placed

or-false : (a b : Bool) → a ≡ false → b ≡ false → (a || b) ≡ false
or-false false false e f = refl
or-false false true e f = f
or-false true b e f = e

still-away : (entries : Entries) (t u : Told) (w : IsWhole t) (x : IsWhole u) → kept_at w.place entries ≡ None → is_of_seat t u ≡ false → Away entries u
    → Away (insert_entry order entries w.place (first_of t)) u
still-away entries t u w x absent other away =
    any-insert (λ (e : List ℕ × First). is_eq (order (told_place u) e.0)) entries w.place (first_of t) absent
    ∙ or-false (is_eq (order (told_place u) w.place)) (has_place (told_place u) entries)
    (elim (bool_cases (is_eq (order (told_place u) w.place))) [
      | inl same ↦ absurd (apart-places t u w x other (sym (place-is (told_place u) w.place same) ∙ place-told u x))
      | inr apart ↦ apart
    ]) away

all-away : (entries : Entries) (t : Told) (w : IsWhole t) (ts : List Told) → Each IsWhole ts → kept_at w.place entries ≡ None → Each (Other t) ts
    → Each (Away entries) ts
    → Each (Away (insert_entry order entries w.place (first_of t))) ts
all-away entries t w [] h absent other away = tt
all-away entries t w (u ∷ ts) h absent other away = (still-away entries t u w h.0 absent other.0 away.0, all-away entries t w ts h.1 absent other.1 away.1)

arranged-puts : (entries : Entries) → Each IsKept entries → (ts : List Told) (h : Each IsWhole ts) → EachOther ts → Each (Away entries) ts
    → entries_kept (arranged entries ts) ≡ puts (entries_kept entries) (entries_at ts h)
arranged-puts entries k [] h other away = refl
arranged-puts entries k (t ∷ ts) h other away =
    let w = h.0 in
    let absent : kept_at w.place entries ≡ None = no-place w.place entries (ap (λ q. has_place q entries) (sym (place-told t w)) ∙ away.0) in
    ap (λ q. entries_kept (arranged (insert_entry order entries q (first_of t)) ts)) (place-told t w)
    ∙ (arranged-puts (insert_entry order entries w.place (first_of t)) (each-insert entries k t w absent) ts h.1 other.1
    (all-away entries t w ts h.1 absent other.0 away.1)
    ∙ ap (λ l. puts l (entries_at ts h.1)) (put-insert entries k t w absent))

each-all : {X : Type 0} (P : X → Type 0) → ((x : X) → P x) → (xs : List X) → Each P xs
each-all P f [] = tt
each-all P f (x ∷ xs) = (f x, each-all P f xs)

pub arranged-listed : (ts : List Told) → Each IsWhole ts
    → flat_map entries_of (map (λ (e : List ℕ × First). e.1) (arranged [] (firsts_behind [] ts))) ≡ entries ts
arranged-listed ts h =
    let firsts = firsts_behind [] ts in
    let all = each-first IsWhole [] ts h in
    arranged-puts [] tt firsts all (others [] ts) (each-all (Away []) (λ t. refl) firsts)
    ∙ (puts-listed (entries_at firsts all) (all-apart firsts all (others [] ts)) ∙ ap listed (sym (entries-are firsts all)))
