-- Each value that is told is that of an entry: the entries are what was told first of each seat, and what is told again agrees.
use Rattle.std.proofs.Common.{◌≡◌, ℕ, Bool, true, false, ◌||◌, List, [], ◌∷◌, ◌++◌, flat_map, Option, Some, None, is_some, Ok, refl, ap, sym, ◌∙◌}
use Rattle.std.proofs.Common.{subst}
use Rattle.std.proofs.Common.{All}
use Rattle.std.specs.List.{list_any, AllByRecursion}
use Rattle.std.specs.Str.{bytes_eq}
use Rattle.std.specs.Ordering.{int_cmp, is_eq, ordering_reverse}
use Rattle.std.specs.declared.cmp.Ordering.{Ordering}
use Rattle.std.specs.declared.cmp.Ordering.TheVariants.{Less, Equal, Greater}
use Rattle.std.proofs.lemmas.Bool.{false≢true}
use Rattle.std.proofs.lemmas.Cmp.{int_cmp_total}
use Rattle.std.proofs.lemmas.Option.{same_Some}
use Rattle.std.proofs.lemmas.Slice.Eq.{bytes_eq-Decides}
use Rattle.inv_base.specs.Tree.{Node}
use Rattle.inv_decimal.specs.CivilDay.{day_cmp}
use Rattle.inv_decimal.proofs.DayBack.{day_cmp_total}
use Rattle.code_lists.specs.CodeFiles.{Lists}
use Rattle.term_table.specs.Places.{comes_before}
use Rattle.inv_terms.specs.declared.values.Value.{Value}
use Rattle.inv_terms.specs.declared.values.Value.TheVariants as values
use Rattle.inv_terms.specs.declared.entries.Entry.{Entry}
use Rattle.inv_terms.specs.Values.{same_value}
use Rattle.bind_rows.specs.declared.rows.Row.{Row}
use Rattle.bind_meaning.specs.Seats.{context_of}
use Rattle.bind_meaning.specs.Judging.{Told, first_before, is_of_seat, is_disagreeing, disagree, seat_of}
use Rattle.bind_meaning.specs.Terms.{Read, firsts_behind, entry_of, seat_of_entry, put, listed, terms_of}
use Rattle.reading_laws.proofs.ListLemmas.{any-append, or-left, or-right, and-true, not-not, all-of-each}
use Rattle.reading_laws.proofs.EntryLemmas.{HasValue, entry_at}
use Rattle.reading_laws.proofs.SeatLemmas.{told-seat, is_seat, seat-itself}
use Rattle.kept_laws.specs.Kept.{is_value, says, is_entered, told_of}
use Rattle.kept_laws.proofs.ToldLemmas.{AllAgree, read-without}

-- ---- a value and itself

text-itself : (a : List ℕ) → bytes_eq a a ≡ true
text-itself a = (bytes_eq-Decides a a).1 refl

equal-itself : (o : Ordering) → o ≡ ordering_reverse o → is_eq o ≡ true
equal-itself Less h = absurd (let k : Less ≡ Greater = h in cc)
equal-itself Equal h = refl
equal-itself Greater h = absurd (let k : Greater ≡ Less = h in cc)

value-itself : (v : Value) → same_value v v ≡ true
value-itself (values.Text text) = text-itself text
value-itself (values.Identifier text) = text-itself text
value-itself (values.Code text) = text-itself text
value-itself (values.Amount number) = equal-itself (int_cmp number.value number.value) (int_cmp_total.antisymm number.value number.value)
value-itself (values.Quantity number) = equal-itself (int_cmp number.value number.value) (int_cmp_total.antisymm number.value number.value)
value-itself (values.Percent number) = equal-itself (int_cmp number.value number.value) (int_cmp_total.antisymm number.value number.value)
value-itself (values.Date day) = equal-itself (day_cmp day day) (day_cmp_total.antisymm day day)
value-itself (values.Base64 text) = text-itself text

-- ---- the first of a seat

-- what is told of one seat is told of the other
first-of : (before : List Told) (t u : Told) → is_of_seat t u ≡ true → first_before before t ≡ first_before before u
first-of [] t u h = refl
first-of (a ∷ before) t u h =
    ap (λ s. elim (is_seat (seat_of a) s) [ true ↦ Some a | false ↦ first_before before t ]) (told-seat t u h)
    ∙ ap (λ o. elim (is_of_seat a u) [ true ↦ Some a | false ↦ o ]) (first-of before t u h)

first-seat : (before : List Told) (t f : Told) → first_before before t ≡ Some f → is_of_seat f t ≡ true
first-seat [] t f h = absurd (false≢true (ap is_some h))
first-seat (a ∷ before) t f h = go (is_of_seat a t) refl h (first-seat before t f)
  where
    go : (b : Bool) → is_of_seat a t ≡ b → (elim b [ true ↦ Some a | false ↦ first_before before t ]) ≡ Some f
        → (first_before before t ≡ Some f → is_of_seat f t ≡ true) → is_of_seat f t ≡ true
    go true e k r = ap (λ (x : Told). is_of_seat x t) (sym (same_Some a f k)) ∙ e
    go false e k r = r k

-- the first of those before and one more
abbrev or_last : Option Told → Told → Told → Option Told
or_last first t u = elim first [ Some known ↦ Some known | None ↦ elim (is_of_seat t u) [ true ↦ Some t | false ↦ None ] ]

first-last : (before : List Told) (t u : Told) → first_before (before ++ (t ∷ [])) u ≡ or_last (first_before before u) t u
first-last [] t u = refl
first-last (a ∷ before) t u = go (is_of_seat a u) (first-last before t u)
  where
    go : (b : Bool) → first_before (before ++ (t ∷ [])) u ≡ or_last (first_before before u) t u
        → (elim b [ true ↦ Some a | false ↦ first_before (before ++ (t ∷ [])) u ]) ≡ or_last (elim b [ true ↦ Some a | false ↦ first_before before u ]) t u
    go true e = refl
    go false e = e

-- all that was seen, and those that were first of their seats, have the same first of each seat
abbrev SameFirsts : List Told → List Told → Type 0
SameFirsts seen before = (u : Told) → first_before seen u ≡ first_before before u

same-new : (seen before : List Told) (t : Told) → SameFirsts seen before → SameFirsts (seen ++ (t ∷ [])) (before ++ (t ∷ []))
same-new seen before t s u = first-last seen t u ∙ (ap (λ o. or_last o t u) (s u) ∙ sym (first-last before t u))

same-old : (seen before : List Told) (t f : Told) → SameFirsts seen before → first_before before t ≡ Some f → SameFirsts (seen ++ (t ∷ [])) before
same-old seen before t f s h u = first-last seen t u ∙ (ap (λ o. or_last o t u) (s u) ∙ go (first_before before u) refl (is_of_seat t u) refl)
  where
    go : (o : Option Told) → first_before before u ≡ o → (b : Bool) → is_of_seat t u ≡ b → or_last o t u ≡ o
    go (Some first) e b k = refl
    go None e true k = absurd (false≢true (ap is_some (sym e ∙ (sym (first-of before t u k) ∙ h))))
    go None e false k = ap (λ x. elim x [ true ↦ Some t | false ↦ None ]) k

-- ---- entries

module _ (es : List Entry) where
  -- each that is the first of its seat among these has its entry
  abbrev Stand : List Told → Type 0
  Stand before = (u f : Told) → first_before before u ≡ Some f → HasValue f × ((v : Value) → f.parsed.value ≡ Some v → (q : Entry → Bool)
      → q (entry_at f v) ≡ true → list_any q es ≡ true)

  stand-more : (before : List Told) (t : Told) → Stand before → HasValue t
      → ((v : Value) → t.parsed.value ≡ Some v → (q : Entry → Bool) → q (entry_at t v) ≡ true → list_any q es ≡ true) → Stand (before ++ (t ∷ []))
  stand-more before t s value entered u f h = go (first_before before u) refl (is_of_seat t u) (sym (first-last before t u) ∙ h)
    where
      Wanted : Told → Type 0
      Wanted g = HasValue g × ((v : Value) → g.parsed.value ≡ Some v → (q : Entry → Bool) → q (entry_at g v) ≡ true → list_any q es ≡ true)

      named : (g : Told) → ◌≡◌ {A = Option Told} (Some g) (Some f) → Wanted g → Wanted f
      named g e w = subst Wanted (same_Some g f e) w

      go : (o : Option Told) → first_before before u ≡ o → (b : Bool)
          → (elim o [ Some first ↦ Some first | None ↦ elim b [ true ↦ Some t | false ↦ None ] ]) ≡ Some f → Wanted f
      go (Some first) e b k = named first k (s u first e)
      go None e true k = named t k (value, entered)
      go None e false k = absurd (false≢true (ap is_some k))

  -- The entries of what is first in the rest are among them.
  abbrev Hold : List Told → Type 0
  Hold firsts = (q : Entry → Bool) → list_any q (flat_map entry_of firsts) ≡ true → list_any q es ≡ true

  says-own : (t : Told) (v : Value) → t.parsed.value ≡ Some v → says t (entry_at t v) ≡ true
  says-own t v e =
      and-true (is_seat (seat_of t) (seat_of t)) (is_value t.parsed.value v) (seat-itself (seat_of t)) (ap (λ o. is_value o v) e ∙ value-itself v)

  says-first : (t f : Told) (v w : Value) → is_of_seat f t ≡ true → f.parsed.value ≡ Some v → t.parsed.value ≡ Some w → same_value v w ≡ true
      → says t (entry_at f v) ≡ true
  says-first t f v w seat e k same =
      and-true (is_of_seat f t) (is_value t.parsed.value v) seat (ap (λ o. is_value o v) k ∙ same)

  entry-there : (t : Told) (v : Value) (firsts : List Told) → t.parsed.value ≡ Some v → (q : Entry → Bool) → q (entry_at t v) ≡ true
      → list_any q (flat_map entry_of (t ∷ firsts)) ≡ true
  entry-there t v firsts e q h =
      any-append q (entry_of t) (flat_map entry_of firsts) ∙ or-left (list_any q (entry_of t)) (list_any q (flat_map entry_of firsts))
      (ap (λ o. list_any q (elim o [ None ↦ [] | Some value ↦ record { context = context_of t.placed; term = t.parsed.term; value = value } ∷ [] ])) e
      ∙ or-left (q (entry_at t v)) false h)

  rest-there : (t : Told) (firsts : List Told) → Hold (t ∷ firsts) → Hold firsts
  rest-there t firsts k q h =
      k q (any-append q (entry_of t) (flat_map entry_of firsts) ∙ or-right (list_any q (entry_of t)) (list_any q (flat_map entry_of firsts)) h)

  value-of : (t : Told) → HasValue t → (v : Value) × (t.parsed.value ≡ Some v)
  value-of t h = go t.parsed.value refl h
    where
      go : (o : Option Value) → t.parsed.value ≡ o → is_some o ≡ true → (v : Value) × (t.parsed.value ≡ Some v)
      go None e k = absurd (false≢true k)
      go (Some v) e k = (v, e)

  agreeing-values : (first : Option Told) (t f : Told) (v w : Value) → first ≡ Some f → is_disagreeing first t ≡ false → f.parsed.value ≡ Some v
      → t.parsed.value ≡ Some w → same_value v w ≡ true
  agreeing-values first t f v w e h k l =
      not-not (same_value v w) (ap (λ o. disagree o (Some w)) (sym k) ∙ (ap (disagree f.parsed.value) (sym l) ∙ (ap (λ o. is_disagreeing o t) (sym e) ∙ h)))

  entered : (seen before ts : List Told) → SameFirsts seen before → AllAgree seen ts → Stand before → Hold (firsts_behind before ts)
      → AllByRecursion (λ (t : Told). is_entered es t ≡ true) ts
  entered seen before [] s agree stand hold = tt
  entered seen before (t ∷ ts) s agree stand hold =
      go (first_before before t) refl hold (λ more same known held. entered (seen ++ (t ∷ [])) more ts same agree.1 known held)
    where
      Further : Type 0
      Further = (more : List Told) → SameFirsts (seen ++ (t ∷ [])) more → Stand more → Hold (firsts_behind more ts)
          → AllByRecursion (λ (u : Told). is_entered es u ≡ true) ts

      go : (o : Option Told) → first_before before t ≡ o
          → Hold (elim o [ None ↦ t ∷ firsts_behind (before ++ (t ∷ [])) ts | Some first ↦ firsts_behind before ts ])
          → Further → (is_entered es t ≡ true) × AllByRecursion (λ (u : Told). is_entered es u ≡ true) ts
      go None e k further =
          let w = value-of t agree.0.value in
          let there = λ (v : Value) (i : t.parsed.value ≡ Some v) (q : Entry → Bool) (h : q (entry_at t v) ≡ true).
          k q (entry-there t v (firsts_behind (before ++ (t ∷ [])) ts) i q h) in (
            there w.0 w.1 (says t) (says-own t w.0 w.1),
            further (before ++ (t ∷ [])) (same-new seen before t s) (stand-more before t stand agree.0.value there)
                (rest-there t (firsts_behind (before ++ (t ∷ [])) ts) k),
          )
      go (Some f) e k further =
          let known = stand t f e in
          let v = value-of f known.0 in
          let w = value-of t agree.0.value in
          let same = agreeing-values (first_before seen t) t f v.0 w.0 (s t ∙ e) agree.0.agrees v.1 w.1 in (
            known.1 v.0 v.1 (says t) (says-first t f v.0 w.0 (first-seat before t f e) v.1 w.1 same),
            further before (same-old seen before t f s e) stand k,
          )

-- ---- in listing order

swap : (a b c : Bool) → (a || (b || c)) ≡ (b || (a || c))
swap true true c = refl
swap true false c = refl
swap false b c = refl

any-put : (q : Entry → Bool) (e : Entry) (es : List Entry) → list_any q (put e es) ≡ (q e || list_any q es)
any-put q e [] = refl
any-put q e (other ∷ es) = go (comes_before (seat_of_entry e) (seat_of_entry other)) (any-put q e es)
  where
    go : (b : Bool) → list_any q (put e es) ≡ (q e || list_any q es)
        → list_any q (elim b [ true ↦ e ∷ (other ∷ es) | false ↦ other ∷ put e es ]) ≡ (q e || list_any q (other ∷ es))
    go true f = refl
    go false f = ap (λ b. q other || b) f ∙ swap (q other) (q e) (list_any q es)

any-listed : (q : Entry → Bool) (es : List Entry) → list_any q (listed es) ≡ list_any q es
any-listed q [] = refl
any-listed q (e ∷ es) = any-put q e (listed es) ∙ ap (λ b. q e || b) (any-listed q es)

-- ---- the law

pub each-entered : (nodes : List Node) (rows : List Row) (lists : Lists) (read : Read) → terms_of nodes rows lists ≡ Ok read
    → AllByRecursion (λ (t : Told). is_entered read.entries t ≡ true) (told_of nodes rows)
each-entered nodes rows lists read h =
    let w = read-without nodes rows lists read h in
    let firsts = flat_map entry_of (firsts_behind [] (told_of nodes rows)) in
    entered read.entries [] [] (told_of nodes rows) (λ u. refl) w.agree (λ u f k. absurd (false≢true (ap is_some k)))
    (λ q k. ap (list_any q) w.entries_are ∙ (any-listed q firsts ∙ k))

pub all-entered : (nodes : List Node) (rows : List Row) (lists : Lists) (read : Read) → terms_of nodes rows lists ≡ Ok read
    → All (λ (t : Told). is_entered read.entries t ≡ true) (told_of nodes rows)
all-entered nodes rows lists read h =
    all-of-each (λ (t : Told). is_entered read.entries t ≡ true) (told_of nodes rows) (each-entered nodes rows lists read h)
