-- What is read lacks nothing: each context of it is one that was judged, over the same seats.
use Rattle.std.proofs.Common.{◌≡◌, suc, Bool, true, false, not, ◌&&◌, ◌||◌, List, [], ◌∷◌, ◌++◌, map, filter, flat_map, length, Option, Some, None, is_some}
use Rattle.std.proofs.Common.{inl, inr, Ok, refl, ap, sym, ◌∙◌, subst, arith}
use Rattle.std.specs.Prelude.{◌↔◌, fold, option_map, if◌then◌else◌, Contains}
use Rattle.std.specs.List.{list_any, AllByRecursion}
use Rattle.std.proofs.lemmas.Bool.{false≢true}
use Rattle.inv_base.specs.Tree.{Node}
use Rattle.code_lists.specs.CodeFiles.{Lists}
use Rattle.term_table.specs.declared.contexts.Context.{Context}
use Rattle.term_table.specs.declared.contexts.Seat.{Seat}
use Rattle.term_table.specs.Contexts.{same_context, is_inside, root_context, outer_context}
use Rattle.term_table.specs.Places.{place_of}
use Rattle.inv_terms.specs.declared.entries.Entry.{Entry}
use Rattle.inv_terms.specs.Listing as listing
use Rattle.inv_terms.proofs.PushLemmas.{same_slot_itself}
use Rattle.inv_terms.specs.declared.violations.ModelViolation.{ModelViolation}
use Rattle.inv_terms.specs.declared.violations.TermFault.TheVariants as faults
use Rattle.inv_terms.specs.Lacking.{first_missing}
use Rattle.inv_terms.specs.Validity.{missing_in, contexts, unlisted, earlier, first_violation}
use Rattle.inv_terms.specs.Whole.{IsContextOf, IsShownBy, IsValid}
use Rattle.inv_terms.proofs.ContextLemmas.{here, there, context_is, context_shown, member_cases, no_member}
use Rattle.bind_rows.specs.declared.rows.Row.{Row}
use Rattle.bind_meaning.specs.declared.fault.BindKind.TheVariants as kinds
use Rattle.bind_meaning.specs.declared.picked.Seated.{Seated}
use Rattle.bind_meaning.specs.Seats.{Placed, Room, slot_of, context_of, outer_room, inner_room, each_once, rooms}
use Rattle.bind_meaning.specs.Judging.{Found, found, Told, told_by, parsed_by, missing_place, name_of, seat_of}
use Rattle.bind_meaning.specs.Judging as judging
use Rattle.bind_meaning.specs.Terms.{Read, told, entries, terms_of}
use Rattle.reading_laws.proofs.MissingLemmas.{AreAlike, first-same}
use Rattle.reading_laws.proofs.ListLemmas.{none-of-both, or-left, or-right, any-append, any-map, any-here, any-of-flat, each-append, each-map, each-weaker}
use Rattle.reading_laws.proofs.SayingLemmas.{of-placed}
use Rattle.reading_laws.proofs.EntryLemmas.{HasValue, OfEntry, of-entries, seats-same}
use Rattle.reading_laws.proofs.FaultLemmas.{IsFine, IsReadOf, places_in, read-of}
use Rattle.reading_laws.proofs.FitLemmas.{IsAllowed, each-allowed}

-- ---- a context among those that were judged

abbrev Judged : List Room → Context → Type 0
Judged rs c = list_any (λ (room : Room). same_context room.context c) rs ≡ true

slot-itself : (c : Context) → same_context c c ≡ true
slot-itself c = go c.outer c.inner
  where
    go : (o i : _) → same_context (record { outer = o; inner = i }) (record { outer = o; inner = i }) ≡ true
    go o i = rw (same_slot_itself o, same_slot_itself i) refl

-- each room once has the same contexts
kept-apart : (room : Room) (c : Context) (rs : List Room) → Judged rs c
    → (same_context room.context c || list_any (λ (r : Room). same_context r.context c)
    (filter (λ (other : Room). not (same_context room.context other.context)) rs)) ≡ true
kept-apart room c [] h = absurd (false≢true h)
kept-apart room c (r ∷ rs) h = go (same_context r.context c) (same_context room.context r.context) refl refl h (kept-apart room c rs)
  where
    rest : List Room
    rest = filter (λ (other : Room). not (same_context room.context other.context)) rs

    go : (a b : Bool) → same_context r.context c ≡ a → same_context room.context r.context ≡ b
        → (a || list_any (λ (x : Room). same_context x.context c) rs) ≡ true
        → (Judged rs c → (same_context room.context c || list_any (λ (x : Room). same_context x.context c) rest) ≡ true)
        → (same_context room.context c || list_any (λ (x : Room). same_context x.context c) (if not b then r ∷ rest else rest)) ≡ true
    go true true e k l f = or-left (same_context room.context c) (list_any (λ (x : Room). same_context x.context c) rest)
        (ap (λ d. same_context d c) (context_is room.context r.context k) ∙ e)
    go true false e k l f = or-right (same_context room.context c) (list_any (λ (x : Room). same_context x.context c) (r ∷ rest))
        (or-left (same_context r.context c) (list_any (λ (x : Room). same_context x.context c) rest) e)
    go false true e k l f = f l
    go false false e k l f = ap (λ b. same_context room.context c || (b || list_any (λ (x : Room). same_context x.context c) rest)) e ∙ f l

once-judged : (c : Context) (rs : List Room) → Judged rs c → Judged (each_once rs) c
once-judged c [] h = h
once-judged c (room ∷ rs) h = go (same_context room.context c) refl h (once-judged c rs)
  where
    go : (b : Bool) → same_context room.context c ≡ b → (b || list_any (λ (r : Room). same_context r.context c) rs) ≡ true
        → (Judged rs c → Judged (each_once rs) c) → Judged (each_once (room ∷ rs)) c
    go true e l f = or-left (same_context room.context c) _ e
    go false e l f = kept-apart room c (each_once rs) (f l)

abbrev rooms_of : Placed → List Room
rooms_of p = outer_room p ++ inner_room p

-- the contexts that a pick stands in are judged
abbrev HasRooms : List Placed → Placed → Type 0
HasRooms ps p =
    (is_some (context_of p).outer ≡ true → Judged (rooms ps) (outer_context (context_of p)))
    × (is_some (context_of p).inner ≡ true → Judged (rooms ps) (context_of p))

in-rooms : (ps : List Placed) (c : Context) → list_any (λ (room : Room). same_context room.context c) (flat_map rooms_of ps) ≡ true → Judged (rooms ps) c
in-rooms ps c h = or-right (same_context root_context c) (list_any (λ (room : Room). same_context room.context c) (each_once (flat_map rooms_of ps)))
    (once-judged c (flat_map rooms_of ps) h)

in-outer : (p : Placed) → is_some (context_of p).outer ≡ true
    → list_any (λ (room : Room). same_context room.context (outer_context (context_of p))) (rooms_of p) ≡ true
in-outer p h =
    any-append (λ (room : Room). same_context room.context (outer_context (context_of p))) (outer_room p) (inner_room p)
    ∙ or-left (list_any (λ (room : Room). same_context room.context (outer_context (context_of p))) (outer_room p)) _ (go p.outer h)
  where
    go : (o : Option Seated) → is_some (slot_of o) ≡ true
        → list_any (λ (room : Room). same_context room.context (outer_context (context_of p)))
        (elim o [ None ↦ [] | Some seat ↦ record { context = outer_context (context_of p); element = seat.element } ∷ [] ]) ≡ true
    go None k = absurd (false≢true k)
    go (Some seat) k = or-left (same_context (outer_context (context_of p)) (outer_context (context_of p))) false (slot-itself (outer_context (context_of p)))

in-inner : (p : Placed) → is_some (context_of p).inner ≡ true → list_any (λ (room : Room). same_context room.context (context_of p)) (rooms_of p) ≡ true
in-inner p h =
    any-append (λ (room : Room). same_context room.context (context_of p)) (outer_room p) (inner_room p)
    ∙ or-right (list_any (λ (room : Room). same_context room.context (context_of p)) (outer_room p))
    (list_any (λ (room : Room). same_context room.context (context_of p)) (inner_room p)) (go p.inner h)
  where
    go : (o : Option Seated) → is_some (slot_of o) ≡ true
        → list_any (λ (room : Room). same_context room.context (context_of p))
        (elim o [ None ↦ [] | Some seat ↦ record { context = context_of p; element = seat.element } ∷ [] ]) ≡ true
    go None k = absurd (false≢true k)
    go (Some seat) k = or-left (same_context (context_of p) (context_of p)) false (slot-itself (context_of p))

all-have-rooms : (ps : List Placed) → AllByRecursion (HasRooms ps) ps
all-have-rooms ps =
    each-weaker (λ p. (q : Room → Bool) → list_any q (rooms_of p) ≡ true → list_any q (flat_map rooms_of ps) ≡ true) (HasRooms ps)
    (λ p h. (
      λ k. in-rooms ps (outer_context (context_of p)) (h (λ (room : Room). same_context room.context (outer_context (context_of p))) (in-outer p k)),
      λ k. in-rooms ps (context_of p) (h (λ (room : Room). same_context room.context (context_of p)) (in-inner p k)),
    )) ps (any-of-flat rooms_of ps)

-- ---- each context of the entries is

abbrev ShowsJudged : List Placed → Entry → Type 0
ShowsJudged ps e = (c : Context) → IsShownBy e c → Judged (rooms ps) c

told-judged : (ps : List Placed) (t : Told) → HasRooms ps t.placed → OfEntry (ShowsJudged ps) t
told-judged ps t h value e c (inl w) = subst (Judged (rooms ps)) (sym w.0) (h.0 w.1)
told-judged ps t h value e c (inr w) = subst (Judged (rooms ps)) (sym w.0) (h.1 w.1)

entries-judged : (nodes : List Node) (ps : List Placed) → AllByRecursion (ShowsJudged ps) (entries (told nodes ps))
entries-judged nodes ps =
    of-entries (ShowsJudged ps) (told nodes ps)
    (each-weaker (λ t. HasRooms ps t.placed) (OfEntry (ShowsJudged ps)) (told-judged ps) (told nodes ps)
    (of-placed (HasRooms ps) nodes ps (all-have-rooms ps)))

each-at : {X : Type 0} (P : X → Type 0) (xs : List X) (x : X) → AllByRecursion P xs → Contains xs x → P x
each-at P [] x all m = absurd (no_member x m)
each-at P (y ∷ xs) x all m = elim (member_cases y x xs m) [ inl e ↦ subst P e all.0 | inr k ↦ each-at P xs x all.1 k ]

each-member : {X : Type 0} (P : X → Type 0) (xs : List X) → ((x : X) → Contains xs x → P x) → AllByRecursion P xs
each-member P [] h = tt
each-member P (x ∷ xs) h = (h x (here x xs), each-member P xs (λ y m. h y (there x y xs m)))

context-judged : (nodes : List Node) (ps : List Placed) (c : Context) → IsContextOf (entries (told nodes ps)) c → Judged (rooms ps) c
context-judged nodes ps c (inl e) = or-left (same_context root_context c) _ (subst (λ d. same_context root_context d ≡ true) (sym e) (slot-itself root_context))
context-judged nodes ps c (inr w) = each-at (ShowsJudged ps) (entries (told nodes ps)) w.0 (entries-judged nodes ps) w.1 c w.2

-- ---- nothing is missing where it was judged

abbrev violation_in : List Seat → Context → Option ModelViolation
violation_in seats c = first_missing (filter (λ (seat : Seat). is_inside c seat.context) seats) c

rooms-whole : (nodes : List Node) (seats : List Seat) (rs : List Room) → flat_map (judging.missing_in nodes seats) rs ≡ []
    → AllByRecursion (λ (room : Room). violation_in seats room.context ≡ None) rs
rooms-whole nodes seats [] h = tt
rooms-whole nodes seats (room ∷ rs) h =
    let w = none-of-both (judging.missing_in nodes seats room) (flat_map (judging.missing_in nodes seats) rs) h in
    (go (violation_in seats room.context) w.0, rooms-whole nodes seats rs w.1)
  where
    go : (o : Option ModelViolation)
        → ◌≡◌ {A = List Found} (elim o [
          | None ↦ []
          | Some violation ↦ found (missing_place nodes room violation.place) kinds.Missing (name_of violation.fault) room.element ∷ []
        ]) []
        → o ≡ None
    go None k = refl
    go (Some violation) k = absurd (let z : suc 0 ≡ 0 = ap length k in omega arith)

judged-whole : (seats : List Seat) (rs : List Room) (c : Context) → AllByRecursion (λ (room : Room). violation_in seats room.context ≡ None) rs → Judged rs c
    → violation_in seats c ≡ None
judged-whole seats rs c all h =
    let w = any-here (λ (room : Room). violation_in seats room.context ≡ None) (λ (room : Room). same_context room.context c) rs all h in
    subst (λ d. violation_in seats d ≡ None) (context_is w.0.context c w.2) w.1

any-filter : {X : Type 0} (p q : X → Bool) (xs : List X) → list_any p (filter q xs) ≡ list_any (λ x. q x && p x) xs
any-filter p q [] = refl
any-filter p q (x ∷ xs) = go (q x) (any-filter p q xs)
  where
    go : (b : Bool) → list_any p (filter q xs) ≡ list_any (λ x. q x && p x) xs
        → list_any p (if b then x ∷ filter q xs else filter q xs) ≡ ((b && p x) || list_any (λ x. q x && p x) xs)
    go true h = ap (λ c. p x || c) h
    go false h = h

seats-alike : (ts : List Told) → AllByRecursion HasValue ts → (c : Context)
    → AreAlike (map listing.seat_of (filter (λ (e : Entry). is_inside c e.context) (entries ts)))
    (filter (λ (seat : Seat). is_inside c seat.context) (map seat_of ts))
seats-alike ts v c p =
    any-map listing.seat_of p (filter (λ (e : Entry). is_inside c e.context) (entries ts))
    ∙ (any-filter (λ (e : Entry). p (listing.seat_of e)) (λ (e : Entry). is_inside c e.context) (entries ts)
    ∙ (seats-same (λ (seat : Seat). is_inside c seat.context && p seat) ts v
    ∙ (sym (any-map seat_of (λ (seat : Seat). is_inside c seat.context && p seat) ts)
    ∙ sym (any-filter p (λ (seat : Seat). is_inside c seat.context) (map seat_of ts)))))

-- ---- so it lacks nothing

no-violation : (xs : List (Option ModelViolation)) → AllByRecursion (λ o. o ≡ None) xs → fold earlier None xs ≡ None
no-violation [] h = refl
no-violation (o ∷ xs) h = ap (λ p. fold earlier (earlier None p) xs) h.0 ∙ no-violation xs h.1

context-whole : (nodes : List Node) (rows : List Row) (lists : Lists) (es : List Entry) → IsReadOf nodes rows lists es → (c : Context) → IsContextOf es c
    → missing_in es c ≡ None
context-whole nodes rows lists es r c h =
    let ps = places_in nodes rows in
    let ts = told nodes ps in
    let judged = context-judged nodes ps c (subst (λ l. IsContextOf l c) r.entries_are h) in
    let none = judged-whole (map seat_of ts) (rooms ps) c (rooms-whole nodes (map seat_of ts) (rooms ps) r.whole) judged in
    ap (λ l. missing_in l c) r.entries_are
    ∙ (first-same _ _ (seats-alike ts (each-weaker (IsFine lists) HasValue (λ t f. f.value) ts r.fine) c) c ∙ none)

code-whole : (lists : Lists) (e : Entry) → IsAllowed lists e → unlisted lists e ≡ None
code-whole lists e h = ap (λ b. if b then option_map (λ place. record { place = place; fault = faults.CodeNotListed e.term })
    (place_of e.term e.context) else None) h

violations-nothing : (nodes : List Node) (rows : List Row) (lists : Lists) (es : List Entry) → IsReadOf nodes rows lists es → first_violation es lists ≡ None
violations-nothing nodes rows lists es r =
    no-violation (map (missing_in es) (contexts es) ++ map (unlisted lists) es)
    (each-append (λ o. o ≡ None) (map (missing_in es) (contexts es)) (map (unlisted lists) es)
    (each-map (λ o. o ≡ None) (missing_in es) (contexts es)
    (each-member (λ c. missing_in es c ≡ None) (contexts es) (λ c m. context-whole nodes rows lists es r c (context_shown es c m))))
    (each-map (λ o. o ≡ None) (unlisted lists) es
    (each-weaker (IsAllowed lists) (λ e. unlisted lists e ≡ None) (code-whole lists) es (each-allowed nodes rows lists es r))))

pub read-valid : ((es : List Entry) (lists : Lists) → ((first_violation es lists ≡ None) ↔ IsValid es lists))
    → (nodes : List Node) (rows : List Row) (lists : Lists) (read : Read) → terms_of nodes rows lists ≡ Ok read → IsValid read.entries lists
read-valid valid nodes rows lists read h = (valid read.entries lists).0 (violations-nothing nodes rows lists read.entries (read-of nodes rows lists read h))
