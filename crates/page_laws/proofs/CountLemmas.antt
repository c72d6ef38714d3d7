-- As many values are visited as there are entries.
use Rattle.std.proofs.Common.{◌≡◌, ℕ, suc, ◌+◌, Bool, true, false, cond, List, [], ◌∷◌, map, length, refl, ap, sym, ◌∙◌, subst, arith}
use Rattle.std.specs.Prelude.{filter, Contains}
use Rattle.std.proofs.lemmas.Bool.{and_from}
use Rattle.term_table.specs.declared.contexts.Seat.{Seat}
use Rattle.inv_terms.specs.declared.entries.Entry.{Entry}
use Rattle.inv_terms.specs.Listing.{IsInvoice, seat_of}
use Rattle.inv_terms.proofs.ContextLemmas.{here, there}
use Rattle.page_laws.specs.Visits.{is_seat, times, visits}
use Rattle.page_laws.proofs.EnteredLemmas.{mapped, visits-entered}
use Rattle.page_laws.proofs.EntryLemmas.{visited-once}
use Rattle.page_laws.proofs.SeatLemmas.{seat-is, is_of, once}
use Rattle.page_laws.proofs.TallyLemmas.{tally}
use Rattle.page_laws.proofs.VisitLemmas.{same-term-itself, same-context-itself, both-ways}

-- how often the seats of the entries stand in a list
all_times : List Seat → List Entry → ℕ
all_times seats [] = 0
all_times seats (e ∷ es) = times (seat_of e) seats + all_times seats es

once-each : (seats : List Seat) (es : List Entry) → ((e : Entry) → Contains es e → times (seat_of e) seats ≡ 1) → all_times seats es ≡ length es
unfolding all_times
once-each seats [] h = refl
once-each seats (e ∷ es) h =
    let first = h e (here e es) in
    let rest = once-each seats es (λ x m. h x (there e x es m)) in
    omega (arith, first, rest)

none-times : (es : List Entry) → all_times [] es ≡ 0
unfolding all_times
none-times [] = refl
none-times (e ∷ es) = let rest = none-times es in omega (arith, rest)

-- the entries whose seat it is
abbrev sits : Seat → Entry → Bool
sits v e = is_seat (seat_of e) v

more-times : (v : Seat) (seats : List Seat) (es : List Entry) → all_times (v ∷ seats) es ≡ tally (sits v) es + all_times seats es
unfolding all_times
more-times v seats [] = refl
more-times v seats (e ∷ es) = by (sits v e) (more-times v seats es)
  where
    by : (q : Bool) → all_times (v ∷ seats) es ≡ tally (sits v) es + all_times seats es
        → length (cond q (v ∷ filter (is_seat (seat_of e)) seats) (filter (is_seat (seat_of e)) seats)) + all_times (v ∷ seats) es
        ≡ length (cond q (e ∷ filter (sits v) es) (filter (sits v) es)) + (times (seat_of e) seats + all_times seats es)
    by true rest = omega (arith, rest)
    by false rest = omega (arith, rest)

-- ---- one entry has a seat

itself : (s : Seat) → is_seat s s ≡ true
itself s = and_from _ _ (same-term-itself s.term) (same-context-itself s.context)

seat-back : (s v : Seat) → is_seat s v ≡ is_seat v s
seat-back s v =
    both-ways (is_seat s v) (is_seat v s)
    (λ h. ap (is_seat v) (sym (seat-is s v h)) ∙ itself v) (λ h. ap (is_seat s) (sym (seat-is v s h)) ∙ itself s)

tally-same : (p q : Entry → Bool) → ((e : Entry) → p e ≡ q e) → (es : List Entry) → tally p es ≡ tally q es
tally-same p q same [] = refl
tally-same p q same (e ∷ es) = by (p e) (q e) (same e) (tally-same p q same es)
  where
    by : (a b : Bool) → a ≡ b → tally p es ≡ tally q es
        → length (cond a (e ∷ filter p es) (filter p es)) ≡ length (cond b (e ∷ filter q es) (filter q es))
    by true true h rest = ap suc rest
    by true false h rest = cc
    by false true h rest = cc
    by false false h rest = rest

one-sits : (es : List Entry) → IsInvoice es → (v : Seat) → Contains (map seat_of es) v → tally (sits v) es ≡ 1
one-sits es invoice v m =
    let it = mapped v es m in
    tally-same (sits v) (is_of v) (λ e. seat-back (seat_of e) v) es
    ∙ subst (λ s. tally (is_of s) es ≡ 1) it.same (once es it.entry invoice.listed it.member (itself (seat_of it.entry)))

counted : (es : List Entry) → IsInvoice es → (seats : List Seat) → ((v : Seat) → Contains seats v → Contains (map seat_of es) v)
    → length seats ≡ all_times seats es
counted es invoice [] h = sym (none-times es)
counted es invoice (v ∷ seats) h =
    let first = one-sits es invoice v (h v (here v seats)) in
    let rest = counted es invoice seats (λ w m. h w (there v w seats m)) in
    let more = more-times v seats es in
    omega (arith, first, rest, more)

pub visits-length : (es : List Entry) → IsInvoice es → length (visits es) ≡ length es
visits-length es invoice =
    counted es invoice (visits es) (visits-entered es) ∙ once-each (visits es) es (λ e m. visited-once es invoice e m)
