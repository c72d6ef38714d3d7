-- Entries in listing order, by the lemmas on their seats.
use Rattle.std.proofs.Common.{◌≡◌, true, Some}
use Rattle.term_table.specs.declared.contexts.Slot.{Slot}
use Rattle.term_table.proofs.SeatLemmas as seats
use Rattle.inv_terms.specs.declared.entries.Entry.{Entry}
use Rattle.inv_terms.specs.Listing.{seat_of, comes_before}

abbrev pub At : Entry → Type 0
At e = seats.At (seat_of e)

-- three entries, each before the next
abbrev pub Orders : Entry → Entry → Entry → Type 0
Orders f l e = seats.Orders (seat_of f) (seat_of l) (seat_of e)

pub orders-from : (f l e : Entry) → comes_before f l ≡ true → comes_before l e ≡ true → Orders f l e
orders-from f l e h k = seats.orders-from (seat_of f) (seat_of l) (seat_of e) h k

pub outer-between : (f l e : Entry) (o : Orders f l e) (t s : Slot) → f.context.outer ≡ Some t → e.context.outer ≡ Some s → t.group ≡ s.group
    → seats.OuterBetween (seat_of f) (seat_of l) (seat_of e) o.first o.middle o.last t s
outer-between f l e o t s ft es same = seats.outer-between (seat_of f) (seat_of l) (seat_of e) o t s ft es same

pub inner-between : (f l e : Entry) (o : Orders f l e) (outer t s : Slot) → f.context.outer ≡ Some outer → e.context.outer ≡ Some outer
    → f.context.inner ≡ Some t → e.context.inner ≡ Some s → t.group ≡ s.group → seats.InnerBetween (seat_of f) (seat_of l) (seat_of e) t s
inner-between f l e o outer t s fo eo ft es same = seats.inner-between (seat_of f) (seat_of l) (seat_of e) o outer t s fo eo ft es same

pub outer_slot : (e : Entry) → At e → (s : Slot) → e.context.inner ≡ Some s → (u : Slot) × (e.context.outer ≡ Some u)
outer_slot e a s h = seats.outer_slot (seat_of e) a s h

pub comes_before-trans : (a b c : Entry) → comes_before a b ≡ true → comes_before b c ≡ true → comes_before a c ≡ true
comes_before-trans a b c h k = seats.comes_before-trans (seat_of a) (seat_of b) (seat_of c) h k
