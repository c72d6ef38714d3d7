-- The generated entries are an invoice: each stands behind the one before it, and the lines are numbered from 1.
use Rattle.std.proofs.Common.{◌≡◌, ℕ, ◌+◌, ◌-◌, ◌≤◌, Bool, true, false, ◌&&◌, ◌||◌, List, [], ◌∷◌, ◌++◌, length, Option, Some, None, refl, ap, ◌∙◌, arith, ◌⊎◌}
use Rattle.std.proofs.Common.{inl, inr, length-append}
use Rattle.std.specs.Prelude.{◌↔◌, ◌==◌, nat_le, slice_get, is_some, fold, max, map, if◌then◌else◌}
use Rattle.std.proofs.lemmas.Bool.Decides.{nat_tests}
use Rattle.std.proofs.lemmas.List.{map-append}
use Rattle.std.proofs.lemmas.List.Sums.{fold-append}
use Rattle.term_table.specs.declared.groups.Group.TheVariants as groups
use Rattle.term_table.specs.declared.contexts.Seat.{Seat}
use Rattle.term_table.specs.Places.{first_row, seat_place, precedes}
use Rattle.term_table.specs.Places as places
use Rattle.inv_terms.specs.declared.values.Value.{Value}
use Rattle.inv_terms.specs.declared.entries.Entry.{Entry}
use Rattle.inv_terms.specs.Listing.{Fits, IsInvoice, refusal, seat_of, is_placed, is_behind, is_behind_last, is_next, last_entry, last_outer, index_in}
use Rattle.trial_invoice.specs.Generated.{entry, occurrence}
use Rattle.trial_invoice.proofs.PlaceLemmas.{bt, in_line}

-- An entry may be added exactly where the longer list is an invoice.
abbrev pub Pushes : Type 0
Pushes = (es : List Entry) (e : Entry) → IsInvoice es → Fits e.term e.value → ((refusal es e ≡ None) ↔ IsInvoice (es ++ e ∷ []))

-- An invoice of so many lines, of which the last entry stands at the place.
pub record EndsAt (es : List Entry) (place : List ℕ) (lines : ℕ) : Type 0 where
  pub invoice : IsInvoice es
  pub last : Entry
  pub last_is : last_entry es ≡ Some last
  pub placed : seat_place (seat_of last) ≡ Some place
  pub numbered : last_outer es groups.InvoiceLine ≡ lines

-- ---- the last entry

got_behind : (es : List Entry) (e : Entry) → slice_get (es ++ e ∷ []) (length es) ≡ Some e
got_behind [] e = refl
got_behind (x ∷ es) e = got_behind es e

last_behind : (es : List Entry) (e : Entry) → last_entry (es ++ e ∷ []) ≡ Some e
last_behind es e =
    let place : length (es ++ e ∷ []) - 1 ≡ length es = omega (arith, length-append es (e ∷ [])) in
    ap (slice_get (es ++ e ∷ [])) place ∙ got_behind es e

-- ---- the number of the last line

outer_behind : (es : List Entry) (e : Entry) → last_outer (es ++ e ∷ []) groups.InvoiceLine ≡ max (last_outer es groups.InvoiceLine)
    (index_in groups.InvoiceLine e.context.outer)
outer_behind es e =
    let f : Entry → ℕ = λ (x : Entry). index_in groups.InvoiceLine x.context.outer in
    ap (fold max 0) (map-append f es (e ∷ [])) ∙ fold-append max 0 (map f es) (f e ∷ [])

-- ---- one entry more

before : (a b : Seat) (p q : List ℕ) → seat_place a ≡ Some p → seat_place b ≡ Some q → precedes p q ≡ true → places.comes_before a b ≡ true
before a b p q h k o =
    ap (λ (x : Option (List ℕ)). elim x [ None ↦ false | Some r ↦ elim (seat_place b) [ None ↦ false | Some s ↦ precedes r s ] ]) h
    ∙ (ap (λ (x : Option (List ℕ)). elim x [ None ↦ false | Some s ↦ precedes p s ]) k ∙ o)

next-test : (i k : ℕ) → 1 ≤ i → (k ≡ i) ⊎ (k + 1 ≡ i) → (nat_le 1 i && ((i == k) || (i == k + 1))) ≡ true
next-test i k h (inl same) = grind (arith, nat_tests)
next-test i k h (inr more) = grind (arith, nat_tests)

greater : (k i : ℕ) → (k ≡ i) ⊎ (k + 1 ≡ i) → max k i ≡ i
greater k i (inl same) = omega arith
greater k i (inr more) = omega arith

and-true : (a : Bool) → a ≡ true → (a && true) ≡ true
and-true a h = ap (λ b. b && true) h

chosen : {R : Type 0} (a b : R) (placed behind next : Bool) → placed ≡ true → behind ≡ true → next ≡ true
    → (if placed then (if behind then (if next then None else Some a) else Some b) else Some a) ≡ None
chosen a b placed behind next h k l = rw (h, k, l) refl

-- one entry of a line more
pub one-more : Pushes → (es : List Entry) (place : List ℕ) (k i number : ℕ) (value : Value) (row : List ℕ)
    → EndsAt es place k → Fits (bt number) value → seat_place (in_line i number) ≡ Some row → precedes place row ≡ true → (k ≡ i) ⊎ (k + 1 ≡ i) → 1 ≤ i
    → EndsAt (es ++ entry (occurrence groups.InvoiceLine i) number value ∷ []) row i
one-more law es place k i number value row ends fits placed order numbered from =
    let e : Entry = entry (occurrence groups.InvoiceLine i) number value in
    let stands : is_placed e ≡ true = ap is_some placed in
    let behind : is_behind es e ≡ true = ap (λ last. is_behind_last last e) ends.last_is ∙
    before (seat_of ends.last) (in_line i number) place row ends.placed placed order in
    let is_the_next : is_next es e.context ≡ true =
    and-true _ (ap (λ n. nat_le 1 i && ((i == n) || (i == n + 1))) ends.numbered ∙ next-test i k from numbered) in
    record {
      invoice = (law es e ends.invoice fits).0 (chosen _ _ _ _ _ stands behind is_the_next);
      last = e;
      last_is = last_behind es e;
      placed = placed;
      numbered = outer_behind es e ∙ (ap (λ n. max n i) ends.numbered ∙ greater k i numbered);
    }
