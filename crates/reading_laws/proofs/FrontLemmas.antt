-- Each front of an invoice is an invoice, so its entries are taken one by one and none is refused.
use Rattle.std.proofs.Common.{◌≡◌, ℕ, ◌-◌, ◌≤◌, Bool, true, false, ◌&&◌, ◌||◌, List, [], ◌∷◌, ◌++◌, inl, inr, Option, Some, None, refl, ap, sym, ◌∙◌, subst}
use Rattle.std.proofs.Common.{append_assoc, arith}
use Rattle.std.specs.Prelude.{◌==◌, ◌↔◌, nat_le, is_none}
use Rattle.std.specs.List.{list_all, AllByRecursion}
use Rattle.std.proofs.lemmas.Bool.{false≢true}
use Rattle.std.proofs.lemmas.Bool.Decides.{nat_tests}
use Rattle.term_table.specs.declared.contexts.Slot.{Slot}
use Rattle.term_table.specs.declared.contexts.Context.{Context}
use Rattle.term_table.specs.Contexts.{same_slot, is_inside}
use Rattle.term_table.proofs.SeatLemmas.{before-from, outer_slot, outer-rises, inner-rises}
use Rattle.inv_terms.specs.declared.entries.Entry.{Entry}
use Rattle.inv_terms.specs.Listing.{Fits, is_placed, comes_before, is_listed, occurs, is_counted, in_outer, in_inner, is_numbered, seat_of, refusal, IsInvoice}
use Rattle.inv_terms.proofs.PushLemmas.{same_slot_is}
use Rattle.reading_laws.proofs.ListLemmas.{both, and-true, bool-cases, any-append, any-here, each-both, each-weaker, each-of-all, all-of-each, tests-each}
use Rattle.reading_laws.proofs.ListLemmas.{tests-hold}

each-front : {X : Type 0} (P : X → Type 0) (xs ys : List X) → AllByRecursion P (xs ++ ys) → AllByRecursion P xs
each-front P [] ys h = tt
each-front P (x ∷ xs) ys h = (h.0, each-front P xs ys h.1)

each-back : {X : Type 0} (P : X → Type 0) (xs ys : List X) → AllByRecursion P (xs ++ ys) → AllByRecursion P ys
each-back P [] ys h = h
each-back P (x ∷ xs) ys h = each-back P xs ys h.1

-- ---- order

abbrev Ahead : Entry → Entry → Type 0
Ahead a b = comes_before a b ≡ true

front-listed : (es more : List Entry) → is_listed (es ++ more) ≡ true → is_listed es ≡ true
front-listed [] more h = refl
front-listed (e ∷ es) more h =
    let w = both (list_all (comes_before e) (es ++ more)) (is_listed (es ++ more)) h in
    and-true (list_all (comes_before e) es) (is_listed es)
    (tests-hold (comes_before e) es (each-front (Ahead e) es more (tests-each (comes_before e) (es ++ more) w.0))) (front-listed es more w.1)

all-ahead : (es more : List Entry) → is_listed (es ++ more) ≡ true → AllByRecursion (λ e. AllByRecursion (Ahead e) more) es
all-ahead [] more h = tt
all-ahead (e ∷ es) more h =
    let w = both (list_all (comes_before e) (es ++ more)) (is_listed (es ++ more)) h in
    (each-back (Ahead e) es more (tests-each (comes_before e) (es ++ more) w.0), all-ahead es more w.1)

-- ---- the occurrence before one isn't behind it

abbrev earlier : Slot → Slot
earlier slot = record slot { index = slot.index - 1 }

too-small : (i j : ℕ) → 1 ≤ i → j ≡ i - 1 → i ≤ j → ⊥
too-small i j h e l = omega (arith, h, e, l)

outer-behind : (e y : Entry) (slot : Slot) → Ahead e y → e.context.outer ≡ Some slot → 1 ≤ slot.index → is_inside (in_outer (earlier slot)) y.context ≡ true → ⊥
outer-behind e y slot ahead at one inside =
    let same = (both (same_slot (Some (earlier slot)) y.context.outer) true inside).0 in
    let there : y.context.outer ≡ Some (earlier slot) = sym (same_slot_is (Some (earlier slot)) y.context.outer same) in
    let w = outer-rises (seat_of e) (seat_of y) (before-from (seat_of e) (seat_of y) ahead) slot (earlier slot) at there refl in
    too-small slot.index (slot.index - 1) one refl w.0

inner-behind : (e y : Entry) (slot : Slot) → Ahead e y → e.context.inner ≡ Some slot → 1 ≤ slot.index
    → is_inside (in_inner e.context.outer (earlier slot)) y.context ≡ true → ⊥
inner-behind e y slot ahead at one inside =
    let b = before-from (seat_of e) (seat_of y) ahead in
    let u = outer_slot (seat_of e) b.first slot at in
    let v = both (is_none e.context.outer || same_slot e.context.outer y.context.outer) (same_slot (Some (earlier slot)) y.context.inner) inside in
    let within : same_slot (Some u.0) y.context.outer ≡ true = sym (ap (λ o. is_none o || same_slot o y.context.outer) u.1) ∙ v.0 in
    let out : y.context.outer ≡ Some u.0 = sym (same_slot_is (Some u.0) y.context.outer within) in
    let there : y.context.inner ≡ Some (earlier slot) = sym (same_slot_is (Some (earlier slot)) y.context.inner v.1) in
    too-small slot.index (slot.index - 1) one refl (inner-rises (seat_of e) (seat_of y) b u.0 slot (earlier slot) u.1 out at there refl)

none-occurs : (more : List Entry) (c : Context) (P : Entry → Type 0) → AllByRecursion P more → ((y : Entry) → P y → is_inside c y.context ≡ true → ⊥)
    → occurs more c ≡ false
none-occurs more c P all h = elim (bool-cases (occurs more c)) [
  | inl k ↦ (let w = any-here P (λ (y : Entry). is_inside c y.context) more all k in absurd (h w.0 w.1 w.2))
  | inr k ↦ k
]

-- ---- numbers

or-end : (a b : Bool) → b ≡ false → (a || b) ≡ true → a ≡ true
or-end true b e h = refl
or-end false b e h = absurd (false≢true (sym e ∙ h))

at-least : (i : ℕ) → nat_le 1 i ≡ true → 1 ≤ i
at-least i h = grind (arith, nat_tests)

front-counted : (es more : List Entry) (around : Slot → Context) (o : Option Slot)
    → ((slot : Slot) → o ≡ Some slot → 1 ≤ slot.index → occurs more (around (earlier slot)) ≡ false)
    → is_counted (es ++ more) around o ≡ true → is_counted es around o ≡ true
front-counted es more around None none h = refl
front-counted es more around (Some slot) none h =
    let w = both (nat_le 1 slot.index) ((slot.index == 1) || occurs (es ++ more) (around (earlier slot))) h in
    and-true (nat_le 1 slot.index) ((slot.index == 1) || occurs es (around (earlier slot))) w.0 (go (slot.index == 1) (at-least slot.index w.0) w.1)
  where
    go : (b : Bool) → 1 ≤ slot.index → (b || occurs (es ++ more) (around (earlier slot))) ≡ true → (b || occurs es (around (earlier slot))) ≡ true
    go true l k = refl
    go false l k =
        or-end (occurs es (around (earlier slot))) (occurs more (around (earlier slot))) (none slot refl l)
        (sym (any-append (λ (y : Entry). is_inside (around (earlier slot)) y.context) es more) ∙ k)

abbrev is_counted_in : List Entry → Entry → Bool
is_counted_in es e = is_counted es in_outer e.context.outer && is_counted es (in_inner e.context.outer) e.context.inner

entry-counted : (es more : List Entry) (e : Entry) → AllByRecursion (Ahead e) more → is_counted_in (es ++ more) e ≡ true → is_counted_in es e ≡ true
entry-counted es more e ahead h =
    let w = both (is_counted (es ++ more) in_outer e.context.outer) (is_counted (es ++ more) (in_inner e.context.outer) e.context.inner) h in
    and-true (is_counted es in_outer e.context.outer) (is_counted es (in_inner e.context.outer) e.context.inner)
    (front-counted es more in_outer e.context.outer
    (λ slot at one. none-occurs more (in_outer (earlier slot)) (Ahead e) ahead (λ y k i. outer-behind e y slot k at one i)) w.0)
    (front-counted es more (in_inner e.context.outer) e.context.inner
    (λ slot at one. none-occurs more (in_inner e.context.outer (earlier slot)) (Ahead e) ahead (λ y k i. inner-behind e y slot k at one i)) w.1)

front-numbered : (es more : List Entry) → is_listed (es ++ more) ≡ true → is_numbered (es ++ more) ≡ true → is_numbered es ≡ true
front-numbered es more listed h =
    tests-hold (is_counted_in es) es
    (each-weaker (λ e. AllByRecursion (Ahead e) more × (is_counted_in (es ++ more) e ≡ true)) (λ e. is_counted_in es e ≡ true)
    (λ e w. entry-counted es more e w.0 w.1) es
    (each-both (λ e. AllByRecursion (Ahead e) more) (λ e. is_counted_in (es ++ more) e ≡ true) es (all-ahead es more listed)
    (each-front (λ e. is_counted_in (es ++ more) e ≡ true) es more (tests-each (is_counted_in (es ++ more)) (es ++ more) h))))

-- ---- invoices

abbrev FitsEntry : Entry → Type 0
FitsEntry e = Fits e.term e.value

pub front-invoice : (es more : List Entry) → IsInvoice (es ++ more) → IsInvoice es
front-invoice es more h = record {
  placed = tests-hold is_placed es (each-front (λ e. is_placed e ≡ true) es more (tests-each is_placed (es ++ more) h.placed));
  fit = all-of-each FitsEntry es (each-front FitsEntry es more (each-of-all FitsEntry (es ++ more) h.fit));
  listed = front-listed es more h.listed;
  numbered = front-numbered es more h.listed h.numbered;
}

pub none-refused : ((es : List Entry) (e : Entry) → IsInvoice es → Fits e.term e.value → ((refusal es e ≡ None) ↔ IsInvoice (es ++ e ∷ [])))
    → (es more : List Entry) (e : Entry) → IsInvoice (es ++ e ∷ more) → refusal es e ≡ None
none-refused push es more e h =
    let fits = (each-back FitsEntry es (e ∷ more) (each-of-all FitsEntry (es ++ e ∷ more) h.fit)).0 in
    (push es e (front-invoice es (e ∷ more) h) fits).1 (front-invoice (es ++ e ∷ []) more (subst IsInvoice (sym (append_assoc es (e ∷ []) more)) h))
