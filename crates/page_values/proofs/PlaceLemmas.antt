-- Occurrences are places.
use Rattle.std.proofs.Common.{◌≡◌, Bool, true, false, List, [], ◌∷◌, map, refl, ap, sym, ◌∙◌, subst, true≢false}
use Rattle.std.specs.Prelude.{Option, Some, None, filter, is_some, cond}
use Rattle.std.proofs.lemmas.List.Elements.{All-filter}
use Rattle.std.proofs.lemmas.List.Kept.{AllPairs-filter}
use Rattle.term_table.specs.declared.contexts.Slot.{Slot}
use Rattle.term_table.specs.declared.contexts.Context.{Context}
use Rattle.term_table.specs.declared.contexts.Seat.{Seat}
use Rattle.term_table.specs.Places.{seat_place}
use Rattle.term_table.specs.Runs.{IsInOrder, IsNested, MayFollow, is_in}
use Rattle.inv_terms.specs.declared.entries.Entry.{Entry}
use Rattle.inv_terms.specs.Listing.{seat_of}
use Rattle.page_values.specs.Places.{context_inside, entries_in}

filter-map : (p : Seat → Bool) (es : List Entry) → map seat_of (filter (λ e. p (seat_of e)) es) ≡ filter p (map seat_of es)
filter-map p [] = refl
filter-map p (e ∷ es) = by (p (seat_of e)) (filter-map p es)
  where
    by : (b : Bool) → map seat_of (filter (λ x. p (seat_of x)) es) ≡ filter p (map seat_of es)
        → map seat_of (cond b (e ∷ filter (λ x. p (seat_of x)) es) (filter (λ x. p (seat_of x)) es))
        ≡ cond b (seat_of e ∷ filter p (map seat_of es)) (filter p (map seat_of es))
    by true rest = ap (λ x. seat_of e ∷ x) rest
    by false rest = rest

pub inside-order : (es : List Entry) (c : Context) → IsInOrder (map seat_of es) → IsInOrder (map seat_of (entries_in c es))
inside-order es c o = subst IsInOrder (sym (filter-map (is_in c) es)) (record {
  placed = All-filter (is_in c) (λ (x : Seat). is_some (seat_place x) ≡ true) (map seat_of es) o.placed;
  order = AllPairs-filter MayFollow (is_in c) (map seat_of es) o.order;
})

pub inside-nested : (context : Context) (slot : Slot) → IsNested (context_inside context slot)
inside-nested context slot = by context.outer
  where
    by : (o : Option Slot) → IsNested (elim o [
      | None ↦ record { outer = Some slot; inner = None }
      | Some outer ↦ record { outer = Some outer; inner = Some slot }
    ])
    by None = refl
    by (Some outer) = refl

pub inside-not-root : (context inside : Context) (slot : Slot) → inside ≡ context_inside context slot → inside.outer ≡ None → ⊥
inside-not-root context inside slot e none = by context.outer e
  where
    by : (o : Option Slot) → ◌≡◌ {A = Context} inside (elim o [
      | None ↦ record { outer = Some slot; inner = None }
      | Some outer ↦ record { outer = Some outer; inner = Some slot }
    ]) → ⊥
    by None same = true≢false (ap (λ (c : Context). is_some c.outer) (sym same) ∙ ap is_some none)
    by (Some outer) same = true≢false (ap (λ (c : Context). is_some c.outer) (sym same) ∙ ap is_some none)
