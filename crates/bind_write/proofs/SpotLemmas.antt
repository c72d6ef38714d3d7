-- Where a line is written, spot by spot.
use Rattle.std.proofs.Common.{◌≡◌, ℕ, suc, zero, ◌+◌, ◌<◌, ◌≤◌, ◌==◌, false, List, [], ◌∷◌, Option, Some, None, length, drop, map, max, refl, ap, sym, ◌∙◌}
use Rattle.std.proofs.Common.{subst, arith, cond, fold}
use Rattle.std.specs.List.{range_with_len}
use Rattle.std.proofs.lemmas.Grind.{common_steps}
use Rattle.std.proofs.lemmas.Bool.Decides.{nat_tests}
use Rattle.std.proofs.lemmas.List.FromFn.{length-range_with_len}
use Rattle.term_table.specs.declared.groups.Group.{Group}
use Rattle.term_table.specs.declared.contexts.Slot.{Slot}
use Rattle.term_table.specs.declared.contexts.Context.{Context}
use Rattle.inv_terms.specs.declared.entries.Entry.{Entry}
use Rattle.inv_terms.specs.Listing as listing
use Rattle.inv_terms.specs.Listing.{last_outer}
use Rattle.bind_meaning.specs.Trees.{index_in, outer_count, inner_count, spots}
use Rattle.bind_write.specs.Sources.{spot_of, spots_by, run_of}
use Rattle.bind_write.specs.Spots.{count_in, nth_spot, inner_count_of}
use Rattle.bind_write.proofs.SourceLemmas.{inner_counts, same-index}

-- ---- how many there are

pub count-none : (es : List Entry) (c : Context) (group : Group) → c.outer ≡ None → outer_count es group ≡ count_in es c group
count-none es c group e = let P : Option Slot → Type 0 =
    λ o. outer_count es group ≡ elim o [ None ↦ outer_count es group | Some outer ↦ inner_count es outer group ] in subst P (sym e) refl

pub count-some : (es run : List Entry) (c : Context) (outer : Slot) (group : Group) → c.outer ≡ Some outer → run ≡ run_of es c →
    inner_count_of run group ≡ count_in es c group
count-some es run c outer group e r =
    let P : Option Slot → Type 0 = λ o. inner_count es outer group ≡ elim o [ None ↦ outer_count es group | Some x ↦ inner_count es x group ] in
    ap (λ x. inner_count_of x group) r ∙ (sym (inner_counts es outer c group e) ∙ subst P (sym e) refl)

-- as an invoice's listing counts them, and as a document's tree does
pub same-last : (es : List Entry) (group : Group) → last_outer es group ≡ outer_count es group
same-last es group = ap (fold max 0) (same es)
  where
    same : (es : List Entry) → map (λ (e : Entry). listing.index_in group e.context.outer) es ≡ map (λ (e : Entry). index_in group e.context.outer) es
    same [] = refl
    same (e ∷ es) =
        ap (λ n. n ∷ map (λ (e : Entry). listing.index_in group e.context.outer) es) (same-index group e.context.outer) ∙
        ap (λ ns. index_in group e.context.outer ∷ ns) (same es)

spots-in : (es : List Entry) (outer inner : Option Slot) (group : Group) (count : ℕ) → count ≡ count_in es (record { outer = outer; inner = inner }) group
    → spots_by (record { outer = outer; inner = inner }) group count ≡ spots es (record { outer = outer; inner = inner }) (Some group)
spots-in es None inner group count e = ap (spots_by (record { outer = None; inner = inner }) group) e
spots-in es (Some o) inner group count e = ap (spots_by (record { outer = Some o; inner = inner }) group) e

pub spots-some : (es : List Entry) (c : Context) (group : Group) (count : ℕ) → count ≡ count_in es c group → spots_by c group count ≡ spots es c (Some group)
spots-some es c group count e = spots-in es c.outer c.inner group count e

-- ---- one by one

range-next : {A : Type 0} (f : ℕ → A) (a n k : ℕ) → k < n → drop k (map f (range_with_len a n)) ≡ f (a + k) ∷ drop (suc k) (map f (range_with_len a n))
range-next f a zero k h = absurd (omega arith)
range-next f a (suc n) zero h = ap (λ x. f x ∷ map f (range_with_len (a + 1) n)) (let e : a ≡ a + 0 = omega arith in e)
range-next f a (suc n) (suc k) h =
    range-next f (a + 1) n k (omega arith) ∙ ap (λ x. f x ∷ drop (suc k) (map f (range_with_len (a + 1) n))) (let e : (a + 1) + k ≡ a + suc k = omega arith in
    e)

not_none : (n : ℕ) → (suc n == 0) ≡ false
not_none n = grind (arith, nat_tests)

pub spots-next : (c : Context) (group : Group) (count k : ℕ) → k < max count 1 →
    drop k (spots_by c group count) ≡ nth_spot c group count k ∷ drop (k + 1) (spots_by c group count)
spots-next c group zero zero h = refl
spots-next c group zero (suc k) h = absurd (omega arith)
spots-next c group (suc n) k h =
    range-next (spot_of c group) 1 (suc n) k (omega arith)
    ∙ (ap (λ x. spot_of c group x ∷ drop (suc k) (map (spot_of c group) (range_with_len 1 (suc n)))) (let e : 1 + k ≡ k + 1 = omega arith in e)
    ∙ (ap (λ x. spot_of c group (k + 1) ∷ drop x (map (spot_of c group) (range_with_len 1 (suc n)))) (let e : suc k ≡ k + 1 = omega arith in e)
    ∙ ap (λ b. cond b c (spot_of c group (k + 1)) ∷ drop (k + 1) (map (spot_of c group) (range_with_len 1 (suc n)))) (sym (not_none n))))

spots-length : (c : Context) (group : Group) (count : ℕ) → length (spots_by c group count) ≡ max count 1
spots-length c group zero = refl
spots-length c group (suc n) = let e = length-range_with_len 1 (suc n) in grind (arith, common_steps)

drop-all : {A : Type 0} (xs : List A) (k : ℕ) → length xs ≤ k → drop k xs ≡ []
drop-all xs k h = grind (arith, common_steps)

pub spots-past : (c : Context) (group : Group) (count k : ℕ) → max count 1 ≤ k → drop k (spots_by c group count) ≡ []
spots-past c group count k h = drop-all (spots_by c group count) k (let e = spots-length c group count in omega arith)
