-- How many occurrences of groups stand right in an invoice, entry by entry.
use Rattle.std.proofs.Common.{◌≡◌, ℕ, zero, suc, ◌==◌, ◌<◌, ◌≤◌, ◌+◌, Bool, true, false, List, [], ◌∷◌, refl, ap, sym, ◌∙◌, arith}
use Rattle.std.proofs.Common.{fold, max, map, length, get_or, drop, drop-cons, add-one, if◌then◌else◌, replicate}
use Rattle.std.specs.Prelude.{slice_set}
use Rattle.std.proofs.lemmas.Bool.Decides.{nat_tests}
use Rattle.std.proofs.lemmas.Grind.{common_steps}
use Rattle.term_table.specs.declared.groups.Group.{Group}
use Rattle.term_table.specs.Groups.{number_of}
use Rattle.inv_terms.specs.declared.entries.Entry.{Entry}
use Rattle.inv_terms.specs.Listing.{index_in, last_outer}

-- ---- entries one by one

drop-next : (es : List Entry) (k : ℕ) (e : Entry) → k < length es → e ≡ get_or es k e → drop k es ≡ e ∷ drop (k + 1) es
drop-next es k e h is = rw (add-one, drop-cons es k e h) (ap (λ x. x ∷ drop (suc k) es) (sym is))

pub one_entry : (f : Entry → ℕ) (n : ℕ) (es : List Entry) (k : ℕ) (e : Entry) → k < length es → e ≡ get_or es k e
    → fold max n (map f (drop k es)) ≡ fold max (max n (f e)) (map f (drop (k + 1) es))
one_entry f n es k e h is = ap (λ x. fold max n (map f x)) (drop-next es k e h is)

drop-past : (es : List Entry) (k : ℕ) → length es ≤ k → drop k es ≡ []
drop-past es k h = grind (arith, common_steps)

pub no_entry : (f : Entry → ℕ) (n : ℕ) (es : List Entry) (k : ℕ) → length es ≤ k → fold max n (map f (drop k es)) ≡ n
no_entry f n es k h = ap (λ x. fold max n (map f x)) (drop-past es k h)

-- ---- the counts of all groups at once

-- what the entries from the k-th on have behind these counts
abbrev pub AreCountedFrom : List ℕ → ℕ → List Entry → Type 0
AreCountedFrom ns k es =
    (group : Group) → fold max (get_or ns (number_of group) 0) (map (λ (e : Entry). index_in group e.context.outer) (drop k es)) ≡ last_outer es group

pub none-yet : (n k : ℕ) → ◌≡◌ {A = ℕ} (get_or (replicate n 0) k 0) 0
none-yet zero k = refl
none-yet (suc n) zero = refl
none-yet (suc n) (suc k) = none-yet n k

pub counted-none : (n : ℕ) (es : List Entry) → AreCountedFrom (replicate n 0) 0 es
counted-none n es group = ap (λ x. fold max x (map (λ (e : Entry). index_in group e.context.outer) es)) (none-yet n (number_of group))

pub counted-more : (ns ms : List ℕ) (es : List Entry) (k : ℕ) (e : Entry) → k < length es → e ≡ get_or es k e
    → ((group : Group) → get_or ms (number_of group) 0 ≡ max (get_or ns (number_of group) 0) (index_in group e.context.outer))
    → AreCountedFrom ns k es → AreCountedFrom ms (k + 1) es
counted-more ns ms es k e l is noted counted group =
    ap (λ x. fold max x (map (λ (e : Entry). index_in group e.context.outer) (drop (k + 1) es))) (noted group) ∙
    (sym (one_entry (λ (e : Entry). index_in group e.context.outer) (get_or ns (number_of group) 0) es k e l is) ∙ counted group)

pub counted-all : (ns : List ℕ) (es : List Entry) (k : ℕ) → length es ≤ k → AreCountedFrom ns k es → (group : Group) →
    get_or ns (number_of group) 0 ≡ last_outer es group
counted-all ns es k l counted group =
    sym (no_entry (λ (e : Entry). index_in group e.context.outer) (get_or ns (number_of group) 0) es k l) ∙ counted group

-- one count that rises
pub max_with : (a : ℕ) → a ≡ max a 0
max_with a = grind arith

same_front : (j k : ℕ) → (j == k) ≡ (suc j == suc k)
same_front j k = grind (arith, nat_tests)

not_first : (k : ℕ) → (0 == suc k) ≡ false
not_first k = grind (arith, nat_tests)

not_last : (j : ℕ) → (suc j == 0) ≡ false
not_last j = grind (arith, nat_tests)

with_none : (a v : ℕ) (b : Bool) → b ≡ false → a ≡ max a (if b then v else 0)
with_none a v true e = absurd (cc)
with_none a v false e = max_with a

pub set-max : (ns : List ℕ) (j k v : ℕ) → j < length ns
    → get_or (slice_set ns j (max (get_or ns j 0) v)) k 0 ≡ max (get_or ns k 0) (if j == k then v else 0)
set-max [] j k v l = absurd (omega (arith, l))
set-max (n ∷ ns) zero zero v l = refl
set-max (n ∷ ns) zero (suc k) v l = with_none (get_or ns k 0) v (0 == suc k) (not_first k)
set-max (n ∷ ns) (suc j) zero v l = with_none n v (suc j == 0) (not_last j)
set-max (n ∷ ns) (suc j) (suc k) v l =
    set-max ns j k v (omega (arith, l)) ∙ ap (λ b. max (get_or ns k 0) (if b then v else 0)) (same_front j k)
