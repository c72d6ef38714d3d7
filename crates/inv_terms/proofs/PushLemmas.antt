-- The last entry alone shows which occurrence is the next one.
use Rattle.std.proofs.Common.{◌≡◌, ℕ, ◌+◌, ◌-◌, ◌≤◌, max, Bool, true, false, ◌&&◌, ◌||◌, List, [], ◌∷◌, ◌++◌, length, length-append, Option, Some, None, refl}
use Rattle.std.proofs.Common.{sym, ap, ◌∙◌, ◌⊎◌, inl, inr, arith}
use Rattle.std.specs.Prelude.{◌==◌, slice_get, nat_le, fold, map, if◌then◌else◌}
use Rattle.std.specs.List.{list_all}
use Rattle.std.proofs.lemmas.Bool.{false≢true}
use Rattle.std.proofs.lemmas.Bool.Decides.{nat_tests}
use Rattle.std.proofs.lemmas.List.Sums.{fold-append}
use Rattle.std.proofs.lemmas.List.{map-append}
use Rattle.std.proofs.lemmas.List.Folds.{list_all-append}
use Rattle.term_table.specs.declared.groups.Group.{Group}
use Rattle.term_table.specs.declared.contexts.Slot.{Slot}
use Rattle.inv_terms.specs.declared.entries.Entry.{Entry}
use Rattle.inv_terms.specs.declared.listing.Refusal.TheVariants as refusals
use Rattle.term_table.specs.Groups.{same_group}
use Rattle.term_table.specs.Contexts.{same_slot}
use Rattle.inv_terms.specs.Listing.{comes_before, index_in, last_outer, last_inner, is_listed, is_last_or_next, is_next, is_behind, is_behind_last, last_entry}
use Rattle.inv_terms.specs.Listing.{is_placed, refusal}
use Rattle.inv_terms.specs.LastEntry.{outer_behind, inner_behind, is_next_behind}
use Rattle.term_table.proofs.GroupLemmas.{same_group_is, same_group_itself}
use Rattle.term_table.proofs.GroupLemmas.{both}
use Rattle.inv_terms.proofs.ListingLemmas.{Orders, outer_slot, outer-between, inner-between, orders-from}

-- ---- numbers of slots

pub same_slot_itself : (a : Option Slot) → same_slot a a ≡ true
same_slot_itself None = refl
same_slot_itself (Some s) = rw (same_group_itself s.group) (grind (arith, nat_tests))

pub slot_is : (a b : Slot) → a.group ≡ b.group → a.index ≡ b.index → a ≡ b
slot_is a b e f =
    let x : Slot = record { group = a.group; index = a.index } in
    let y : Slot = record { group = b.group; index = b.index } in
    let h : x ≡ y = rw (e, f) refl in
    h

pub same_slot_is : (a b : Option Slot) → same_slot a b ≡ true → a ≡ b
same_slot_is None None h = refl
same_slot_is None (Some b) h = absurd (false≢true h)
same_slot_is (Some a) None h = absurd (false≢true h)
same_slot_is (Some a) (Some b) h =
    let k = both (same_group a.group b.group) (a.index == b.index) h in
    let i : a.index ≡ b.index = grind (arith, nat_tests, k.1) in
    ap Some (slot_is a b (same_group_is _ _ k.0) i)

pub index_in_le : (o : Option Slot) (g : Group) (m : ℕ) → ((t : Slot) → o ≡ Some t → t.group ≡ g → t.index ≤ m) → index_in g o ≤ m
index_in_le None g m h = omega arith
index_in_le (Some t) g m h = go (same_group t.group g) refl
  where
    go : (b : Bool) → same_group t.group g ≡ b → (if b then t.index else 0) ≤ m
    go true e = h t refl (same_group_is _ _ e)
    go false e = omega arith

pub index_in_slot : (o : Option Slot) (g : Group) (u : Slot) → o ≡ Some u → u.group ≡ g → index_in g o ≡ u.index
index_in_slot o g u e f = rw (e, f, same_group_itself g) refl

outer_bound : (f l e : Entry) → Orders f l e → (s : Slot) → e.context.outer ≡ Some s → index_in s.group f.context.outer ≤ index_in s.group l.context.outer
outer_bound f l e o s es = index_in_le f.context.outer s.group _ (λ t ft same.
    let w = outer-between f l e o t s ft es same in
    let k : index_in s.group l.context.outer ≡ w.slot.index = index_in_slot _ _ w.slot w.is w.group in
    omega (arith, k, w.above))

-- the number of an inner slot, if the entry stands in the outer one
abbrev pub index_inside : Option Slot → Group → Entry → ℕ
index_inside outer group e = if same_slot e.context.outer outer then index_in group e.context.inner else 0

inner_bound : (f l e : Entry) → Orders f l e → (s : Slot) → e.context.inner ≡ Some s →
    index_inside e.context.outer s.group f ≤ index_inside e.context.outer s.group l
inner_bound f l e o s es = go (same_slot f.context.outer e.context.outer) refl
  where
    go : (b : Bool) → same_slot f.context.outer e.context.outer ≡ b →
        (if b then index_in s.group f.context.inner else 0) ≤ index_inside e.context.outer s.group l
    go false h = omega arith
    go true h = index_in_le f.context.inner s.group _ (λ t ft same.
        let u = outer_slot e o.last s es in
        let fo : f.context.outer ≡ Some u.0 = same_slot_is _ _ h ∙ u.1 in
        let w = outer-between f l e o u.0 u.0 fo u.1 refl in
        let i : w.slot.index ≡ u.0.index = omega (arith, w.above, w.below) in
        let lo : l.context.outer ≡ e.context.outer = w.is ∙ (ap Some (slot_is w.slot u.0 w.group i) ∙ sym u.1) in
        let v = inner-between f l e o u.0 t s fo u.1 ft es same in
        let k : index_in s.group l.context.inner ≡ v.slot.index = index_in_slot _ _ v.slot v.is v.group in
        let m : index_inside e.context.outer s.group l ≡ index_in s.group l.context.inner = rw (lo, same_slot_itself e.context.outer) refl in
        omega (arith, k, m, v.above))

-- ---- the greatest of a list that ends with it

pub fold_le : (h : Entry → ℕ) (l : Entry) (es : List Entry) (a m : ℕ) → a ≤ m → ((f : Entry) → comes_before f l ≡ true → h f ≤ m)
    → list_all (λ (f : Entry). comes_before f l) es ≡ true → fold max a (map h es) ≤ m
fold_le h l [] a m k p b = k
fold_le h l (f ∷ es) a m k p b =
    let q = both (comes_before f l) _ b in
    let r : h f ≤ m = p f q.0 in
    fold_le h l es (max a (h f)) m (omega (arith, k, r)) p q.1

greatest : (h : Entry → ℕ) (l : Entry) (es : List Entry) → ((f : Entry) → comes_before f l ≡ true → h f ≤ h l)
    → list_all (λ (f : Entry). comes_before f l) es ≡ true → fold max 0 (map h (es ++ l ∷ [])) ≡ h l
greatest h l es p b =
    let k : fold max 0 (map h es) ≤ h l = fold_le h l es 0 (h l) (omega arith) p b in
    let e : max (fold max 0 (map h es)) (h l) ≡ h l = omega (arith, k) in
    ap (fold max 0) (map-append h es (l ∷ [])) ∙ (fold-append max 0 (map h es) (h l ∷ []) ∙ e)

pub and_pair : (a b : Bool) → a ≡ true → b ≡ true → (a && b) ≡ true
and_pair a b e f = rw (e, f) refl

pub last_behind : (es : List Entry) (l : Entry) → is_listed (es ++ l ∷ []) ≡ true → list_all (λ (f : Entry). comes_before f l) es ≡ true
last_behind [] l h = refl
last_behind (f ∷ es) l h =
    let p = both (list_all (comes_before f) (es ++ l ∷ [])) _ h in
    let q = both (list_all (comes_before f) es) _ (sym (list_all-append (comes_before f) es (l ∷ [])) ∙ p.0) in
    and_pair _ _ (both (comes_before f l) true q.1).0 (last_behind es l p.1)

-- ---- the last or the next occurrence

same_test : (last last' : Group → ℕ) (slot : Option Slot) → ((s : Slot) → slot ≡ Some s → last s.group ≡ last' s.group) →
    is_last_or_next last slot ≡ is_last_or_next last' slot
same_test last last' None h = refl
same_test last last' (Some s) h = ap (λ n. nat_le 1 s.index && ((s.index == n) || (s.index == n + 1))) (h s refl)

next_first : (e : Entry) → is_next_behind None e.context ≡ is_next [] e.context
next_first e =
    let a = same_test (outer_behind None) (last_outer []) e.context.outer (λ s h. refl) in
    let b = same_test (inner_behind None e.context) (last_inner [] e.context.outer) e.context.inner (λ s h. refl) in
    rw (a, b) refl

next_later : (es : List Entry) (l e : Entry) → is_listed (es ++ l ∷ []) ≡ true → comes_before l e ≡ true →
    is_next_behind (Some l) e.context ≡ is_next (es ++ l ∷ []) e.context
next_later es l e h k =
    let before = last_behind es l h in
    let a = same_test (outer_behind (Some l)) (last_outer (es ++ l ∷ [])) e.context.outer (λ s q.
    sym (greatest (λ (f : Entry). index_in s.group f.context.outer) l es (λ f b. outer_bound f l e (orders-from f l e b k) s q) before)) in
    let b = same_test (inner_behind (Some l) e.context) (last_inner (es ++ l ∷ []) e.context.outer) e.context.inner (λ s q.
    sym (greatest (index_inside e.context.outer s.group) l es (λ f b. inner_bound f l e (orders-from f l e b k) s q) before)) in
    rw (a, b) refl

pub by_last : (es : List Entry) → (es ≡ []) ⊎ ((init : List Entry) × (l : Entry) × (es ≡ init ++ l ∷ []))
by_last [] = inl refl
by_last (e ∷ es) = elim (by_last es) [ inl h ↦ inr ([], e, ap (λ x. e ∷ x) h) | inr w ↦ inr (e ∷ w.0, w.1, ap (λ x. e ∷ x) w.2) ]

at_end : (es : List Entry) (l : Entry) → slice_get (es ++ l ∷ []) (length es) ≡ Some l
at_end [] l = refl
at_end (e ∷ es) l = at_end es l

pub last_entry-append : (es : List Entry) (l : Entry) → last_entry (es ++ l ∷ []) ≡ Some l
last_entry-append es l =
    let n : length (es ++ l ∷ []) - 1 ≡ length es = omega (arith, length-append es (l ∷ [])) in
    ap (slice_get (es ++ l ∷ [])) n ∙ at_end es l

pub next_is : (es : List Entry) (e : Entry) → is_listed es ≡ true → is_behind es e ≡ true → is_next_behind (last_entry es) e.context ≡ is_next es e.context
next_is es e h k = elim (by_last es) [
  | inl none ↦ rw none (next_first e)
  | inr w ↦
      let last : last_entry es ≡ Some w.1 = ap last_entry w.2 ∙ last_entry-append w.0 w.1 in
      let b : comes_before w.1 e ≡ true = sym (ap (λ o. is_behind_last o e) last) ∙ k in
      ap (λ o. is_next_behind o e.context) last ∙ (next_later w.0 w.1 e (ap is_listed (sym w.2) ∙ h) b ∙ ap (λ x. is_next x e.context) (sym w.2))
]

pub refusal-behind : (es : List Entry) (e : Entry) (b : Bool) → is_placed e ≡ true → is_behind es e ≡ true → is_next es e.context ≡ b
    → refusal es e ≡ (if b then None else Some refusals.BadContext)
refusal-behind es e b h k n = rw (h, k, n) refl
