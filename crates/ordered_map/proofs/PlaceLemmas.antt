-- The place of a key among values in the order of their keys: how it is found, and what it says.
use Rattle.std.proofs.Common.{◌≡◌, ℕ, zero, suc, ◌+◌, ◌<◌, ◌≤◌, ◌⊎◌, inl, inr, List, [], ◌∷◌, length, get_or, Some, None, refl, sym, ap, ◌∙◌, arith, Ordering}
use Rattle.std.specs.Prelude.{false}
use Rattle.std.specs.Cmp.{IsTotalOrder}
use Rattle.std.specs.Ordering.{is_eq}
use Rattle.std.specs.declared.cmp.Ordering.TheVariants.{Less, Equal, Greater}
use Rattle.std.specs.List.{AllByRecursion, AllWithin, HoldsAt, insert}
use Rattle.std.specs.List.Sorted.{IsPartitionPoint}
use Rattle.std.specs.BTreeMap.{insert_entry, is_at}
use Rattle.std.proofs.lemmas.Cmp.{alike_right}
use Rattle.std.proofs.lemmas.Map.{lookup-none}
use Rattle.std.proofs.lemmas.Map.Keys.{sorted_tail}
use Rattle.std.proofs.lemmas.Map.Entries.{lookup_head, lookup_tail}
use Rattle.ordered_map.specs.Entries.{with_keys, value_at}
use Rattle.ordered_map.proofs.EntryLemmas.{less-back, greater-trans, Ascend, above-head, put-less, put-greater}

pub any-default : {X : Type 0} (xs : List X) (k : ℕ) (d e : X) → k < length xs → get_or xs k d ≡ get_or xs k e
any-default [] k d e h = absurd (omega arith)
any-default (x ∷ xs) zero d e h = refl
any-default (x ∷ xs) (suc k) d e h = any-default xs k d e (omega arith)

at-or-below : (j k : ℕ) → j < k + 1 → (j ≡ k) ⊎ (j < k)
at-or-below zero zero h = inl refl
at-or-below zero (suc k) h = inr (omega arith)
at-or-below (suc j) zero h = absurd (omega arith)
at-or-below (suc j) (suc k) h = elim (at-or-below j k (omega arith)) [ inl e ↦ inl (ap suc e) | inr l ↦ inr (omega arith) ]

side : (j k : ℕ) → (j < k) ⊎ (k ≤ j)
side j zero = inr (omega arith)
side zero (suc k) = inl (omega arith)
side (suc j) (suc k) = elim (side j k) [ inl b ↦ inl (omega arith) | inr a ↦ inr (omega arith) ]

module _ {K X : Type 0} (key_of : X → K) where
  at-key : (P : K → Type 0) (xs : List X) → AllByRecursion (λ (f : K × X). P f.0) (with_keys key_of xs) → (k : ℕ) (d : X) → k < length xs
      → P (key_of (get_or xs k d))
  at-key P [] h k d l = absurd (omega arith)
  at-key P (x ∷ xs) h zero d l = h.0
  at-key P (x ∷ xs) h (suc k) d l = at-key P xs h.1 k d (omega arith)

  each-key : (P : K → Type 0) (xs : List X) → ((k : ℕ) (d : X) → k < length xs → P (key_of (get_or xs k d)))
      → AllByRecursion (λ (f : K × X). P f.0) (with_keys key_of xs)
  each-key P [] h = tt
  each-key P (x ∷ xs) h = (h 0 x (omega arith), each-key P xs (λ k d l. h (suc k) d (omega arith)))

  module _ {cmp : K → K → Ordering} (total : IsTotalOrder cmp) where
    ascend-at : (xs : List X) → Ascend cmp (with_keys key_of xs) → (j k : ℕ) (d : X) → j < k → k < length xs
        → cmp (key_of (get_or xs j d)) (key_of (get_or xs k d)) ≡ Less
    ascend-at [] s j k d h l = absurd (omega arith)
    ascend-at (x ∷ xs) s j zero d h l = absurd (omega arith)
    ascend-at (x ∷ xs) s zero (suc k) d h l = at-key (λ y. cmp (key_of x) y ≡ Less) xs (above-head cmp (key_of x, x) (with_keys key_of xs) s) k d (omega arith)
    ascend-at (x ∷ xs) s (suc j) (suc k) d h l = ascend-at xs (sorted_tail cmp (key_of x) _ s) j k d (omega arith) (omega arith)

    module _ (q : K) (xs : List X) (s : Ascend cmp (with_keys key_of xs)) (k : ℕ) (x : X) (is : x ≡ get_or xs k x) (within : k < length xs) where
      there : (d : X) → get_or xs k d ≡ x
      there d = any-default xs k d x within ∙ sym is

      pub equal-at : cmp q (key_of x) ≡ Equal → HoldsAt (λ y. cmp q (key_of y) ≡ Equal) xs k
      equal-at h d = ap (λ y. cmp q (key_of y)) (there d) ∙ h

      pub greater-up_to : cmp q (key_of x) ≡ Greater → AllWithin (λ y. cmp q (key_of y) ≡ Greater) xs 0 (k + 1)
      greater-up_to h j d _ l = elim (at-or-below j k l) [
        | inl e ↦ ap (λ i. cmp q (key_of (get_or xs i d))) e ∙ (ap (λ y. cmp q (key_of y)) (there d) ∙ h)
        | inr b ↦ greater-trans total q (key_of x) (key_of (get_or xs j d)) h
            (less-back total (key_of (get_or xs j d)) (key_of x)
            (ap (λ y. cmp (key_of (get_or xs j d)) (key_of y)) (sym (there d)) ∙ ascend-at xs s j k d b within))
      ]

      pub less-from : cmp q (key_of x) ≡ Less → AllWithin (λ y. cmp q (key_of y) ≡ Less) xs k (length xs)
      less-from h j d l b = elim (at-or-below k j (omega arith)) [
        | inl e ↦ ap (λ i. cmp q (key_of (get_or xs i d))) (sym e) ∙ (ap (λ y. cmp q (key_of y)) (there d) ∙ h)
        | inr m ↦ total.trans q (key_of x) (key_of (get_or xs j d)) h
            (ap (λ y. cmp (key_of y) (key_of (get_or xs j d))) (sym (there d)) ∙ ascend-at xs s k j d m b)
      ]

    -- ---- what a place says

    pub value-at_place : (q : K) (xs : List X) → Ascend cmp (with_keys key_of xs) → (k : ℕ) (x : X) → k < length xs
        → HoldsAt (λ y. cmp q (key_of y) ≡ Equal) xs k → x ≡ get_or xs k x
        → value_at cmp q (with_keys key_of xs) ≡ Some x
    value-at_place q [] s k x l h is = absurd (omega arith)
    value-at_place q (y ∷ xs) s zero x l h is = lookup_head (is_at (cmp q)) (key_of y, y) (with_keys key_of xs) (ap is_eq (h y)) ∙ ap Some (sym is)
    value-at_place q (y ∷ xs) s (suc k) x l h is =
        let front : cmp (key_of y) q ≡ Less =
        alike_right total q (key_of (get_or xs k y)) (key_of y) (h y) ∙ ascend-at (y ∷ xs) s 0 (suc k) y (omega arith) l in
        lookup_tail (is_at (cmp q)) (key_of y, y) (with_keys key_of xs) (ap is_eq (less-back total (key_of y) q front))
        ∙ value-at_place q xs (sorted_tail cmp (key_of y) _ s) k x (omega arith) (λ d. h d) is

    pub none-at_place : (q : K) (xs : List X) (k : ℕ) → IsPartitionPoint (λ x. cmp q (key_of x) ≡ Greater) (λ x. cmp q (key_of x) ≡ Less) xs k
        → value_at cmp q (with_keys key_of xs) ≡ None
    none-at_place q xs k h =
        lookup-none (is_at (cmp q)) (with_keys key_of xs)
        (each-key (λ y. is_eq (cmp q y) ≡ false) xs (λ j d l. elim (side j k) [ inl b ↦ ap is_eq (h.0 j d (omega arith) b) | inr a ↦ ap is_eq (h.1 j d a l) ]))

    pub put-at_place : (v : X) (xs : List X) (k : ℕ) → k ≤ length xs
        → IsPartitionPoint (λ x. cmp (key_of v) (key_of x) ≡ Greater) (λ x. cmp (key_of v) (key_of x) ≡ Less) xs k
        → with_keys key_of (insert xs k v) ≡ insert_entry cmp (with_keys key_of xs) (key_of v) v
    put-at_place v [] zero l h = refl
    put-at_place v [] (suc k) l h = absurd (omega arith)
    put-at_place v (x ∷ xs) zero l h = sym (put-less cmp (key_of x, x) (with_keys key_of xs) (key_of v) v (h.1 0 x (omega arith) (omega arith)))
    put-at_place v (x ∷ xs) (suc k) l h =
        ap (λ es. (key_of x, x) ∷ es) (put-at_place v xs k (omega arith)
        (λ j d a b. h.0 (suc j) d (omega arith) (omega arith), λ j d a b. h.1 (suc j) d (omega arith) (omega arith)))
        ∙ sym (put-greater cmp (key_of x, x) (with_keys key_of xs) (key_of v) v (h.0 0 x (omega arith) (omega arith)))
