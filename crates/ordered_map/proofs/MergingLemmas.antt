-- One more put in, and the least taken, of a list of values and the entries beside it.
use Rattle.std.proofs.Common.{◌≡◌, ℕ, cond, Bool, true, false, List, [], ◌∷◌, ◌++◌, length, get_or, drop, Option, Some, None, refl, sym, ap, ◌∙◌, subst}
use Rattle.std.proofs.Common.{arith, Ordering}
use Rattle.std.specs.Cmp.{IsTotalOrder}
use Rattle.std.specs.Prelude.{is_some, option_map}
use Rattle.std.specs.Option.{option_to_list}
use Rattle.std.specs.Ordering.{is_eq, is_lt}
use Rattle.std.specs.declared.cmp.Ordering.TheVariants.{Less, Equal, Greater}
use Rattle.std.specs.List.{AllByRecursion, insert}
use Rattle.std.specs.Map.{keys_of, values_of}
use Rattle.std.specs.BTreeMap.{insert_entry, is_at}
use Rattle.std.proofs.lemmas.Bool.{false≢true}
use Rattle.std.proofs.lemmas.Cmp.{eq_by_cmp_equiv}
use Rattle.std.proofs.lemmas.Map.{NonePasses, none_passes_from_lookup}
use Rattle.std.proofs.lemmas.Map.Keys.{sorted_tail}
use Rattle.std.proofs.lemmas.Map.Entries.{lookup_tail}
use Rattle.std.proofs.lemmas.List.Elements.{All-from_recursion}
use Rattle.ordered_map.specs.declared.places.Place.{Place}
use Rattle.ordered_map.specs.declared.places.Place.TheVariants as places
use Rattle.ordered_map.specs.Entries.{with_keys, value_at, entries_behind, value_behind, put_all, entries_of, AreApart, HaveTheirKeys}
use Rattle.ordered_map.specs.Places.{IsPlace}
use Rattle.ordered_map.specs.Merging.{ArePutIn, ArePut, IsTaken, IsTakenIfAny, is_other_next}
use Rattle.ordered_map.proofs.EntryLemmas.{each-weaker, or_else, less-back, greater-trans, other-back, Ascend, Lacks, above-head, put-less, keys-put}
use Rattle.ordered_map.proofs.EntryLemmas.{entries-put, put-before, put-among, lacks-put, value-put, value-all, ascend-put}
use Rattle.ordered_map.proofs.EntryLemmas.{ascend-all, each-all, in-front, values-of, own-keys}
use Rattle.ordered_map.proofs.PlaceLemmas.{any-default, value-at_place, none-at_place, put-at_place}

neither : {X : Type 0} (a b : Option X) → or_else a b ≡ None → (a ≡ None) × (b ≡ None)
neither None b h = (refl, h)
neither (Some x) b h = absurd (let k : Some x ≡ None = h in cc)

module _ {K X : Type 0} {cmp : K → K → Ordering} (total : IsTotalOrder cmp) (key_of : X → K) where
  pub value-in_two : (sorted : List X) (others : List (K × X)) → AreApart cmp key_of sorted others → (q : K)
      → value_at cmp q (entries_of cmp key_of sorted others) ≡ or_else (value_at cmp q (with_keys key_of sorted)) (value_at cmp q others)
  value-in_two sorted others a q = value-all cmp total q others a.others_ascend (with_keys key_of sorted) a.apart

  -- ---- put in

  module _ (sorted : List X) (others : List (K × X)) (a : AreApart cmp key_of sorted others) (v : X)
      (absent : value_at cmp (key_of v) (entries_of cmp key_of sorted others) ≡ None) where
    in_neither : (value_at cmp (key_of v) (with_keys key_of sorted) ≡ None) × (value_at cmp (key_of v) others ≡ None)
    in_neither = neither _ _ (sym (value-in_two sorted others a (key_of v)) ∙ absent)

    new_beside : NonePasses (is_at (cmp (key_of v))) others
    new_beside = none_passes_from_lookup (is_at (cmp (key_of v))) others in_neither.1

    still_lacking : (os : List (K × X)) → NonePasses (is_at (cmp (key_of v))) os → AllByRecursion (λ o. Lacks cmp o.0 (with_keys key_of sorted)) os
        → AllByRecursion (λ o. Lacks cmp o.0 (insert_entry cmp (with_keys key_of sorted) (key_of v) v)) os
    still_lacking [] n h = tt
    still_lacking (o ∷ os) n h = (
      lacks-put cmp total o.0 (key_of v) v (with_keys key_of sorted) (other-back total (key_of v) o.0 n.0) h.0,
      still_lacking os n.1 h.1,
    )

    pub put-in_list : (k : ℕ) → IsPlace (λ x. cmp (key_of v) (key_of x)) sorted (places.Before k)
        → ArePutIn cmp key_of sorted others v (insert sorted k v) others
    put-in_list k is =
        let e : with_keys key_of (insert sorted k v) ≡ insert_entry cmp (with_keys key_of sorted) (key_of v) v =
        put-at_place key_of total v sorted k is.bound (is.below, is.above) in
        record {
          entries = ap (λ es. put_all cmp es others) e ∙ put-before cmp total (key_of v) v others new_beside (with_keys key_of sorted);
          are_apart = record {
            sorted_ascend = subst (Ascend cmp) (sym e) (ascend-put cmp total (key_of v) v (with_keys key_of sorted) a.sorted_ascend);
            others_ascend = a.others_ascend;
            others_keys = a.others_keys;
            apart = subst (λ es. AllByRecursion (λ o. Lacks cmp o.0 es) others) (sym e) (still_lacking others new_beside a.apart);
          };
        }

    pub put-in_others : ArePutIn cmp key_of sorted others v sorted (insert_entry cmp others (key_of v) v)
    put-in_others = record {
      entries = put-among cmp total (key_of v) v others new_beside (with_keys key_of sorted);
      are_apart = record {
        sorted_ascend = a.sorted_ascend;
        others_ascend = ascend-put cmp total (key_of v) v others a.others_ascend;
        others_keys = entries-put cmp (λ e. e.0 ≡ key_of e.1) (key_of v) v others new_beside refl a.others_keys;
        apart = keys-put cmp (λ y. Lacks cmp y (with_keys key_of sorted)) (key_of v) v others in_neither.0 a.apart;
      };
    }

  pub values-behind : (sorted : List X) (others : List (K × X)) (v : X) (back : Option X) (new : List X) (new_others : List (K × X))
      → ArePut cmp key_of sorted others v back new new_others
      → (whole : List (K × X)) → entries_of cmp key_of sorted others ≡ whole → (k : K)
      → value_at cmp k (entries_of cmp key_of new new_others) ≡ value_behind cmp k whole (key_of v) v
  values-behind sorted others v None new new_others put whole view_is k =
      ap (value_at cmp k) (put.1.entries ∙ ap (λ es. insert_entry cmp es (key_of v) v) view_is)
      ∙ (value-put cmp total k (key_of v) v whole
      ∙ (ap (λ b. cond b (Some v) (value_at cmp k whole)) ((eq_by_cmp_equiv total).symm k (key_of v))
      ∙ ap (λ o. elim o as (λ _. Option X) [
        | None ↦ cond (is_eq (cmp (key_of v) k)) (Some v) (value_at cmp k whole)
        | Some other ↦ value_at cmp k whole
      ]) (sym (ap (value_at cmp (key_of v)) (sym view_is) ∙ put.0))))
  values-behind sorted others v (Some back) new new_others put whole view_is k =
      let whole_is : entries_of cmp key_of new new_others ≡ whole =
      ap (λ l. entries_of cmp key_of l new_others) put.2 ∙ (ap (entries_of cmp key_of sorted) put.3 ∙ view_is) in
      ap (value_at cmp k) whole_is
      ∙ held (value_at cmp (key_of v) whole) (ap (λ es. is_some (value_at cmp (key_of v) es)) (sym view_is) ∙ put.0)
    where
      held : (o : Option X) → is_some o ≡ true → value_at cmp k whole ≡ (elim o as (λ _. Option X) [
        | None ↦ cond (is_eq (cmp (key_of v) k)) (Some v) (value_at cmp k whole)
        | Some other ↦ value_at cmp k whole
      ])
      held None h = absurd (false≢true h)
      held (Some x) h = refl

  pub entries-are_behind : (sorted : List X) (others : List (K × X)) (v : X) (back : Option X) (new : List X) (new_others : List (K × X))
      → ArePut cmp key_of sorted others v back new new_others
      → (whole : List (K × X)) → entries_of cmp key_of sorted others ≡ whole
      → entries_of cmp key_of new new_others ≡ entries_behind cmp whole (key_of v) v
  entries-are_behind sorted others v None new new_others put whole view_is =
      put.1.entries ∙ (ap (λ es. insert_entry cmp es (key_of v) v) view_is
      ∙ ap (λ o. elim o as (λ _. List (K × X)) [ None ↦ insert_entry cmp whole (key_of v) v | Some other ↦ whole ])
      (sym (ap (value_at cmp (key_of v)) (sym view_is) ∙ put.0)))
  entries-are_behind sorted others v (Some back) new new_others put whole view_is =
      ap (λ l. entries_of cmp key_of l new_others) put.2 ∙ (ap (entries_of cmp key_of sorted) put.3 ∙ (view_is
      ∙ held (value_at cmp (key_of v) whole) (ap (λ es. is_some (value_at cmp (key_of v) es)) (sym view_is) ∙ put.0)))
    where
      held : (o : Option X) → is_some o ≡ true
          → whole ≡ (elim o as (λ _. List (K × X)) [ None ↦ insert_entry cmp whole (key_of v) v | Some other ↦ whole ])
      held None h = absurd (false≢true h)
      held (Some x) h = refl

  pub back-is : (sorted : List X) (others : List (K × X)) (v : X) (back : Option X) (new : List X) (new_others : List (K × X))
      → ArePut cmp key_of sorted others v back new new_others
      → (whole : List (K × X)) → entries_of cmp key_of sorted others ≡ whole → back ≡ option_map (λ _. v) (value_at cmp (key_of v) whole)
  back-is sorted others v None new new_others put whole view_is =
      ap (option_map (λ _. v)) (sym (ap (value_at cmp (key_of v)) (sym view_is) ∙ put.0))
  back-is sorted others v (Some back) new new_others put whole view_is =
      ap Some put.1 ∙ held (value_at cmp (key_of v) whole) (ap (λ es. is_some (value_at cmp (key_of v) es)) (sym view_is) ∙ put.0)
    where
      held : (o : Option X) → is_some o ≡ true → Some v ≡ option_map (λ _. v) o
      held None h = absurd (false≢true h)
      held (Some x) h = refl

  -- ---- the least taken

  least-other : (sorted : List X) (e : K × X) (os : List (K × X)) → is_other_next cmp key_of sorted (e ∷ os) ≡ true
      → insert_entry cmp (with_keys key_of sorted) e.0 e.1 ≡ e ∷ with_keys key_of sorted
  least-other [] e os h = refl
  least-other (x ∷ xs) e os h = put-less cmp (key_of x, x) (with_keys key_of xs) e.0 e.1 (is-less (cmp e.0 (key_of x)) h)
    where
      is-less : (o : Ordering) → is_lt o ≡ true → o ≡ Less
      is-less Less i = refl
      is-less Equal i = absurd (false≢true i)
      is-less Greater i = absurd (false≢true i)

  taken-first : (sorted : List X) (e : K × X) (os : List (K × X)) → is_other_next cmp key_of sorted (e ∷ os) ≡ true → AreApart cmp key_of sorted (e ∷ os)
      → IsTaken cmp key_of sorted (e ∷ os) e.1 sorted os
  taken-first sorted e os h a = record {
    values =
        ap values_of (ap (λ es. put_all cmp es os) (least-other sorted e os h)
        ∙ in-front cmp total e os (each-weaker (λ f l. less-back total e.0 f.0 l) os (above-head cmp e os a.others_ascend)) (with_keys key_of sorted));
    are_apart = record {
      sorted_ascend = a.sorted_ascend;
      others_ascend = sorted_tail cmp e.0 (keys_of os) a.others_ascend;
      others_keys = a.others_keys.1;
      apart = a.apart.1;
    };
  }

  pub taken-other : (sorted : List X) (others : List (K × X)) (e : K × X) (os : List (K × X)) → others ≡ e ∷ os
      → is_other_next cmp key_of sorted others ≡ true → AreApart cmp key_of sorted others
      → IsTaken cmp key_of sorted others e.1 sorted os
  taken-other sorted others e os is h a =
      subst (λ l. IsTaken cmp key_of sorted l e.1 sorted os) (sym is)
      (taken-first sorted e os (sym (ap (is_other_next cmp key_of sorted) is) ∙ h) (subst (AreApart cmp key_of sorted) is a))

  -- no other is below the first of the list
  all-above : (x : X) (xs : List X) (os : List (K × X)) → is_other_next cmp key_of (x ∷ xs) os ≡ false → AreApart cmp key_of (x ∷ xs) os
      → AllByRecursion (λ o. cmp o.0 (key_of x) ≡ Greater) os
  all-above x xs [] h a = tt
  all-above x xs (o ∷ os) h a =
      let new : is_eq (cmp o.0 (key_of x)) ≡ false = (none_passes_from_lookup (is_at (cmp o.0)) (with_keys key_of (x ∷ xs)) a.apart.0).0 in
      let first : cmp o.0 (key_of x) ≡ Greater = is-greater (cmp o.0 (key_of x)) h new in
      (first, each-weaker (λ f l. greater-trans total f.0 o.0 (key_of x) (less-back total o.0 f.0 l) first) os (above-head cmp o os a.others_ascend))
    where
      is-greater : (r : Ordering) → is_lt r ≡ false → is_eq r ≡ false → r ≡ Greater
      is-greater Less i j = absurd (false≢true (sym i))
      is-greater Equal i j = absurd (false≢true (sym j))
      is-greater Greater i j = refl

  lacking-rest : (x : X) (xs : List X) (os : List (K × X)) → AllByRecursion (λ o. cmp o.0 (key_of x) ≡ Greater) os
      → AllByRecursion (λ o. Lacks cmp o.0 (with_keys key_of (x ∷ xs))) os
      → AllByRecursion (λ o. Lacks cmp o.0 (with_keys key_of xs)) os
  lacking-rest x xs [] g h = tt
  lacking-rest x xs (o ∷ os) g h = (sym (lookup_tail (is_at (cmp o.0)) (key_of x, x) (with_keys key_of xs) (ap is_eq g.0)) ∙ h.0, lacking-rest x xs os g.1 h.1)

  taken-front : (x : X) (xs : List X) (others : List (K × X)) → is_other_next cmp key_of (x ∷ xs) others ≡ false
      → AreApart cmp key_of (x ∷ xs) others → IsTaken cmp key_of (x ∷ xs) others x xs others
  taken-front x xs others h a =
      let above = all-above x xs others h a in
      record {
        values = ap values_of (in-front cmp total (key_of x, x) others above (with_keys key_of xs));
        are_apart = record {
          sorted_ascend = sorted_tail cmp (key_of x) (keys_of (with_keys key_of xs)) a.sorted_ascend;
          others_ascend = a.others_ascend;
          others_keys = a.others_keys;
          apart = lacking-rest x xs others above a.apart;
        };
      }

  -- what a list in front gives
  pub taken-listed : (sorted : List X) (others : List (K × X)) (result : Option X) (new : List X) → sorted ≡ option_to_list result ++ new → new ≡ drop 1 sorted
      → is_other_next cmp key_of sorted others ≡ false → AreApart cmp key_of sorted others → IsTakenIfAny cmp key_of sorted others result new others
  taken-listed sorted others None new is none h a = absurd (some sorted h (is ∙ none))
    where
      some : (xs : List X) → is_other_next cmp key_of xs others ≡ false → xs ≡ drop 1 xs → ⊥
      some [] i l = false≢true (sym i)
      some (x ∷ xs) i l = absurd (omega (arith, ap length l))
  taken-listed sorted others (Some x) new is none h a =
      subst (λ l. IsTaken cmp key_of l others x new others) (sym is)
      (taken-front x new others (sym (ap (λ l. is_other_next cmp key_of l others) is) ∙ h) (subst (λ l. AreApart cmp key_of l others) is a))

  -- ---- by what a search answered

  pub put-there : (sorted : List X) (others : List (K × X)) (a : AreApart cmp key_of sorted others) (v : X)
      (absent : value_at cmp (key_of v) (entries_of cmp key_of sorted others) ≡ None) (k : ℕ)
      → IsPlace (λ x. cmp (key_of v) (key_of x)) sorted (places.Before k) → (new : List X) → new ≡ insert sorted k v
      → ArePutIn cmp key_of sorted others v new others
  put-there sorted others a v absent k found new n =
      subst (λ l. ArePutIn cmp key_of sorted others v l others) (sym n) (put-in_list sorted others a v absent k found)

  pub put-beside : (sorted : List X) (others : List (K × X)) → AreApart cmp key_of sorted others → (v : X)
      → value_at cmp (key_of v) (entries_of cmp key_of sorted others) ≡ None
      → (q : K) → q ≡ key_of v → (new : List (K × X)) → new ≡ insert_entry cmp others q v → ArePutIn cmp key_of sorted others v sorted new
  put-beside sorted others a v absent q is new n =
      subst (λ l. ArePutIn cmp key_of sorted others v sorted l) (sym (n ∙ ap (λ k. insert_entry cmp others k v) is)) (put-in_others sorted others a v absent)

  module _ (sorted : List X) (others : List (K × X)) (a : AreApart cmp key_of sorted others) (whole : List (K × X))
      (view_is : entries_of cmp key_of sorted others ≡ whole)
      (q : K) (seen : List X) (sees : seen ≡ sorted) (p : Place) (found : IsPlace (λ x. cmp q (key_of x)) seen p) where
    pub place-seen : (r : Place) → p ≡ r → IsPlace (λ x. cmp q (key_of x)) sorted r
    place-seen r e = subst (λ l. IsPlace (λ x. cmp q (key_of x)) l r) sees (subst (IsPlace (λ x. cmp q (key_of x)) seen) e found)

    pub value-there : (k : ℕ) (x : X) → p ≡ places.At k → x ≡ get_or sorted k x → Some x ≡ value_at cmp q whole
    value-there k x e is =
        let there : IsPlace (λ x. cmp q (key_of x)) sorted (places.At k) = place-seen (places.At k) e in
        sym (ap (value_at cmp q) (sym view_is) ∙ (value-in_two sorted others a q
        ∙ ap (λ o. or_else o (value_at cmp q others)) (value-at_place key_of total q sorted a.sorted_ascend k x there.0 there.1 is)))

    pub value-beside : (k : ℕ) (o : Option X) → p ≡ places.Before k → o ≡ value_at cmp q others → o ≡ value_at cmp q whole
    value-beside k o e is =
        is ∙ sym (ap (value_at cmp q) (sym view_is) ∙ (value-in_two sorted others a q
        ∙ ap (λ b. or_else b (value_at cmp q others))
        (none-at_place key_of total q sorted k ((place-seen (places.Before k) e).below, (place-seen (places.Before k) e).above))))

    -- whether there is a value, by what a search answered

    pub there-some : (k : ℕ) (v : X) → q ≡ key_of v → p ≡ places.At k → is_some (value_at cmp (key_of v) whole) ≡ true
    there-some k v is e =
        ap (λ y. is_some (value_at cmp y whole)) (sym is)
        ∙ ap is_some (sym (value-there k (get_or sorted k v) e (any-default sorted k v (get_or sorted k v) (place-seen (places.At k) e).0)))

    beside-is : (k : ℕ) (v : X) (b : Bool) → q ≡ key_of v → p ≡ places.Before k → b ≡ is_some (value_at cmp q others)
        → is_some (value_at cmp (key_of v) whole) ≡ b
    beside-is k v b is e b_is =
        ap (λ y. is_some (value_at cmp y whole)) (sym is) ∙ (ap is_some (sym (value-beside k (value_at cmp q others) e refl)) ∙ sym b_is)

    pub beside-some : (k : ℕ) (v : X) (b : Bool) → q ≡ key_of v → p ≡ places.Before k → b ≡ is_some (value_at cmp q others) → b ≡ true
        → is_some (value_at cmp (key_of v) whole) ≡ true
    beside-some k v b is e b_is h = beside-is k v b is e b_is ∙ h

    pub beside-none : (k : ℕ) (v : X) (b : Bool) → q ≡ key_of v → p ≡ places.Before k → b ≡ is_some (value_at cmp q others) → b ≡ false
        → value_at cmp (key_of v) whole ≡ None
    beside-none k v b is e b_is h = none (value_at cmp (key_of v) whole) (beside-is k v b is e b_is ∙ h)
      where
        none : (o : Option X) → is_some o ≡ false → o ≡ None
        none None n = refl
        none (Some x) n = absurd (false≢true (sym n))

  -- ---- all entries

  pub ascend-both : (sorted : List X) (others : List (K × X)) → AreApart cmp key_of sorted others → Ascend cmp (entries_of cmp key_of sorted others)
  ascend-both sorted others a = ascend-all cmp total others (with_keys key_of sorted) a.sorted_ascend

  pub keys-both : (sorted : List X) (others : List (K × X)) → AreApart cmp key_of sorted others → HaveTheirKeys key_of (entries_of cmp key_of sorted others)
  keys-both sorted others a =
      All-from_recursion (λ e. e.0 ≡ key_of e.1) (entries_of cmp key_of sorted others)
      (each-all cmp total (λ e. e.0 ≡ key_of e.1) others a.others_ascend (with_keys key_of sorted) a.apart a.others_keys (own-keys key_of sorted))

  pub values-alone : (sorted : List X) (others : List (K × X)) → length others ≡ 0 → sorted ≡ values_of (entries_of cmp key_of sorted others)
  values-alone sorted [] l = sym (values-of key_of sorted)
  values-alone sorted (o ∷ os) l = absurd (omega (arith, l))
