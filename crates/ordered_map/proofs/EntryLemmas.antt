-- Entries put in one after the other: in any order they come to the same, ascend, and are found.
use Rattle.std.proofs.Common.{◌≡◌, Bool, true, false, cond, List, [], ◌∷◌, Option, Some, None, refl, sym, ap, ◌∙◌, Ordering}
use Rattle.std.specs.Cmp.{IsTotalOrder}
use Rattle.std.specs.Ordering.{is_eq, match_ordering, ordering_reverse}
use Rattle.std.specs.declared.cmp.Ordering.TheVariants.{Less, Equal, Greater}
use Rattle.std.specs.List.{AllByRecursion}
use Rattle.std.specs.List.Sorted.{IsStrictlySortedBy}
use Rattle.std.specs.Map.{keys_of, values_of, lookup}
use Rattle.std.specs.BTreeMap.{insert_entry, is_at}
use Rattle.std.proofs.lemmas.Bool.{false≢true}
use Rattle.std.proofs.lemmas.Cmp.{alike_right}
use Rattle.std.proofs.lemmas.Map.{NonePasses, none_passes_from_lookup}
use Rattle.std.proofs.lemmas.Map.Keys.{sorted_head, sorted_tail}
use Rattle.ordered_map.specs.Entries.{with_keys, value_at, put_all}

pub by_answer : {P : Type 0} (o : Ordering) → (o ≡ Less → P) → (o ≡ Equal → P) → (o ≡ Greater → P) → P
by_answer Less l e g = l refl
by_answer Equal l e g = e refl
by_answer Greater l e g = g refl

pub by_test : {P : Type 0} (b : Bool) → (b ≡ true → P) → (b ≡ false → P) → P
by_test true t f = t refl
by_test false t f = f refl

pub each-weaker : {X : Type 0} {P Q : X → Type 0} → ((x : X) → P x → Q x) → (xs : List X) → AllByRecursion P xs → AllByRecursion Q xs
each-weaker f [] h = tt
each-weaker f (x ∷ xs) h = (f x h.0, each-weaker f xs h.1)

abbrev pub or_else : {X : Type 0} → Option X → Option X → Option X
or_else None other = other
or_else (Some x) other = Some x

module _ {K : Type 0} {cmp : K → K → Ordering} (total : IsTotalOrder cmp) where
  pub less-back : (a b : K) → cmp a b ≡ Less → cmp b a ≡ Greater
  less-back a b h = total.antisymm b a ∙ ap ordering_reverse h

  pub greater-back : (a b : K) → cmp a b ≡ Greater → cmp b a ≡ Less
  greater-back a b h = total.antisymm b a ∙ ap ordering_reverse h

  pub greater-trans : (a b c : K) → cmp a b ≡ Greater → cmp b c ≡ Greater → cmp a c ≡ Greater
  greater-trans a b c h k = less-back c a (total.trans c b a (greater-back b c k) (greater-back a b h))

  pub other-back : (a b : K) → is_eq (cmp a b) ≡ false → is_eq (cmp b a) ≡ false
  other-back a b h = by_answer (cmp a b) (λ l. ap is_eq (less-back a b l)) (λ e. absurd (false≢true (sym h ∙ ap is_eq e))) (λ g. ap is_eq (greater-back a b g))

module _ {K X : Type 0} (cmp : K → K → Ordering) where
  abbrev pub Ascend : List (K × X) → Type 0
  Ascend es = IsStrictlySortedBy cmp (keys_of es)

  abbrev pub Lacks : K → List (K × X) → Type 0
  Lacks k es = value_at cmp k es ≡ None

  pub ascend-cons : (e : K × X) (es : List (K × X)) → AllByRecursion (λ y. cmp e.0 y ≡ Less) (keys_of es) → Ascend es → Ascend (e ∷ es)
  unfolding IsStrictlySortedBy
  ascend-cons e es h s = (h, s)

  pub ascend-one : (e : K × X) → Ascend (e ∷ [])
  unfolding IsStrictlySortedBy
  ascend-one e = (tt, tt)

  pub above-head : (e : K × X) (es : List (K × X)) → Ascend (e ∷ es) → AllByRecursion (λ f. cmp e.0 f.0 ≡ Less) es
  above-head e es s = of_keys es (sorted_head cmp e.0 (keys_of es) s)
    where
      of_keys : (fs : List (K × X)) → AllByRecursion (λ y. cmp e.0 y ≡ Less) (keys_of fs) → AllByRecursion (λ f. cmp e.0 f.0 ≡ Less) fs
      of_keys [] h = tt
      of_keys (f ∷ fs) h = (h.0, of_keys fs h.1)

  -- ---- one entry put in

  module _ (e : K × X) (es : List (K × X)) (k : K) (v : X) where
    pub put-less : cmp k e.0 ≡ Less → insert_entry cmp (e ∷ es) k v ≡ (k, v) ∷ (e ∷ es)
    put-less h = ap (λ o. match_ordering o ((k, v) ∷ (e ∷ es)) ((e.0, v) ∷ es) (e ∷ insert_entry cmp es k v)) h

    pub put-equal : cmp k e.0 ≡ Equal → insert_entry cmp (e ∷ es) k v ≡ (e.0, v) ∷ es
    put-equal h = ap (λ o. match_ordering o ((k, v) ∷ (e ∷ es)) ((e.0, v) ∷ es) (e ∷ insert_entry cmp es k v)) h

    pub put-greater : cmp k e.0 ≡ Greater → insert_entry cmp (e ∷ es) k v ≡ e ∷ insert_entry cmp es k v
    put-greater h = ap (λ o. match_ordering o ((k, v) ∷ (e ∷ es)) ((e.0, v) ∷ es) (e ∷ insert_entry cmp es k v)) h

  -- what holds of all keys
  pub keys-put : (P : K → Type 0) (k : K) (v : X) (es : List (K × X)) → P k → AllByRecursion (λ e. P e.0) es
      → AllByRecursion (λ e. P e.0) (insert_entry cmp es k v)
  keys-put P k v [] p h = (p, tt)
  keys-put P k v (e ∷ es) p h = step (cmp k e.0) (keys-put P k v es p h.1)
    where
      step : (o : Ordering) → AllByRecursion (λ (f : K × X). P f.0) (insert_entry cmp es k v)
          → AllByRecursion (λ (f : K × X). P f.0) (match_ordering o ((k, v) ∷ (e ∷ es)) ((e.0, v) ∷ es) (e ∷ insert_entry cmp es k v))
      step Less later = (p, h)
      step Equal later = h
      step Greater later = (h.0, later)

  -- what holds of all entries, and of the new one where its key is new
  pub entries-put : (P : K × X → Type 0) (k : K) (v : X) (es : List (K × X)) → NonePasses (is_at (cmp k)) es → P (k, v) → AllByRecursion P es
      → AllByRecursion P (insert_entry cmp es k v)
  entries-put P k v [] n p h = (p, tt)
  entries-put P k v (e ∷ es) n p h = step (cmp k e.0) n.0 (entries-put P k v es n.1 p h.1)
    where
      step : (o : Ordering) → is_eq o ≡ false → AllByRecursion P (insert_entry cmp es k v)
          → AllByRecursion P (match_ordering o ((k, v) ∷ (e ∷ es)) ((e.0, v) ∷ es) (e ∷ insert_entry cmp es k v))
      step Less m later = (p, h)
      step Equal m later = absurd (false≢true (sym m))
      step Greater m later = (h.0, later)

  module _ (total : IsTotalOrder cmp) where
    -- ---- two entries put in either order

    either-order : (a b : K) (v w : X) → cmp a b ≡ Less → (es : List (K × X))
        → insert_entry cmp (insert_entry cmp es b w) a v ≡ insert_entry cmp (insert_entry cmp es a v) b w
    either-order a b v w h [] = put-less (b, w) [] a v h ∙ sym (put-greater (a, v) [] b w (less-back total a b h))
    either-order a b v w h (o ∷ es) =
        let back : cmp b a ≡ Greater = less-back total a b h in
        by_answer (cmp b o.0)
        (λ bo.
        let ao : cmp a o.0 ≡ Less = total.trans a b o.0 h bo in
        (ap (λ l. insert_entry cmp l a v) (put-less o es b w bo) ∙ put-less (b, w) (o ∷ es) a v h)
        ∙ sym (ap (λ l. insert_entry cmp l b w) (put-less o es a v ao) ∙ (put-greater (a, v) (o ∷ es) b w back ∙ ap (λ l. (a, v) ∷ l) (put-less o es b w bo))))
        (λ bo.
        let ao : cmp a o.0 ≡ Less = sym (alike_right total b o.0 a bo) ∙ h in
        (ap (λ l. insert_entry cmp l a v) (put-equal o es b w bo) ∙ put-less (o.0, w) es a v ao)
        ∙ sym (ap (λ l. insert_entry cmp l b w) (put-less o es a v ao) ∙ (put-greater (a, v) (o ∷ es) b w back ∙ ap (λ l. (a, v) ∷ l) (put-equal o es b w bo))))
        (λ bo. by_answer (cmp a o.0)
        (λ ao.
        (ap (λ l. insert_entry cmp l a v) (put-greater o es b w bo) ∙ put-less o (insert_entry cmp es b w) a v ao)
        ∙ sym (ap (λ l. insert_entry cmp l b w) (put-less o es a v ao)
        ∙ (put-greater (a, v) (o ∷ es) b w back ∙ ap (λ l. (a, v) ∷ l) (put-greater o es b w bo))))
        (λ ao.
        (ap (λ l. insert_entry cmp l a v) (put-greater o es b w bo) ∙ put-equal o (insert_entry cmp es b w) a v ao)
        ∙ sym (ap (λ l. insert_entry cmp l b w) (put-equal o es a v ao) ∙ put-greater (o.0, v) es b w bo))
        (λ ao.
        (ap (λ l. insert_entry cmp l a v) (put-greater o es b w bo) ∙ put-greater o (insert_entry cmp es b w) a v ao)
        ∙ (ap (λ l. o ∷ l) (either-order a b v w h es)
        ∙ sym (ap (λ l. insert_entry cmp l b w) (put-greater o es a v ao) ∙ put-greater o (insert_entry cmp es a v) b w bo))))

    pub commutes : (a b : K) (v w : X) → is_eq (cmp a b) ≡ false → (es : List (K × X))
        → insert_entry cmp (insert_entry cmp es b w) a v ≡ insert_entry cmp (insert_entry cmp es a v) b w
    commutes a b v w n es = by_answer (cmp a b)
        (λ h. either-order a b v w h es)
        (λ e. absurd (false≢true (sym n ∙ ap is_eq e)))
        (λ g. sym (either-order b a w v (greater-back total a b g) es))

    -- ---- one more, before the others or among them

    pub put-before : (k : K) (v : X) (os : List (K × X)) → NonePasses (is_at (cmp k)) os → (es : List (K × X))
        → put_all cmp (insert_entry cmp es k v) os ≡ insert_entry cmp (put_all cmp es os) k v
    put-before k v [] n es = refl
    put-before k v (o ∷ os) n es = ap (λ l. put_all cmp l os) (sym (commutes k o.0 v o.1 n.0 es)) ∙ put-before k v os n.1 (insert_entry cmp es o.0 o.1)

    pub put-among : (k : K) (v : X) (os : List (K × X)) → NonePasses (is_at (cmp k)) os → (es : List (K × X))
        → put_all cmp es (insert_entry cmp os k v) ≡ insert_entry cmp (put_all cmp es os) k v
    put-among k v [] n es = refl
    put-among k v (o ∷ os) n es = by_answer (cmp k o.0)
        (λ h. ap (put_all cmp es) (put-less o os k v h) ∙ put-before k v (o ∷ os) n es)
        (λ e. absurd (false≢true (sym n.0 ∙ ap is_eq e)))
        (λ h. ap (put_all cmp es) (put-greater o os k v h) ∙ put-among k v os n.1 (insert_entry cmp es o.0 o.1))

    -- ---- looked up

    pub value-put : (q k : K) (v : X) (es : List (K × X)) → value_at cmp q (insert_entry cmp es k v) ≡ cond (is_eq (cmp q k)) (Some v) (value_at cmp q es)
    value-put q k v [] = refl
    value-put q k v (e ∷ es) = by_answer (cmp k e.0)
        (λ h. ap (value_at cmp q) (put-less e es k v h))
        (λ h. ap (value_at cmp q) (put-equal e es k v h)
        ∙ (ap (λ o. cond (is_eq o) (Some v) (value_at cmp q es)) (sym (alike_right total k e.0 q h))
        ∙ once (is_eq (cmp q k)) (is_eq (cmp q e.0)) (ap is_eq (alike_right total k e.0 q h))))
        (λ h. ap (value_at cmp q) (put-greater e es k v h)
        ∙ (ap (λ l. cond (is_eq (cmp q e.0)) (Some e.1) l) (value-put q k v es) ∙ turned (cmp q e.0) h refl))
      where
        once : (a b : Bool) → a ≡ b → cond a (Some v) (value_at cmp q es) ≡ cond a (Some v) (cond b (Some e.1) (value_at cmp q es))
        once a b i = by_test a
            (λ t. ap (λ x. cond x (Some v) (value_at cmp q es)) t ∙ sym (ap (λ x. cond x (Some v) (cond b (Some e.1) (value_at cmp q es))) t))
            (λ f. sym (ap (λ x. cond a (Some v) (cond x (Some e.1) (value_at cmp q es))) (sym i ∙ f)))

        turned : (o : Ordering) → cmp k e.0 ≡ Greater → cmp q e.0 ≡ o
            → cond (is_eq o) (Some e.1) (cond (is_eq (cmp q k)) (Some v) (value_at cmp q es))
            ≡ cond (is_eq (cmp q k)) (Some v) (cond (is_eq o) (Some e.1) (value_at cmp q es))
        turned Less g i = refl
        turned Equal g i = sym (ap (λ x. cond (is_eq x) (Some v) (Some e.1)) (total.congr q e.0 k i ∙ greater-back total k e.0 g))
        turned Greater g i = refl

    pub lacks-put : (q k : K) (v : X) (es : List (K × X)) → is_eq (cmp q k) ≡ false → Lacks q es → Lacks q (insert_entry cmp es k v)
    lacks-put q k v es n h = value-put q k v es ∙ (ap (λ b. cond b (Some v) (value_at cmp q es)) n ∙ h)

    value-alike : (q k : K) (es : List (K × X)) → cmp q k ≡ Equal → value_at cmp q es ≡ value_at cmp k es
    value-alike q k es h = ap (λ (t : K → Bool). lookup t es) (λ i z. is_eq (total.congr q k z h i))

    -- the keys of others that ascend are new where one of them was put in
    pub still-apart : (o : K × X) (os es : List (K × X)) → Ascend (o ∷ os) → AllByRecursion (λ e. Lacks e.0 es) os
        → AllByRecursion (λ e. Lacks e.0 (insert_entry cmp es o.0 o.1)) os
    still-apart o os es s h = both os (above-head o os s) h
      where
        both : (fs : List (K × X)) → AllByRecursion (λ f. cmp o.0 f.0 ≡ Less) fs → AllByRecursion (λ e. Lacks e.0 es) fs
            → AllByRecursion (λ e. Lacks e.0 (insert_entry cmp es o.0 o.1)) fs
        both [] l a = tt
        both (f ∷ fs) l a = (lacks-put f.0 o.0 o.1 es (ap is_eq (less-back total o.0 f.0 l.0)) a.0, both fs l.1 a.1)

    none-else : (a : Option X) → a ≡ or_else a None
    none-else None = refl
    none-else (Some x) = refl

    pub value-all : (q : K) (os : List (K × X)) → Ascend os → (es : List (K × X)) → AllByRecursion (λ o. Lacks o.0 es) os
        → value_at cmp q (put_all cmp es os) ≡ or_else (value_at cmp q es) (value_at cmp q os)
    value-all q [] s es h = none-else (value_at cmp q es)
    value-all q (o ∷ os) s es h =
        value-all q os (sorted_tail cmp o.0 (keys_of os) s) (insert_entry cmp es o.0 o.1) (still-apart o os es s h.1)
        ∙ (ap (λ a. or_else a (value_at cmp q os)) (value-put q o.0 o.1 es) ∙ step (cmp q o.0) refl)
      where
        step : (r : Ordering) → cmp q o.0 ≡ r → or_else (cond (is_eq r) (Some o.1) (value_at cmp q es)) (value_at cmp q os)
            ≡ or_else (value_at cmp q es) (cond (is_eq r) (Some o.1) (value_at cmp q os))
        step Less i = refl
        step Equal i = sym (ap (λ a. or_else a (Some o.1)) (value-alike q o.0 es i ∙ h.0))
        step Greater i = refl

    -- ---- in order

    pub ascend-put : (k : K) (v : X) (es : List (K × X)) → Ascend es → Ascend (insert_entry cmp es k v)
    ascend-put k v [] s = ascend-one (k, v)
    ascend-put k v (e ∷ es) s = step (cmp k e.0) refl (ascend-put k v es (sorted_tail cmp e.0 (keys_of es) s))
      where
        to_keys : (P : K → Type 0) (fs : List (K × X)) → AllByRecursion (λ f. P f.0) fs → AllByRecursion P (keys_of fs)
        to_keys P [] h = tt
        to_keys P (f ∷ fs) h = (h.0, to_keys P fs h.1)

        step : (o : Ordering) → cmp k e.0 ≡ o → Ascend (insert_entry cmp es k v)
            → Ascend (match_ordering o ((k, v) ∷ (e ∷ es)) ((e.0, v) ∷ es) (e ∷ insert_entry cmp es k v))
        step Less i later = ascend-cons (k, v) (e ∷ es)
            (i, to_keys (λ y. cmp k y ≡ Less) es (each-weaker (λ f h. total.trans k e.0 f.0 i h) es (above-head e es s))) s
        step Equal i later = ascend-cons (e.0, v) es (sorted_head cmp e.0 (keys_of es) s) (sorted_tail cmp e.0 (keys_of es) s)
        step Greater i later =
            ascend-cons e (insert_entry cmp es k v) (to_keys (λ y. cmp e.0 y ≡ Less) (insert_entry cmp es k v)
            (keys-put (λ y. cmp e.0 y ≡ Less) k v es (greater-back total k e.0 i) (above-head e es s)))
            later

    pub ascend-all : (os es : List (K × X)) → Ascend es → Ascend (put_all cmp es os)
    ascend-all [] es s = s
    ascend-all (o ∷ os) es s = ascend-all os (insert_entry cmp es o.0 o.1) (ascend-put o.0 o.1 es s)

    -- each entry has what the entries and the others have
    pub each-all : (P : K × X → Type 0) (os : List (K × X)) → Ascend os → (es : List (K × X)) → AllByRecursion (λ o. Lacks o.0 es) os
        → AllByRecursion P os → AllByRecursion P es
        → AllByRecursion P (put_all cmp es os)
    each-all P [] s es a h k = k
    each-all P (o ∷ os) s es a h k =
        each-all P os (sorted_tail cmp o.0 (keys_of os) s) (insert_entry cmp es o.0 o.1) (still-apart o os es s a.1) h.1
        (entries-put P o.0 o.1 es (none_passes_from_lookup (is_at (cmp o.0)) es a.0) h.0 k)

    -- what is below all others stays in front
    pub in-front : (e : K × X) (os : List (K × X)) → AllByRecursion (λ o. cmp o.0 e.0 ≡ Greater) os → (es : List (K × X))
        → put_all cmp (e ∷ es) os ≡ e ∷ put_all cmp es os
    in-front e [] h es = refl
    in-front e (o ∷ os) h es = ap (λ l. put_all cmp l os) (put-greater e es o.0 o.1 h.0) ∙ in-front e os h.1 (insert_entry cmp es o.0 o.1)

module _ {K X : Type 0} (key_of : X → K) where
  pub values-of : (xs : List X) → values_of (with_keys key_of xs) ≡ xs
  values-of [] = refl
  values-of (x ∷ xs) = ap (λ l. x ∷ l) (values-of xs)

  pub own-keys : (xs : List X) → AllByRecursion (λ (e : K × X). e.0 ≡ key_of e.1) (with_keys key_of xs)
  own-keys [] = tt
  own-keys (x ∷ xs) = (refl, own-keys xs)
