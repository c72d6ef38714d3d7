-- An invoice with one entry more, which may be added, is an invoice.
use Rattle.std.proofs.Common.{◌≡◌, ℕ, ◌+◌, ◌-◌, ◌≤◌, max, Bool, true, false, ◌&&◌, ◌||◌, List, [], ◌∷◌, ◌++◌, Option, Some, None, refl, sym, ap, ◌∙◌, ◌⊎◌, inl}
use Rattle.std.proofs.Common.{inr, zero, suc, arith}
use Rattle.std.specs.Prelude.{◌==◌, nat_le, fold, map, if◌then◌else◌, is_none, All}
use Rattle.std.specs.List.{list_all, list_any}
use Rattle.std.proofs.lemmas.Bool.{eqb-true}
use Rattle.std.proofs.lemmas.Bool.Decides.{nat_tests}
use Rattle.std.proofs.lemmas.List.Folds.{list_all-append, list_any-append}
use Rattle.std.proofs.lemmas.List.Elements.{All-append}
use Rattle.term_table.specs.declared.groups.Group.{Group}
use Rattle.term_table.specs.declared.contexts.Slot.{Slot}
use Rattle.term_table.specs.declared.contexts.Context.{Context}
use Rattle.inv_terms.specs.declared.entries.Entry.{Entry}
use Rattle.inv_terms.specs.declared.listing.Refusal.TheVariants as refusals
use Rattle.term_table.specs.Groups.{same_group}
use Rattle.term_table.specs.Contexts.{same_slot, is_inside}
use Rattle.inv_terms.specs.Listing.{comes_before, index_in, last_outer, last_inner, is_listed, is_last_or_next, is_next, is_behind, is_behind_last, last_entry}
use Rattle.inv_terms.specs.Listing.{is_placed, refusal, occurs, is_counted, in_outer, in_inner, is_numbered, IsInvoice, Fits}
use Rattle.term_table.proofs.GroupLemmas.{same_group_is}
use Rattle.term_table.proofs.GroupLemmas.{both}
use Rattle.inv_terms.proofs.ListingLemmas.{comes_before-trans}
use Rattle.inv_terms.proofs.PushLemmas.{same_slot_is, same_slot_itself, slot_is, index_inside, by_last, and_pair, last_behind, last_entry-append}

-- ---- the order

listed-append : (es : List Entry) (e : Entry) → is_listed es ≡ true → list_all (λ (f : Entry). comes_before f e) es ≡ true → is_listed (es ++ e ∷ []) ≡ true
listed-append [] e h k = refl
listed-append (f ∷ es) e h k =
    let p = both (list_all (comes_before f) es) _ h in
    let q = both (comes_before f e) _ k in
    and_pair _ _ (list_all-append (comes_before f) es (e ∷ []) ∙ and_pair _ _ p.0 (and_pair _ _ q.0 refl)) (listed-append es e p.1 q.1)

all_before : (l e : Entry) (es : List Entry) → comes_before l e ≡ true → list_all (λ (f : Entry). comes_before f l) es ≡ true →
    list_all (λ (f : Entry). comes_before f e) es ≡ true
all_before l e [] h k = refl
all_before l e (f ∷ es) h k =
    let p = both (comes_before f l) _ k in
    and_pair _ _ (comes_before-trans f l e p.0 h) (all_before l e es h p.1)

all_behind : (es : List Entry) (e : Entry) → is_listed es ≡ true → is_behind es e ≡ true → list_all (λ (f : Entry). comes_before f e) es ≡ true
all_behind es e h k = elim (by_last es) [
  | inl none ↦ rw none refl
  | inr w ↦
      let b : comes_before w.1 e ≡ true = sym (ap (λ o. is_behind_last o e) (ap last_entry w.2 ∙ last_entry-append w.0 w.1)) ∙ k in
      let p = last_behind w.0 w.1 (ap is_listed (sym w.2) ∙ h) in
      ap (list_all (λ (f : Entry). comes_before f e)) w.2 ∙ (list_all-append (λ (f : Entry). comes_before f e) w.0 (w.1 ∷ [])
      ∙ and_pair _ _ (all_before w.1 e w.0 b p) (and_pair _ _ b refl))
]

-- ---- entries of a list

record Member (f : Entry) (es : List Entry) : Type 0 where
  passes : (p : Entry → Bool) → list_all p es ≡ true → p f ≡ true
  shows : (p : Entry → Bool) → p f ≡ true → list_any p es ≡ true

or_left : (a b : Bool) → a ≡ true → (a || b) ≡ true
or_left a b h = rw h refl

or_right : (a b : Bool) → b ≡ true → (a || b) ≡ true
or_right true b h = refl
or_right false b h = h

here : (f : Entry) (es : List Entry) → Member f (f ∷ es)
here f es = record { passes = λ p h. (both (p f) _ h).0; shows = λ p h. or_left (p f) _ h }

there : (f e : Entry) (es : List Entry) → Member f es → Member f (e ∷ es)
there f e es m = record { passes = λ p h. m.passes p (both (p e) _ h).1; shows = λ p h. or_right (p e) _ (m.shows p h) }

max_cases : (a b : ℕ) → (max a b ≡ a) ⊎ (max a b ≡ b)
max_cases a b = grind arith

-- The greatest is that of an entry, or what it began with.
attained : (h : Entry → ℕ) (es : List Entry) (a : ℕ) → (fold max a (map h es) ≡ a) ⊎ ((f : Entry) × Member f es × (h f ≡ fold max a (map h es)))
attained h [] a = inl refl
attained h (e ∷ es) a = elim (attained h es (max a (h e))) [
  | inl same ↦ elim (max_cases a (h e)) [ inl l ↦ inl (same ∙ l) | inr r ↦ inr (e, here e es, sym (same ∙ r)) ]
  | inr w ↦ inr (w.0, there w.0 e es w.1, w.2)
]

greatest_of : (h : Entry → ℕ) (es : List Entry) (n : ℕ) → fold max 0 (map h es) ≡ n → 1 ≤ n → (f : Entry) × Member f es × (h f ≡ n)
greatest_of h es n e k = elim (attained h es 0) [ inl z ↦ absurd (omega (arith, z, e, k)) | inr w ↦ (w.0, w.1, w.2 ∙ e) ]

-- ---- numbers of occurrences

slot_with : (o : Option Slot) (g : Group) (n : ℕ) → index_in g o ≡ n → 1 ≤ n → (t : Slot) × (o ≡ Some t) × (t.group ≡ g) × (t.index ≡ n)
slot_with None g n e k = absurd (omega arith)
slot_with (Some t) g n e k = go (same_group t.group g) refl
  where
    go : (b : Bool) → same_group t.group g ≡ b → (u : Slot) × (Some t ≡ Some u) × (u.group ≡ g) × (u.index ≡ n)
    go true h = (t, refl, same_group_is _ _ h, sym (ap (λ b. if b then t.index else 0) h) ∙ e)
    go false h = absurd (let z : 0 ≡ n = sym (ap (λ b. if b then t.index else 0) h) ∙ e in omega arith)

pub either : (a b : Bool) → (a || b) ≡ true → (a ≡ true) ⊎ (b ≡ true)
either true b h = inl refl
either false b h = inr h

pub one_or_more : (i : ℕ) → 1 ≤ i → (i ≡ 1) ⊎ (2 ≤ i)
one_or_more i h = grind arith

-- a slot from the second on, which is counted, has one before it
earlier_of : (es : List Entry) (around : Slot → Context) (s : Slot) → 2 ≤ s.index → is_counted es around (Some s) ≡ true →
    occurs es (around (record s { index = s.index - 1 })) ≡ true
earlier_of es around s two h = elim (either (s.index == 1) _ (both (nat_le 1 s.index) _ h).1) [
  | inl one ↦ absurd (let e = eqb-true s.index 1 one in omega (arith, e, two))
  | inr o ↦ o
]

-- Where the last occurrence is shown, and the one before it, the last and the next are counted.
counted_next : (es : List Entry) (around : Slot → Context) (s : Slot) (last : ℕ)
    → (1 ≤ last → occurs es (around (record s { index = last })) ≡ true)
    → (2 ≤ last → occurs es (around (record s { index = last - 1 })) ≡ true)
    → (nat_le 1 s.index && ((s.index == last) || (s.index == last + 1))) ≡ true → is_counted es around (Some s) ≡ true
counted_next es around s last found earlier h =
    let p = both (nat_le 1 s.index) _ h in
    and_pair _ _ p.0 (elim (cases s.index last p.0 p.1) [
      | inl one ↦ or_left _ _ one
      | inr (inl (same, two)) ↦ or_right _ _ (ap (λ n. occurs es (around (record s { index = n - 1 }))) same ∙ earlier two)
      | inr (inr (next, one)) ↦ or_right _ _ (ap (λ n. occurs es (around (record s { index = n }))) next ∙ found one)
    ])
  where
    cases : (i n : ℕ) → nat_le 1 i ≡ true → ((i == n) || (i == n + 1)) ≡ true → ((i == 1) ≡ true) ⊎ (((i ≡ n) × (2 ≤ n)) ⊎ ((i - 1 ≡ n) × (1 ≤ n)))
    cases i n h k =
        let least : 1 ≤ i = grind (arith, nat_tests) in
        elim (one_or_more i least) [
          | inl e ↦ inl (grind (arith, nat_tests))
          | inr two ↦ elim (either _ _ k) [
            | inl a ↦ inr (inl (eqb-true i n a, let e = eqb-true i n a in omega (arith, e, two)))
            | inr b ↦ let e = eqb-true i (n + 1) b in inr (inr (omega (arith, e, two), omega (arith, e, two)))
          ]
        ]

-- ---- a new entry

pub inside_outer : (s : Slot) (c : Context) → c.outer ≡ Some s → is_inside (in_outer s) c ≡ true
inside_outer s c h = and_pair (same_slot (Some s) c.outer) true (ap (same_slot (Some s)) h ∙ same_slot_itself (Some s)) refl

pub inside_inner : (outer : Option Slot) (s : Slot) (c : Context) → c.outer ≡ outer → c.inner ≡ Some s → is_inside (in_inner outer s) c ≡ true
inside_inner outer s c h k =
    and_pair (is_none outer || same_slot outer c.outer) (same_slot (Some s) c.inner)
    (or_right (is_none outer) _ (ap (same_slot outer) h ∙ same_slot_itself outer)) (ap (same_slot (Some s)) k ∙ same_slot_itself (Some s))

next_outer : (es : List Entry) (o : Option Slot) → is_numbered es ≡ true → is_last_or_next (last_outer es) o ≡ true → is_counted es in_outer o ≡ true
next_outer es None h k = refl
next_outer es (Some s) h k = counted_next es in_outer s n found (λ least. earlier_of es in_outer (record s { index = n }) least (counted (omega arith))) k
  where
    n : ℕ
    n = last_outer es s.group

    one : 1 ≤ n → (f : Entry) × Member f es × (f.context.outer ≡ Some (record s { index = n }))
    one least =
        let w = greatest_of (λ (e : Entry). index_in s.group e.context.outer) es n refl least in
        let t = slot_with w.0.context.outer s.group n w.2 least in
        (w.0, w.1, t.1 ∙ ap Some (slot_is t.0 (record s { index = n }) t.2 t.3))

    found : 1 ≤ n → occurs es (in_outer (record s { index = n })) ≡ true
    found least =
        let w = one least in
        w.1.shows (λ (f : Entry). is_inside (in_outer (record s { index = n })) f.context) (inside_outer (record s { index = n }) w.0.context w.2)

    counted : 1 ≤ n → is_counted es in_outer (Some (record s { index = n })) ≡ true
    counted least =
        let w = one least in
        ap (is_counted es in_outer) (sym w.2) ∙ (both (is_counted es in_outer w.0.context.outer) _ (w.1.passes _ h)).0

next_inner : (es : List Entry) (outer o : Option Slot) → is_numbered es ≡ true → is_last_or_next (last_inner es outer) o ≡ true →
    is_counted es (in_inner outer) o ≡ true
next_inner es outer None h k = refl
next_inner es outer (Some s) h k = counted_next es (in_inner outer) s n found
    (λ least. earlier_of es (in_inner outer) (record s { index = n }) least (counted (omega arith))) k
  where
    n : ℕ
    n = last_inner es outer s.group

    inside : (f : Entry) → index_inside outer s.group f ≡ n → 1 ≤ n → (f.context.outer ≡ outer) × (index_in s.group f.context.inner ≡ n)
    inside f e least = go (same_slot f.context.outer outer) refl
      where
        go : (b : Bool) → same_slot f.context.outer outer ≡ b → (f.context.outer ≡ outer) × (index_in s.group f.context.inner ≡ n)
        go true h = (same_slot_is _ _ h, sym (ap (λ b. if b then index_in s.group f.context.inner else 0) h) ∙ e)
        go false h = absurd (let z : 0 ≡ n = sym (ap (λ b. if b then index_in s.group f.context.inner else 0) h) ∙ e in omega (arith, z, least))

    one : 1 ≤ n → (f : Entry) × Member f es × (f.context.outer ≡ outer) × (f.context.inner ≡ Some (record s { index = n }))
    one least =
        let w = greatest_of (index_inside outer s.group) es n refl least in
        let i = inside w.0 w.2 least in
        let t = slot_with w.0.context.inner s.group n i.1 least in
        (w.0, w.1, i.0, t.1 ∙ ap Some (slot_is t.0 (record s { index = n }) t.2 t.3))

    found : 1 ≤ n → occurs es (in_inner outer (record s { index = n })) ≡ true
    found least =
        let w = one least in
        w.1.shows (λ (f : Entry). is_inside (in_inner outer (record s { index = n })) f.context)
        (inside_inner outer (record s { index = n }) w.0.context w.2 w.3)

    counted : 1 ≤ n → is_counted es (in_inner outer) (Some (record s { index = n })) ≡ true
    counted least =
        let w = one least in
        let c = (both (is_counted es in_outer w.0.context.outer) _ (w.1.passes _ h)).1 in
        ap (is_counted es (in_inner outer)) (sym w.3) ∙ (ap (λ x. is_counted es (in_inner x) w.0.context.inner) (sym w.2) ∙ c)

-- what is counted stays so with an entry more
counted-append : (es : List Entry) (e : Entry) (around : Slot → Context) (o : Option Slot) → is_counted es around o ≡ true →
    is_counted (es ++ e ∷ []) around o ≡ true
counted-append es e around None h = refl
counted-append es e around (Some s) h =
    let p = both (nat_le 1 s.index) _ h in
    and_pair _ _ p.0 (elim (either (s.index == 1) _ p.1) [
      | inl one ↦ or_left _ _ one
      | inr o ↦ or_right (s.index == 1) _ (list_any-append (λ (f : Entry). is_inside (around (record s { index = s.index - 1 })) f.context) es (e ∷ []) ∙
          or_left _ _ o)
    ])

all_counted : (es more : List Entry) (e : Entry) → list_all (λ (f : Entry). is_counted es in_outer f.context.outer &&
    is_counted es (in_inner f.context.outer) f.context.inner) more ≡ true
    → list_all (λ (f : Entry). is_counted (es ++ e ∷ []) in_outer f.context.outer && is_counted (es ++ e ∷ []) (in_inner f.context.outer) f.context.inner)
    more ≡ true
all_counted es [] e h = refl
all_counted es (f ∷ more) e h =
    let p = both (is_counted es in_outer f.context.outer && is_counted es (in_inner f.context.outer) f.context.inner) _ h in
    let q = both (is_counted es in_outer f.context.outer) _ p.0 in
    and_pair _ _ (and_pair _ _ (counted-append es e in_outer f.context.outer q.0) (counted-append es e (in_inner f.context.outer) f.context.inner q.1))
    (all_counted es more e p.1)

numbered-append : (es : List Entry) (e : Entry) → is_numbered es ≡ true → is_next es e.context ≡ true → is_numbered (es ++ e ∷ []) ≡ true
numbered-append es e h k =
    let p = both (is_last_or_next (last_outer es) e.context.outer) _ k in
    list_all-append (λ (f : Entry). is_counted (es ++ e ∷ []) in_outer f.context.outer && is_counted (es ++ e ∷ []) (in_inner f.context.outer) f.context.inner)
    es (e ∷ [])
    ∙ and_pair _ _ (all_counted es es e h) (and_pair _ _
    (and_pair _ _ (counted-append es e in_outer e.context.outer (next_outer es e.context.outer h p.0))
    (counted-append es e (in_inner e.context.outer) e.context.inner (next_inner es e.context.outer e.context.inner h p.1))) refl)

-- ---- the invoice

pub record Accepted (es : List Entry) (e : Entry) : Type 0 where
  pub placed : is_placed e ≡ true
  pub behind : is_behind es e ≡ true
  pub next : is_next es e.context ≡ true

pub accepted-from : (es : List Entry) (e : Entry) → refusal es e ≡ None → Accepted es e
accepted-from es e h = go (is_placed e) (is_behind es e) (is_next es e.context) refl refl refl h
  where
    go : (a b c : Bool) → is_placed e ≡ a → is_behind es e ≡ b → is_next es e.context ≡ c
        → (if a then (if b then (if c then None else Some refusals.BadContext) else Some refusals.OutOfOrder) else Some refusals.BadContext) ≡ None →
        Accepted es e
    go true true true p q r h = record { placed = p; behind = q; next = r }
    go true true false p q r h = cc
    go true false c p q r h = cc
    go false b c p q r h = cc

pub invoice-append : (es : List Entry) (e : Entry) → IsInvoice es → refusal es e ≡ None → Fits e.term e.value → IsInvoice (es ++ e ∷ [])
invoice-append es e i h f =
    let a = accepted-from es e h in
    record {
      placed = list_all-append is_placed es (e ∷ []) ∙ and_pair _ _ i.placed (and_pair _ _ a.placed refl);
      fit = All-append (λ (x : Entry). Fits x.term x.value) es (e ∷ []) i.fit (one_fits e f);
      listed = listed-append es e i.listed (all_behind es e i.listed a.behind);
      numbered = numbered-append es e i.numbered a.next;
    }
  where
    one_fits : (e : Entry) → Fits e.term e.value → All (λ (x : Entry). Fits x.term x.value) (e ∷ [])
    one_fits e f zero d k = f
    one_fits e f (suc n) d k = absurd (omega arith)

pub no_entries : IsInvoice []
no_entries = record { placed = refl; fit = λ k d l. absurd (omega arith); listed = refl; numbered = refl }
