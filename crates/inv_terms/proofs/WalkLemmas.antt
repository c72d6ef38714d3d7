-- The entries of a context stand together, from its first one on.
use Rattle.std.proofs.Common.{◌≡◌, ℕ, ◌+◌, Bool, true, false, ◌||◌, List, [], ◌∷◌, ◌++◌, Option, Some, None, refl, sym, ap, ◌∙◌, subst, ◌⊎◌, inl, inr, suc}
use Rattle.std.proofs.Common.{append_assoc, arith}
use Rattle.std.specs.Prelude.{not, filter, fold, map, is_none, is_some, if◌then◌else◌}
use Rattle.std.specs.List.{list_all, prefix_len, take_while}
use Rattle.std.proofs.lemmas.Bool.{false≢true}
use Rattle.std.proofs.lemmas.List.Sums.{fold-append}
use Rattle.std.proofs.lemmas.List.{map-append}
use Rattle.std.proofs.lemmas.List.Folds.{list_all-append}
use Rattle.term_table.specs.declared.contexts.Slot.{Slot}
use Rattle.term_table.specs.declared.contexts.Context.{Context}
use Rattle.inv_terms.specs.declared.entries.Entry.{Entry}
use Rattle.inv_terms.specs.declared.violations.ModelViolation.{ModelViolation}
use Rattle.term_table.specs.Contexts.{same_slot, same_context, is_inside, root_context, outer_context}
use Rattle.term_table.specs.Places.{seat_place}
use Rattle.inv_terms.specs.Listing.{comes_before, is_listed, is_placed, seat_of, IsInvoice}
use Rattle.inv_terms.specs.Lacking.{first_missing}
use Rattle.inv_terms.specs.Validity.{missing_in, opens_outer, opens_inner, contexts_behind, contexts, earlier}
use Rattle.inv_terms.specs.Opened.{opened_missing}
use Rattle.term_table.proofs.GroupLemmas.{both}
use Rattle.term_table.proofs.SeatLemmas.{at-place}
use Rattle.inv_terms.proofs.ListingLemmas.{At, outer_slot, outer-between, inner-between, orders-from}
use Rattle.inv_terms.proofs.PushLemmas.{same_slot_is, same_slot_itself, slot_is, by_last, and_pair, last_behind}
use Rattle.inv_terms.proofs.InvoiceLemmas.{inside_outer, inside_inner}

-- ---- entries that pass a test, in a list in order

-- what lies between two entries that pass, passes
record IsConvex (p : Entry → Bool) : Type 0 where
  middle : (x y z : Entry) → comes_before x y ≡ true → comes_before y z ≡ true → p x ≡ true → p z ≡ true → p y ≡ true

bool_cases : (b : Bool) → (b ≡ true) ⊎ (b ≡ false)
bool_cases true = inl refl
bool_cases false = inr refl

-- behind one that doesn't pass, none does
none_behind : (p : Entry → Bool) → IsConvex p → (d x : Entry) → comes_before d x ≡ true → p d ≡ true → p x ≡ false
    → (es : List Entry) → list_all (comes_before x) es ≡ true → filter p es ≡ []
none_behind p c d x h pd px [] k = refl
none_behind p c d x h pd px (e ∷ es) k =
    let q = both (comes_before x e) _ k in
    elim (bool_cases (p e)) [
      | inl pe ↦ absurd (false≢true (sym px ∙ c.middle d x e h q.0 pd pe))
      | inr pe ↦ rw pe (none_behind p c d x h pd px es q.1)
    ]

-- behind one that passes, those that pass stand together
front_passes : (p : Entry → Bool) → IsConvex p → (d : Entry) → p d ≡ true → (es : List Entry) → list_all (comes_before d) es ≡ true → is_listed es ≡ true
    → filter p es ≡ take_while p es
front_passes p c d pd [] k l = refl
front_passes p c d pd (e ∷ es) k l =
    let q = both (comes_before d e) _ k in
    let r = both (list_all (comes_before e) es) _ l in
    elim (bool_cases (p e)) [
      | inl pe ↦
          let n : 1 + prefix_len p es ≡ suc (prefix_len p es) = omega arith in
          rw (pe, n) (ap (λ x. e ∷ x) (front_passes p c e pe es r.0 r.1))
      | inr pe ↦ rw pe (none_behind p c d e q.0 pd pe es r.0)
    ]

first_passes : (p : Entry → Bool) → IsConvex p → (e : Entry) → p e ≡ true → (es : List Entry) → is_listed (e ∷ es) ≡ true →
    filter p (e ∷ es) ≡ take_while p (e ∷ es)
first_passes p c e pe es l =
    let r = both (list_all (comes_before e) es) _ l in
    let n : 1 + prefix_len p es ≡ suc (prefix_len p es) = omega arith in
    rw (pe, n) (ap (λ x. e ∷ x) (front_passes p c e pe es r.0 r.1))

-- before one that doesn't pass, which comes before one that does, none passes
none_before : (p : Entry → Bool) → IsConvex p → (l e : Entry) → comes_before l e ≡ true → p l ≡ false → p e ≡ true
    → (es : List Entry) → list_all (λ (f : Entry). comes_before f l) es ≡ true → filter p (es ++ l ∷ []) ≡ []
none_before p c l e h pl pe [] k = rw pl refl
none_before p c l e h pl pe (f ∷ es) k =
    let q = both (comes_before f l) _ k in
    elim (bool_cases (p f)) [
      | inl pf ↦ absurd (false≢true (sym pl ∙ c.middle f l e q.0 h pf pe))
      | inr pf ↦ rw pf (none_before p c l e h pl pe es q.1)
    ]

filter-append : (p : Entry → Bool) (xs ys : List Entry) → filter p (xs ++ ys) ≡ filter p xs ++ filter p ys
filter-append p [] ys = refl
filter-append p (x ∷ xs) ys = elim (bool_cases (p x)) [
  | inl h ↦ rw h (ap (λ z. x ∷ z) (filter-append p xs ys))
  | inr h ↦ rw h (filter-append p xs ys)
]

listed_back : (xs ys : List Entry) → is_listed (xs ++ ys) ≡ true → is_listed ys ≡ true
listed_back [] ys h = h
listed_back (x ∷ xs) ys h = listed_back xs ys (both (list_all (comes_before x) (xs ++ ys)) _ h).1

-- ---- the contexts of a slot

inside : Context → Entry → Bool
inside context e = is_inside context e.context

or_none : (s : Slot) (o : Option Slot) → (is_none (Some s) || same_slot (Some s) o) ≡ true → o ≡ Some s
or_none s o h = sym (same_slot_is (Some s) o h)

outer_convex : (s : Slot) → IsConvex (λ (e : Entry). is_inside (record { outer = Some s; inner = None }) e.context)
outer_convex s = record {
  middle = λ x y z h k px pz.
      let ox : x.context.outer ≡ Some s = or_none s _ (both (is_none (Some s) || same_slot (Some s) x.context.outer) true px).0 in
      let oz : z.context.outer ≡ Some s = or_none s _ (both (is_none (Some s) || same_slot (Some s) z.context.outer) true pz).0 in
      let w = outer-between x y z (orders-from x y z h k) s s ox oz refl in
      let i : w.slot.index ≡ s.index = omega (arith, w.above, w.below) in
      inside_outer s y.context (w.is ∙ ap Some (slot_is w.slot s w.group i));
}

inner_convex : (o s : Slot) → IsConvex (λ (e : Entry). is_inside (record { outer = Some o; inner = Some s }) e.context)
inner_convex o s = record {
  middle = λ x y z h k px pz.
      let qx = both (is_none (Some o) || same_slot (Some o) x.context.outer) (is_none (Some s) || same_slot (Some s) x.context.inner) px in
      let qz = both (is_none (Some o) || same_slot (Some o) z.context.outer) (is_none (Some s) || same_slot (Some s) z.context.inner) pz in
      let ox : x.context.outer ≡ Some o = or_none o _ qx.0 in
      let oz : z.context.outer ≡ Some o = or_none o _ qz.0 in
      let ix : x.context.inner ≡ Some s = or_none s _ qx.1 in
      let iz : z.context.inner ≡ Some s = or_none s _ qz.1 in
      let w = outer-between x y z (orders-from x y z h k) o o ox oz refl in
      let i : w.slot.index ≡ o.index = omega (arith, w.above, w.below) in
      let v = inner-between x y z (orders-from x y z h k) o s s ox oz ix iz refl in
      let j : v.slot.index ≡ s.index = omega (arith, v.above, v.below) in
      inside_inner (Some o) s y.context (w.is ∙ ap Some (slot_is w.slot o w.group i)) (v.is ∙ ap Some (slot_is v.slot s v.group j));
}

-- ---- the entries of a context that begins

-- the context of the last entry, the invoice itself before the first
pub last_context : List Entry → Context
last_context [] = root_context
last_context (e ∷ []) = e.context
last_context (e ∷ f ∷ es) = last_context (f ∷ es)

last_context-append : (es : List Entry) (l : Entry) → last_context (es ++ l ∷ []) ≡ l.context
unfolding last_context
last_context-append [] l = refl
last_context-append (e ∷ []) l = refl
last_context-append (e ∷ f ∷ es) l = last_context-append (f ∷ es) l

-- an entry in order behind others
comes_behind : (es : List Entry) (l e : Entry) (behind : List Entry) → is_listed ((es ++ l ∷ []) ++ e ∷ behind) ≡ true → comes_before l e ≡ true
comes_behind [] l e behind h = (both (comes_before l e) _ (both (list_all (comes_before l) (e ∷ behind)) _ h).0).0
comes_behind (f ∷ es) l e behind h = comes_behind es l e behind (both (list_all (comes_before f) ((es ++ l ∷ []) ++ e ∷ behind)) _ h).1

listed_front : (xs : List Entry) (ys : List Entry) → is_listed (xs ++ ys) ≡ true → is_listed xs ≡ true
listed_front [] ys h = refl
listed_front (x ∷ xs) ys h =
    let p = both (list_all (comes_before x) (xs ++ ys)) _ h in
    let q = both (list_all (comes_before x) xs) _ (sym (list_all-append (comes_before x) xs ys) ∙ p.0) in
    and_pair _ _ q.0 (listed_front xs ys p.1)

-- Where the last entry before doesn't pass, those that pass stand from this one on.
filter_from : (p : Entry → Bool) → IsConvex p → (pre : List Entry) (e : Entry) (behind : List Entry) → is_listed (pre ++ e ∷ behind) ≡ true → p e ≡ true
    → ((l : Entry) → last_context pre ≡ l.context → p l ≡ false) → filter p (pre ++ e ∷ behind) ≡ take_while p (e ∷ behind)
filter_from p c pre e behind h pe last = elim (by_last pre) [
  | inl none ↦
      let l : is_listed (e ∷ behind) ≡ true = listed_back pre (e ∷ behind) h in
      rw none (first_passes p c e pe behind l)
  | inr w ↦
      let l : is_listed (e ∷ behind) ≡ true = listed_back pre (e ∷ behind) h in
      let whole : is_listed ((w.0 ++ w.1 ∷ []) ++ e ∷ behind) ≡ true = ap (λ x. is_listed (x ++ e ∷ behind)) (sym w.2) ∙ h in
      let pl : p w.1 ≡ false = last w.1 (ap last_context w.2 ∙ last_context-append w.0 w.1) in
      let before = last_behind w.0 w.1 (listed_front (w.0 ++ w.1 ∷ []) (e ∷ behind) whole) in
      let none : filter p pre ≡ [] = ap (filter p) w.2 ∙ none_before p c w.1 e (comes_behind w.0 w.1 e behind whole) pl pe w.0 before in
      filter-append p pre (e ∷ behind) ∙ (ap (λ x. x ++ filter p (e ∷ behind)) none ∙ first_passes p c e pe behind l)
]

-- ---- what is missing in a context that begins

not_true : (b : Bool) → not b ≡ true → b ≡ false
not_true true h = sym h
not_true false h = refl

false_unless : (b : Bool) → (b ≡ true → false ≡ true) → b ≡ false
false_unless true h = sym (h refl)
false_unless false h = refl

no_slot : (o : Option Slot) → is_some o ≡ true → (s : Slot) × (o ≡ Some s)
no_slot None h = absurd (false≢true h)
no_slot (Some s) h = (s, refl)

module _ (pre : List Entry) (e : Entry) (behind : List Entry) (before : Context) (h : is_listed (pre ++ e ∷ behind) ≡ true)
    (b : before ≡ last_context pre) where
  missing_outer : opens_outer before e.context ≡ true → missing_in (pre ++ e ∷ behind) (outer_context e.context) ≡ opened_missing (e ∷ behind)
      (outer_context e.context)
  missing_outer opens =
      let q = both (not (same_slot before.outer e.context.outer)) _ opens in
      let s = no_slot e.context.outer q.1 in
      let new : same_slot before.outer e.context.outer ≡ false = not_true _ q.0 in
      let c : Context = record { outer = Some s.0; inner = None } in
      let same : outer_context e.context ≡ c = ap (λ (o : Option Slot). record { outer = o; inner = None }) s.1 in
      let p : Entry → Bool = λ (f : Entry). is_inside c f.context in
      let f = filter_from p (outer_convex s.0) pre e behind h (inside_outer s.0 e.context s.1) (λ l at. false_unless (p l) (λ pl.
      let lo : l.context.outer ≡ Some s.0 = or_none s.0 _ (both (is_none (Some s.0) || same_slot (Some s.0) l.context.outer) true pl).0 in
      let bo : before.outer ≡ e.context.outer = ap (λ (x : Context). x.outer) (b ∙ at) ∙ (lo ∙ sym s.1) in
      sym new ∙ (ap (λ x. same_slot x e.context.outer) bo ∙ same_slot_itself e.context.outer))) in
      ap (missing_in (pre ++ e ∷ behind)) same ∙ (ap (λ x. first_missing (map seat_of x) c) f ∙ sym (ap (opened_missing (e ∷ behind)) same))

  missing_inner : At e → opens_inner before e.context ≡ true → missing_in (pre ++ e ∷ behind) e.context ≡ opened_missing (e ∷ behind) e.context
  missing_inner at_e opens =
      let q = both (not (same_context before e.context)) _ opens in
      let s = no_slot e.context.inner q.1 in
      let o = outer_slot e at_e s.0 s.1 in
      let new : same_context before e.context ≡ false = not_true _ q.0 in
      let c : Context = record { outer = Some o.0; inner = Some s.0 } in
      let same : e.context ≡ c = context_is e.context o.0 s.0 o.1 s.1 in
      let p : Entry → Bool = λ (f : Entry). is_inside c f.context in
      let f = filter_from p (inner_convex o.0 s.0) pre e behind h (inside_inner (Some o.0) s.0 e.context o.1 s.1) (λ l at. false_unless (p l) (λ pl.
      let r = both (is_none (Some o.0) || same_slot (Some o.0) l.context.outer) _ pl in
      let lo : l.context.outer ≡ Some o.0 = or_none o.0 _ r.0 in
      let li : l.context.inner ≡ Some s.0 = or_none s.0 _ r.1 in
      let bo : before.outer ≡ e.context.outer = ap (λ (x : Context). x.outer) (b ∙ at) ∙ (lo ∙ sym o.1) in
      let bi : before.inner ≡ e.context.inner = ap (λ (x : Context). x.inner) (b ∙ at) ∙ (li ∙ sym s.1) in
      let t : same_context before e.context ≡ true = and_pair _ _ (ap (λ x. same_slot x e.context.outer) bo ∙ same_slot_itself e.context.outer)
      (ap (λ x. same_slot x e.context.inner) bi ∙ same_slot_itself e.context.inner) in
      sym new ∙ t)) in
      ap (missing_in (pre ++ e ∷ behind)) same ∙ (ap (λ x. first_missing (map seat_of x) c) f ∙ sym (ap (opened_missing (e ∷ behind)) same))
    where
      context_is : (c : Context) (o s : Slot) → c.outer ≡ Some o → c.inner ≡ Some s → c ≡ record { outer = Some o; inner = Some s }
      context_is c o s p q = ap (λ (x : Option Slot). record { outer = x; inner = c.inner }) p ∙
          ap (λ (x : Option Slot). record { outer = Some o; inner = x }) q

-- ---- the walk over the entries

pub record Walk (es : List Entry) (before : Context) (rest : List Entry) (first : Option ModelViolation) : Type 0 where
  pub gone : List Entry
  pub whole : es ≡ gone ++ rest
  pub last : before ≡ last_context gone
  pub so_far : fold earlier first (map (missing_in es) (contexts_behind before rest)) ≡ fold earlier None (map (missing_in es) (contexts es))

filter_all : (es : List Entry) → filter (λ (e : Entry). is_inside root_context e.context) es ≡ es
filter_all [] = refl
filter_all (e ∷ es) = ap (λ x. e ∷ x) (filter_all es)

pub walk_begins : (es : List Entry) → Walk es root_context es (first_missing (map seat_of es) root_context)
unfolding last_context
walk_begins es = record {
  gone = [];
  whole = refl;
  last = refl;
  so_far = ap (λ x. fold earlier (first_missing (map seat_of x) root_context) (map (missing_in es) (contexts_behind root_context es))) (sym (filter_all es));
}

if_same : (b : Bool) (f g : Context → Option ModelViolation) (c : Context) → (b ≡ true → f c ≡ g c) → map f (if b then c ∷ [] else [])
    ≡ map g (if b then c ∷ [] else [])
if_same true f g c h = ap (λ x. x ∷ []) (h refl)
if_same false f g c h = refl

pub walk_goes_on : (es : List Entry) (before : Context) (e : Entry) (behind : List Entry) (first : Option ModelViolation) → IsInvoice es →
    Walk es before (e ∷ behind) first
    → (outer inner : Option ModelViolation)
    → outer ≡ fold earlier first (map (opened_missing (e ∷ behind)) (if opens_outer before e.context then outer_context e.context ∷ [] else []))
    → inner ≡ fold earlier outer (map (opened_missing (e ∷ behind)) (if opens_inner before e.context then e.context ∷ [] else []))
    → Walk es e.context behind inner
walk_goes_on es before e behind first i w outer inner o n =
    let listed : is_listed (w.gone ++ e ∷ behind) ≡ true = ap is_listed (sym w.whole) ∙ i.listed in
    let placed = both (list_all is_placed w.gone) _ (sym (list_all-append is_placed w.gone (e ∷ behind)) ∙ (ap (list_all is_placed) (sym w.whole) ∙ i.placed))
    in
    let at_e : At e = at_placed e (both (is_placed e) _ placed.1).0 in
    let a : List Context = if opens_outer before e.context then outer_context e.context ∷ [] else [] in
    let b : List Context = if opens_inner before e.context then e.context ∷ [] else [] in
    let m : Context → Option ModelViolation = missing_in es in
    let k : Context → Option ModelViolation = opened_missing (e ∷ behind) in
    let ma : map m a ≡ map k a = if_same (opens_outer before e.context) m k (outer_context e.context) (λ t.
    ap (λ x. missing_in x (outer_context e.context)) w.whole ∙ missing_outer w.gone e behind before listed w.last t) in
    let mb : map m b ≡ map k b = if_same (opens_inner before e.context) m k e.context (λ t.
    ap (λ x. missing_in x e.context) w.whole ∙ missing_inner w.gone e behind before listed w.last at_e t) in
    let later : List Context = contexts_behind e.context behind in
    let step : fold earlier first (map m ((a ++ b) ++ later)) ≡ fold earlier inner (map m later) =
    ap (fold earlier first) (map-append m (a ++ b) later ∙ ap (λ x. x ++ map m later) (map-append m a b))
    ∙ (fold-append earlier first (map m a ++ map m b) (map m later)
    ∙ ap (λ x. fold earlier x (map m later)) (fold-append earlier first (map m a) (map m b)
    ∙ (ap (λ x. fold earlier (fold earlier first x) (map m b)) ma ∙ (ap (λ x. fold earlier x (map m b)) (sym o) ∙ (ap (fold earlier outer) mb ∙ sym n))))) in
    record {
      gone = w.gone ++ e ∷ [];
      whole = w.whole ∙ sym (append_assoc w.gone (e ∷ []) behind);
      last = sym (last_context-append w.gone e);
      so_far = sym step ∙ w.so_far;
    }
  where
    at_placed : (e : Entry) → is_placed e ≡ true → At e
    at_placed e h = go (seat_place (seat_of e)) refl h
      where
        go : (o : Option (List ℕ)) → seat_place (seat_of e) ≡ o → is_some o ≡ true → At e
        go None p k = absurd (false≢true k)
        go (Some place) p k = (at-place (seat_of e) place p).0

-- the same, where the rest begins with the entry
pub walk_step : (es : List Entry) (before : Context) (rest : List Entry) (e : Entry) (behind : List Entry) (first : Option ModelViolation) → rest ≡ e ∷ behind →
    IsInvoice es
    → Walk es before rest first → (outer inner : Option ModelViolation)
    → outer ≡ fold earlier first (map (opened_missing rest) (if opens_outer before e.context then outer_context e.context ∷ [] else []))
    → inner ≡ fold earlier outer (map (opened_missing rest) (if opens_inner before e.context then e.context ∷ [] else []))
    → Walk es e.context behind inner
walk_step es before rest e behind first same i w outer inner o n =
    walk_goes_on es before e behind first i (subst (λ (r : List Entry). Walk es before r first) same w) outer inner
    (o ∙ ap (λ r. fold earlier first (map (opened_missing r) (if opens_outer before e.context then outer_context e.context ∷ [] else []))) same)
    (n ∙ ap (λ r. fold earlier outer (map (opened_missing r) (if opens_inner before e.context then e.context ∷ [] else []))) same)
