-- The entries of an invoice are in listing order; entries are looked up by halving; equal members make equal lists.
use Rattle.std.proofs.Common.{◌≡◌, ℕ, ◌<◌, ◌≤◌, zero, suc, Bool, true, false, ◌&&◌, List, [], ◌∷◌, length, get_or, Option, Some, None, refl, sym, ap, ◌∙◌}
use Rattle.std.proofs.Common.{subst, ◌⊎◌, inl, inr, arith}
use Rattle.std.specs.Prelude.{◌↔◌, slice_get, option_map, is_some, find, map, All, AllPairs, Contains}
use Rattle.std.specs.List.{list_all}
use Rattle.std.specs.List.Sorted.{IsPartitionedBy, IsPartitionPoint}
use Rattle.std.proofs.lemmas.Option.{same_Some, slice_get_within, get_or_from_slice_get, slice_get-get_or}
use Rattle.std.proofs.lemmas.Bool.{false≢true}
use Rattle.term_table.specs.declared.terms.Term.{Term}
use Rattle.term_table.specs.declared.contexts.Context.{Context}
use Rattle.term_table.specs.declared.contexts.Seat.{Seat}
use Rattle.term_table.specs.SemanticModel.{same_term}
use Rattle.term_table.specs.Contexts.{same_context, same_slot, root_context}
use Rattle.term_table.specs.Places.{precedes, seat_place, place_of}
use Rattle.term_table.specs.Runs.{MayFollow, IsInOrder}
use Rattle.term_table.proofs.GroupLemmas.{both}
use Rattle.term_table.proofs.SeatLemmas.{one_seat, same_term_is}
use Rattle.term_table.proofs.RunLemmas.{not_less, follows, up_to, neither_before, never_before_itself, may_follow}
use Rattle.inv_terms.specs.declared.entries.Entry.{Entry}
use Rattle.inv_terms.specs.Listing.{seat_of, comes_before, is_listed, is_placed, is_at, value_in, IsInvoice}
use Rattle.inv_terms.specs.Looking.{is_ahead, stands_ahead}
use Rattle.inv_terms.proofs.ListingLemmas.{comes_before-trans}
use Rattle.inv_terms.proofs.PushLemmas.{same_slot_is}

-- ---- listing order

placed-order : (es : List Entry) → list_all is_placed es ≡ true → All (λ (s : Seat). is_some (seat_place s) ≡ true) (map seat_of es)
placed-order [] h k d l = absurd (omega arith)
placed-order (e ∷ es) h zero d l = (both (is_placed e) _ h).0
placed-order (e ∷ es) h (suc k) d l = placed-order es (both (is_placed e) _ h).1 k d (omega arith)

behind-order : (e : Entry) (es : List Entry) (j : ℕ) (d : Seat) → list_all (comes_before e) es ≡ true → j < length (map seat_of es) →
    MayFollow (seat_of e) (get_or (map seat_of es) j d)
behind-order e [] j d h l = absurd (omega arith)
behind-order e (f ∷ es) zero d h l = may_follow (seat_of e) (seat_of f) (both (comes_before e f) _ h).0
behind-order e (f ∷ es) (suc j) d h l = behind-order e es j d (both (comes_before e f) _ h).1 (omega arith)

listed-order : (es : List Entry) → is_listed es ≡ true → AllPairs MayFollow (map seat_of es)
listed-order [] h i j d l u = absurd (omega arith)
listed-order (e ∷ es) h zero zero d l u = absurd (omega arith)
listed-order (e ∷ es) h (suc i) zero d l u = absurd (omega arith)
listed-order (e ∷ es) h zero (suc j) d l u = behind-order e es j d (both (list_all (comes_before e) es) _ h).0 (omega arith)
listed-order (e ∷ es) h (suc i) (suc j) d l u = listed-order es (both (list_all (comes_before e) es) _ h).1 i j d (omega arith) (omega arith)

pub invoice-order : (es : List Entry) → IsInvoice es → IsInOrder (map seat_of es)
invoice-order es i = record { placed = placed-order es i.placed; order = listed-order es i.listed }

-- ---- an entry by its place

find-none : (p : Entry → Bool) (es : List Entry) → ((k : ℕ) (e : Entry) → slice_get es k ≡ Some e → p e ≡ false) → find p es ≡ None
find-none p [] h = refl
find-none p (e ∷ es) h =
    let fails : p e ≡ false = h 0 e refl in
    rw fails (find-none p es (λ k f at. h (suc k) f at))

find-first : (p : Entry → Bool) (es : List Entry) (k : ℕ) (e : Entry) → slice_get es k ≡ Some e → p e ≡ true
    → ((j : ℕ) (f : Entry) → slice_get es j ≡ Some f → j < k → p f ≡ false) → find p es ≡ Some e
find-first p [] zero e at h before = cc
find-first p [] (suc k) e at h before = cc
find-first p (f ∷ es) zero e at h before =
    let same : f ≡ e = same_Some _ _ at in
    let passes : p f ≡ true = ap p same ∙ h in
    rw passes at
find-first p (f ∷ es) (suc k) e at h before =
    let fails : p f ≡ false = before 0 f refl (omega arith) in
    rw fails (find-first p es k e at h (λ j g there l. before (suc j) g there (omega (arith, l))))

-- The entry is the one of the seat.
context_is : (a b : Context) → same_context a b ≡ true → a ≡ b
context_is a b h =
    let k = both (same_slot a.outer b.outer) _ h in
    let x : Context = record { outer = a.outer; inner = a.inner } in
    let y : Context = record { outer = b.outer; inner = b.inner } in
    let e : x ≡ y = rw (same_slot_is a.outer b.outer k.0, same_slot_is a.inner b.inner k.1) refl in
    e

at-seat : (term : Term) (context : Context) (e : Entry) → is_at term context e ≡ true → seat_of e ≡ record { term = term; context = context }
at-seat term context e h =
    let k = both (same_term e.term term) _ h in
    let x : Seat = record { term = e.term; context = e.context } in
    let y : Seat = record { term = term; context = context } in
    let s : x ≡ y = rw (same_term_is e.term term k.0, context_is e.context context k.1) refl in
    s

same_at : (term : Term) (context : Context) (a b : Entry) → seat_of a ≡ seat_of b → is_at term context b ≡ true → is_at term context a ≡ true
same_at term context a b e h = ap (λ (s : Seat). same_term s.term term && same_context s.context context) e ∙ h

module _ (es : List Entry) (place : List ℕ) (o : IsInOrder (map seat_of es)) where
  pub ahead_first : IsPartitionedBy (stands_ahead place) es
  ahead_first i j d l u h = elim (up_to seat_of es root_context refl o i j l) [
    | inl e ↦ ap (λ k. stands_ahead place (get_or es k d)) e ∙ h
    | inr m ↦
        let f = follows seat_of es root_context refl o i j d m u in
        ap (is_ahead place) f.first_is ∙ not_less f.first f.second place f.order (ap (is_ahead place) (sym f.second_is) ∙ h)
  ]

  module _ (term : Term) (context : Context) (is : place_of term context ≡ Some place) (k : ℕ)
      (point : IsPartitionPoint (λ e. stands_ahead place e ≡ true) (λ e. stands_ahead place e ≡ false) es k) where
    its_place : (e : Entry) → is_at term context e ≡ true → seat_place (seat_of e) ≡ Some place
    its_place e h = ap seat_place (at-seat term context e h) ∙ is

    not_ahead : (e : Entry) → is_at term context e ≡ true → stands_ahead place e ≡ false
    not_ahead e h = ap (is_ahead place) (its_place e h) ∙ never_before_itself place

    before : (j : ℕ) (f : Entry) → slice_get es j ≡ Some f → j < k → is_at term context f ≡ false
    before j f at l = go (is_at term context f) refl
      where
        ahead : stands_ahead place f ≡ true
        ahead = ap (stands_ahead place) (sym (get_or_from_slice_get es j f f at)) ∙ point.0 j f (omega arith) l

        go : (b : Bool) → is_at term context f ≡ b → is_at term context f ≡ false
        go true h = absurd (false≢true (sym (not_ahead f h) ∙ ahead))
        go false h = h

    pub looked-some : (e : Entry) → slice_get es k ≡ Some e → is_at term context e ≡ true → Some e.value ≡ value_in es term context
    looked-some e at h = sym (ap (option_map (λ (x : Entry). x.value)) (find-first (is_at term context) es k e at h before))

    behind : (e : Entry) → slice_get es k ≡ Some e → is_at term context e ≡ false → (j : ℕ) (f : Entry) → slice_get es j ≡ Some f → k < j →
        is_at term context f ≡ false
    behind e at h j f there l = go (is_at term context f) refl
      where
        within : j < length es
        within = slice_get_within es j f there

        m : MayFollow (seat_of (get_or es k e)) (seat_of (get_or es j e))
        m = follows seat_of es root_context refl o k j e l within

        follow : MayFollow (seat_of e) (seat_of f)
        follow = subst (λ x. MayFollow (seat_of x) (seat_of f)) (get_or_from_slice_get es k e e at)
            (subst (λ x. MayFollow (seat_of (get_or es k e)) (seat_of x)) (get_or_from_slice_get es j f e there) m)

        ahead : stands_ahead place e ≡ false
        ahead = ap (stands_ahead place) (sym (get_or_from_slice_get es k e e at)) ∙ point.1 k e (omega arith) (slice_get_within es k e at)

        go : (b : Bool) → is_at term context f ≡ b → is_at term context f ≡ false
        go false p = p
        go true p =
            let second : follow.second ≡ place = same_Some _ _ (sym follow.second_is ∙ its_place f p) in
            let first : follow.first ≡ place = neither_before follow.first place (ap (is_ahead place) (sym follow.first_is) ∙ ahead)
            (ap (λ x. precedes x follow.first) (sym second) ∙ follow.order) in
            let same : seat_of e ≡ seat_of f = one_seat (seat_of e) (seat_of f) place (follow.first_is ∙ ap Some first) (its_place f p) in
            absurd (false≢true (sym h ∙ same_at term context e f same p))

    pub looked-other : (e : Entry) → slice_get es k ≡ Some e → is_at term context e ≡ false → None ≡ value_in es term context
    looked-other e at h = sym (ap (option_map (λ (x : Entry). x.value)) (find-none (is_at term context) es every))
      where
        order : (j k : ℕ) → (j < k) ⊎ ((j ≡ k) ⊎ (k < j))
        order j k = grind arith

        every : (j : ℕ) (f : Entry) → slice_get es j ≡ Some f → is_at term context f ≡ false
        every j f there = elim (order j k) [
          | inl l ↦ before j f there l
          | inr (inl same) ↦ ap (is_at term context) (same_Some _ _ (sym there ∙ (ap (slice_get es) same ∙ at))) ∙ h
          | inr (inr l) ↦ behind e at h j f there l
        ]

    pub looked-none : slice_get es k ≡ None → None ≡ value_in es term context
    looked-none at = sym (ap (option_map (λ (x : Entry). x.value)) (find-none (is_at term context) es every))
      where
        order : (j k : ℕ) → (j < k) ⊎ (k ≤ j)
        order j k = grind arith

        past : length es ≤ k
        past = elim (order k (length es)) as (λ _. length es ≤ k) [ inl l ↦ absurd (let e = slice_get-get_or es k in nothing l) | inr l ↦ l ]
          where
            nothing : k < length es → ⊥
            nothing l = elim (some es k l) [ inl w ↦ (let x : None ≡ Some w.0 = sym at ∙ w.1 in cc) | inr w ↦ w ]
              where
                some : (xs : List Entry) (k : ℕ) → k < length xs → ((x : Entry) × (slice_get xs k ≡ Some x)) ⊎ ⊥
                some [] k l = inr (omega arith)
                some (x ∷ xs) zero l = inl (x, refl)
                some (x ∷ xs) (suc k) l = some xs k (omega arith)

        every : (j : ℕ) (f : Entry) → slice_get es j ≡ Some f → is_at term context f ≡ false
        every j f there = let l = slice_get_within es j f there in before j f there (omega (arith, l, past))

-- a term without a place stands nowhere
pub looked-nowhere : (es : List Entry) (term : Term) (context : Context) → IsInOrder (map seat_of es) → place_of term context ≡ None →
    None ≡ value_in es term context
looked-nowhere es term context o is = sym (ap (option_map (λ (x : Entry). x.value)) (find-none (is_at term context) es every))
  where
    placed : (xs : List Entry) (k : ℕ) (e : Entry) → All (λ (s : Seat). is_some (seat_place s) ≡ true) (map seat_of xs) → slice_get xs k ≡ Some e →
        is_some (seat_place (seat_of e)) ≡ true
    placed [] zero e h at = cc
    placed [] (suc k) e h at = cc
    placed (x ∷ xs) zero e h at = ap (λ (y : Entry). is_some (seat_place (seat_of y))) (sym (same_Some _ _ at)) ∙ h 0 (seat_of x) (omega arith)
    placed (x ∷ xs) (suc k) e h at = placed xs k e (λ j d l. h (suc j) d (omega (arith, l))) at

    every : (j : ℕ) (f : Entry) → slice_get es j ≡ Some f → is_at term context f ≡ false
    every j f there = go (is_at term context f) refl
      where
        go : (b : Bool) → is_at term context f ≡ b → is_at term context f ≡ false
        go false p = p
        go true p = absurd (false≢true (ap is_some (sym is) ∙
            (ap (λ s. is_some (seat_place s)) (sym (at-seat term context f p)) ∙ placed es j f o.placed there)))

-- ---- lists with the same members

abbrev both_are : Option (List ℕ) → Option (List ℕ) → Bool
both_are o q = elim o [ None ↦ false | Some x ↦ elim q [ None ↦ false | Some y ↦ precedes x y ] ]

irreflexive : (e : Entry) → comes_before e e ≡ true → ⊥
irreflexive e h =
    let m = may_follow (seat_of e) (seat_of e) h in
    let same : m.first ≡ m.second = same_Some _ _ (sym m.first_is ∙ m.second_is) in
    false≢true (sym (never_before_itself m.first) ∙ itself m.first m.first_is)
  where
    itself : (p : List ℕ) → seat_place (seat_of e) ≡ Some p → precedes p p ≡ true
    itself p k = ap (λ o. both_are o (Some p)) (sym k) ∙ (ap (both_are (seat_place (seat_of e))) (sym k) ∙ h)

member-here : (e : Entry) (es : List Entry) → Contains (e ∷ es) e
member-here e es = (0, omega arith, refl)

member-there : (e x : Entry) (es : List Entry) → Contains es x → Contains (e ∷ es) x
member-there e x es w = (suc w.0, let l = w.1 in omega (arith, l), w.2)

member-cases : (e x : Entry) (es : List Entry) → Contains (e ∷ es) x → (e ≡ x) ⊎ Contains es x
member-cases e x es w = go w.0 w.1 w.2
  where
    go : (k : ℕ) → k < length (e ∷ es) → get_or (e ∷ es) k x ≡ x → (e ≡ x) ⊎ Contains es x
    go zero l at = inl at
    go (suc k) l at = inr (k, omega (arith, l), at)

member-behind : (e x : Entry) (es : List Entry) → list_all (comes_before e) es ≡ true → Contains es x → comes_before e x ≡ true
member-behind e x [] h w = absurd (let l = w.1 in omega (arith, l))
member-behind e x (f ∷ es) h w =
    let k = both (comes_before e f) _ h in
    elim (member-cases f x es w) [ inl same ↦ ap (comes_before e) (sym same) ∙ k.0 | inr later ↦ member-behind e x es k.1 later ]

pub same_members : (es fs : List Entry) → is_listed es ≡ true → is_listed fs ≡ true → ((e : Entry) → (Contains es e ↔ Contains fs e)) → es ≡ fs
same_members [] [] h k same = refl
same_members [] (f ∷ fs) h k same = absurd (let w = (same f).1 (member-here f fs) in let l = w.1 in omega (arith, l))
same_members (e ∷ es) [] h k same = absurd (let w = (same e).0 (member-here e es) in let l = w.1 in omega (arith, l))
same_members (e ∷ es) (f ∷ fs) h k same =
    let p = both (list_all (comes_before e) es) _ h in
    let q = both (list_all (comes_before f) fs) _ k in
    let first : e ≡ f = elim (member-cases f e fs ((same e).0 (member-here e es))) [
      | inl is ↦ sym is
      | inr later ↦ elim (member-cases e f es ((same f).1 (member-here f fs))) [
        | inl is ↦ is
        | inr behind ↦ absurd (irreflexive e (comes_before-trans e f e (member-behind e f es p.0 behind) (member-behind f e fs q.0 later)))
      ]
    ] in
    let rest : es ≡ fs = same_members es fs p.1 q.1 (λ x. (
      λ w. elim (member-cases f x fs ((same x).0 (member-there e x es w))) [
        | inl is ↦ absurd (irreflexive e (ap (comes_before e) (first ∙ is) ∙ member-behind e x es p.0 w))
        | inr later ↦ later
      ],
      λ w. elim (member-cases e x es ((same x).1 (member-there f x fs w))) [
        | inl is ↦ absurd (irreflexive f (ap (comes_before f) (sym first ∙ is) ∙ member-behind f x fs q.0 w))
        | inr later ↦ later
      ],
    )) in
    rw (first, rest) refl
