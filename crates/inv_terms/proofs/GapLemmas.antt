-- Where a list with one entry more is an invoice, the entry may be added.
use Rattle.std.proofs.Common.{◌≡◌, ℕ, ◌+◌, ◌-◌, ◌≤◌, max, Bool, true, false, ◌&&◌, ◌||◌, List, [], ◌∷◌, ◌++◌, Option, Some, None, refl, sym, ap, ◌∙◌, ◌⊎◌, inl}
use Rattle.std.proofs.Common.{inr, arith}
use Rattle.std.specs.Prelude.{◌==◌, ◌↔◌, nat_le, fold, map, is_none, if◌then◌else◌}
use Rattle.std.specs.List.{list_all, list_any}
use Rattle.std.proofs.lemmas.Bool.{false≢true, eqb-true}
use Rattle.std.proofs.lemmas.Bool.Decides.{nat_tests}
use Rattle.std.proofs.lemmas.List.Folds.{list_all-append, list_any-append}
use Rattle.term_table.specs.declared.contexts.Slot.{Slot}
use Rattle.term_table.specs.declared.contexts.Context.{Context}
use Rattle.term_table.specs.Groups.{same_group}
use Rattle.term_table.specs.Contexts.{same_slot, is_inside}
use Rattle.term_table.proofs.GroupLemmas.{both, same_group_itself}
use Rattle.term_table.proofs.SeatLemmas as seats
use Rattle.inv_terms.specs.declared.entries.Entry.{Entry}
use Rattle.inv_terms.specs.Listing.{seat_of, comes_before, index_in, last_outer, last_inner, is_last_or_next, is_next, is_behind, is_behind_last, last_entry}
use Rattle.inv_terms.specs.Listing.{is_placed, refusal, occurs, is_counted, in_outer, in_inner, IsInvoice, Fits}
use Rattle.inv_terms.proofs.PushLemmas.{fold_le, index_in_le, index_inside, same_slot_is, same_slot_itself, by_last, and_pair, last_behind, last_entry-append}
use Rattle.inv_terms.proofs.InvoiceLemmas.{either, one_or_more, invoice-append}

-- ---- greatest numbers

fold_from : (h : Entry → ℕ) (es : List Entry) (a : ℕ) → a ≤ fold max a (map h es)
fold_from h [] a = omega arith
fold_from h (e ∷ es) a = let l = fold_from h es (max a (h e)) in omega (arith, l)

any_bound : (h : Entry → ℕ) (p : Entry → Bool) (n : ℕ) → ((f : Entry) → p f ≡ true → h f ≡ n) → (es : List Entry) (a : ℕ) → list_any p es ≡ true →
    n ≤ fold max a (map h es)
any_bound h p n is [] a k = absurd (false≢true k)
any_bound h p n is (e ∷ es) a k = elim (either (p e) _ k) [
  | inl passes ↦ let m = fold_from h es (max a (h e)) in let e = is e passes in omega (arith, m, e)
  | inr later ↦ any_bound h p n is es (max a (h e)) later
]

-- the number is the last or the next one
last_or_next : (last i : ℕ) → 1 ≤ i → last ≤ i → ((i ≡ 1) ⊎ (i - 1 ≤ last)) → (nat_le 1 i && ((i == last) || (i == last + 1))) ≡ true
last_or_next last i one most h = and_pair (nat_le 1 i) _ (grind (arith, nat_tests)) (elim (cases last i one most h) [
  | inl e ↦ let t : (i == last) ≡ true = grind (arith, nat_tests) in rw t refl
  | inr e ↦ elim (either_way (i == last)) [ inl t ↦ rw t refl | inr f ↦ let t : (i == last + 1) ≡ true = grind (arith, nat_tests) in rw (f, t) refl ]
])
  where
    either_way : (b : Bool) → (b ≡ true) ⊎ (b ≡ false)
    either_way true = inl refl
    either_way false = inr refl

    cases : (last i : ℕ) → 1 ≤ i → last ≤ i → ((i ≡ 1) ⊎ (i - 1 ≤ last)) → (i ≡ last) ⊎ (i ≡ last + 1)
    cases last i one most (inl e) = grind arith
    cases last i one most (inr l) = grind arith

at_least_one : (i : ℕ) → nat_le 1 i ≡ true → 1 ≤ i
at_least_one i h = grind (arith, nat_tests)

-- ---- the slots of the last entry

module _ (es : List Entry) (e : Entry) (i : IsInvoice (es ++ e ∷ [])) where
  ahead : list_all (λ (f : Entry). comes_before f e) es ≡ true
  ahead = last_behind es e i.listed

  counted : (is_counted (es ++ e ∷ []) in_outer e.context.outer && is_counted (es ++ e ∷ []) (in_inner e.context.outer) e.context.inner) ≡ true
  counted =
      let test : Entry → Bool = λ (f : Entry). is_counted (es ++ e ∷ []) in_outer f.context.outer &&
      is_counted (es ++ e ∷ []) (in_inner f.context.outer) f.context.inner in
      (both (test e) true (both (list_all test es) _ (sym (list_all-append test es (e ∷ [])) ∙ i.numbered)).1).0

  placed : is_placed e ≡ true
  placed = (both (is_placed e) _ (both (list_all is_placed es) _ (sym (list_all-append is_placed es (e ∷ [])) ∙ i.placed)).1).0

  behind : is_behind es e ≡ true
  behind = elim (by_last es) [
    | inl none ↦ ap (λ x. is_behind x e) none
    | inr w ↦
        let before : list_all (λ (f : Entry). comes_before f e) (w.0 ++ w.1 ∷ []) ≡ true = ap (list_all (λ (f : Entry). comes_before f e)) (sym w.2) ∙ ahead in
        let one = (both (comes_before w.1 e) _ (both (list_all (λ (f : Entry). comes_before f e) w.0) _
        (sym (list_all-append (λ (f : Entry). comes_before f e) w.0 (w.1 ∷ [])) ∙ before)).1).0 in
        ap (λ o. is_behind_last o e) (ap last_entry w.2 ∙ last_entry-append w.0 w.1) ∙ one
  ]

  -- an occurrence with another number isn't shown by the new entry
  earlier : (c : Context) → is_inside c e.context ≡ false → occurs (es ++ e ∷ []) c ≡ true → occurs es c ≡ true
  earlier c not_here h = elim (either (occurs es c) _ (sym (list_any-append (λ (f : Entry). is_inside c f.context) es (e ∷ [])) ∙ h)) [
    | inl yes_ ↦ yes_
    | inr new ↦ absurd (false≢true (sym (rw not_here refl) ∙ new))
  ]

  smaller : (s : Slot) → 2 ≤ s.index → same_slot (Some (record s { index = s.index - 1 })) (Some s) ≡ false
  smaller s two = differ (same_group s.group s.group) (s.index - 1 == s.index) (let l : (s.index - 1 == s.index) ≡ false = grind (arith, nat_tests) in l)
    where
      differ : (a b : Bool) → b ≡ false → (a && b) ≡ false
      differ true b h = h
      differ false b h = refl

  next-outer : (o : Option Slot) → e.context.outer ≡ o → is_counted (es ++ e ∷ []) in_outer o ≡ true → is_last_or_next (last_outer es) o ≡ true
  next-outer None at h = refl
  next-outer (Some s) at h =
      let p = both (nat_le 1 s.index) _ h in
      last_or_next (last_outer es s.group) s.index (at_least_one s.index p.0) most (elim (one_or_more s.index (at_least_one s.index p.0)) [
        | inl one ↦ inl one
        | inr two ↦ elim (either (s.index == 1) _ p.1) [ inl one ↦ inl (eqb-true s.index 1 one) | inr found ↦ inr (reached two found) ]
      ])
    where
      most : last_outer es s.group ≤ s.index
      most = fold_le (λ (f : Entry). index_in s.group f.context.outer) e es 0 s.index (omega arith)
          (λ f b. index_in_le f.context.outer s.group s.index
          (λ t ft same. (seats.outer-rises (seat_of f) (seat_of e) (seats.before-from (seat_of f) (seat_of e) b) t s ft at same).0)) ahead

      reached : 2 ≤ s.index → occurs (es ++ e ∷ []) (in_outer (record s { index = s.index - 1 })) ≡ true → s.index - 1 ≤ last_outer es s.group
      reached two found =
          let c : Context = in_outer (record s { index = s.index - 1 }) in
          let not_here : is_inside c e.context ≡ false = ap (λ x. same_slot (Some (record s { index = s.index - 1 })) x && true) at ∙ rw (smaller s two) refl in
          any_bound (λ (f : Entry). index_in s.group f.context.outer) (λ (f : Entry). is_inside c f.context) (s.index - 1) number es 0
          (earlier c not_here found)
        where
          number : (f : Entry) → is_inside (in_outer (record s { index = s.index - 1 })) f.context ≡ true → index_in s.group f.context.outer ≡ s.index - 1
          number f k =
              let o : f.context.outer ≡ Some (record s { index = s.index - 1 }) =
              sym (same_slot_is (Some (record s { index = s.index - 1 })) f.context.outer
              (both (same_slot (Some (record s { index = s.index - 1 })) f.context.outer) true k).0) in
              ap (index_in s.group) o ∙ ap (λ b. if b then s.index - 1 else 0) (same_group_itself s.group)

  next-inner : (o : Option Slot) → e.context.inner ≡ o → is_counted (es ++ e ∷ []) (in_inner e.context.outer) o ≡ true →
      is_last_or_next (last_inner es e.context.outer) o ≡ true
  next-inner None at h = refl
  next-inner (Some s) at h =
      let p = both (nat_le 1 s.index) _ h in
      last_or_next (last_inner es e.context.outer s.group) s.index (at_least_one s.index p.0) most (elim (one_or_more s.index (at_least_one s.index p.0)) [
        | inl one ↦ inl one
        | inr two ↦ elim (either (s.index == 1) _ p.1) [ inl one ↦ inl (eqb-true s.index 1 one) | inr found ↦ inr (reached two found) ]
      ])
    where
      outer : (u : Slot) × (e.context.outer ≡ Some u)
      outer = seats.placed_outer (seat_of e) placed s at

      most : last_inner es e.context.outer s.group ≤ s.index
      most = fold_le (index_inside e.context.outer s.group) e es 0 s.index (omega arith) one_most ahead
        where
          one_most : (f : Entry) → comes_before f e ≡ true → index_inside e.context.outer s.group f ≤ s.index
          one_most f b = go (same_slot f.context.outer e.context.outer) refl
            where
              go : (t : Bool) → same_slot f.context.outer e.context.outer ≡ t → (if t then index_in s.group f.context.inner else 0) ≤ s.index
              go false k = omega arith
              go true k = index_in_le f.context.inner s.group s.index (λ t ft same.
                  seats.inner-rises (seat_of f) (seat_of e) (seats.before-from (seat_of f) (seat_of e) b) outer.0 t s
                  (same_slot_is f.context.outer e.context.outer k ∙ outer.1) outer.1 ft at same)

      reached : 2 ≤ s.index → occurs (es ++ e ∷ []) (in_inner e.context.outer (record s { index = s.index - 1 })) ≡ true →
          s.index - 1 ≤ last_inner es e.context.outer s.group
      reached two found =
          let c : Context = in_inner e.context.outer (record s { index = s.index - 1 }) in
          let here : (is_none e.context.outer || same_slot e.context.outer e.context.outer) ≡ true = rw (same_slot_itself e.context.outer, outer.1) refl in
          let not_here : is_inside c e.context ≡ false = rw here (ap (λ x. same_slot (Some (record s { index = s.index - 1 })) x) at ∙ smaller s two) in
          any_bound (index_inside e.context.outer s.group) (λ (f : Entry). is_inside c f.context) (s.index - 1) number es 0 (earlier c not_here found)
        where
          turned : (f : Entry) → (is_none e.context.outer || same_slot e.context.outer f.context.outer) ≡ true →
              same_slot f.context.outer e.context.outer ≡ true
          turned f k =
              let m : same_slot e.context.outer f.context.outer ≡ true = sym (ap (λ o. is_none o || same_slot e.context.outer f.context.outer) outer.1) ∙ k in
              ap (λ o. same_slot f.context.outer o) (same_slot_is e.context.outer f.context.outer m) ∙ same_slot_itself f.context.outer

          number : (f : Entry) → is_inside (in_inner e.context.outer (record s { index = s.index - 1 })) f.context ≡ true →
              index_inside e.context.outer s.group f ≡ s.index - 1
          number f k =
              let q = both (is_none e.context.outer || same_slot e.context.outer f.context.outer)
              (same_slot (Some (record s { index = s.index - 1 })) f.context.inner) k in
              let o : same_slot f.context.outer e.context.outer ≡ true = turned f q.0 in
              let n : f.context.inner ≡ Some (record s { index = s.index - 1 }) =
              sym (same_slot_is (Some (record s { index = s.index - 1 })) f.context.inner q.1) in
              ap (λ b. if b then index_in s.group f.context.inner else 0) o ∙
              (ap (index_in s.group) n ∙ ap (λ b. if b then s.index - 1 else 0) (same_group_itself s.group))

  no_refusal : refusal es e ≡ None
  no_refusal =
      let k = both (is_counted (es ++ e ∷ []) in_outer e.context.outer) _ counted in
      let next : is_next es e.context ≡ true = and_pair _ _ (next-outer e.context.outer refl k.0) (next-inner e.context.inner refl k.1) in
      rw (placed, behind, next) refl

pub law : (es : List Entry) (e : Entry) → IsInvoice es → Fits e.term e.value → ((refusal es e ≡ None) ↔ IsInvoice (es ++ e ∷ []))
law es e i f = (λ h. invoice-append es e i h f, λ j. no_refusal es e j)
