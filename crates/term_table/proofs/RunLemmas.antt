-- Seats in listing order: those of a context stand together, behind those that come before it.
use Rattle.std.proofs.Common.{◌≡◌, ℕ, ◌+◌, ◌-◌, ◌<◌, ◌≤◌, zero, suc, Bool, true, false, ◌&&◌, ◌||◌, List, [], ◌∷◌, length, get_or, Option, Some, None, take}
use Rattle.std.proofs.Common.{drop, refl, sym, ap, ◌∙◌, subst, ◌⊎◌, inl, inr, arith, length-drop}
use Rattle.std.specs.Prelude.{slice_get, is_some, is_none, filter, map, option_map, cond, nat_lt, ◌++◌}
use Rattle.std.specs.Ordering.{is_lt, nat_cmp, ordering_reverse}
use Rattle.std.specs.Cmp.Lexicographic.{slice_cmp}
use Rattle.std.specs.declared.cmp.Ordering.{Ordering}
use Rattle.std.specs.declared.cmp.Ordering.TheVariants.{Less, Equal, Greater}
use Rattle.std.specs.List.Sorted.{IsPartitionedBy, IsPartitionPoint}
use Rattle.std.proofs.lemmas.Cmp.{nat_list_cmp_total}
use Rattle.std.specs.List.{prefix_len, HoldsAt}
use Rattle.std.proofs.lemmas.List.{get_or-map, get_or-drop, length-map}
use Rattle.std.proofs.lemmas.List.Sums.{prefix_len_passes, prefix_len_stops}
use Rattle.std.proofs.lemmas.Option.{slice_get_within, get_or_from_slice_get}
use Rattle.std.proofs.lemmas.Bool.{false≢true, cases_Bool}
use Rattle.std.proofs.lemmas.Bool.Decides.{nat_tests}
use Rattle.term_table.specs.declared.groups.Group.{Group}
use Rattle.term_table.specs.declared.contexts.Slot.{Slot}
use Rattle.term_table.specs.declared.contexts.Context.{Context}
use Rattle.term_table.specs.declared.contexts.Seat.{Seat}
use Rattle.term_table.specs.Groups.{same_group}
use Rattle.term_table.specs.Rows.{row_of}
use Rattle.term_table.specs.Contexts.{outer_group, inner_group, same_slot}
use Rattle.term_table.specs.Places.{first_row, slot_place, place, precedes, seat_place, comes_before}
use Rattle.term_table.specs.Runs.{MayFollow, IsInOrder, IsNested, is_in}
use Rattle.term_table.specs.Starts.{slot_start, context_start, is_before, stands_before, by_starts, stands_ahead}
use Rattle.term_table.proofs.GroupLemmas.{both, same_group_is, same_group_itself, start, same_outer_start, same_inner_start}
use Rattle.term_table.proofs.SeatLemmas.{At, numbers, rest, at-place, index_of, is_slot_of, slot_group-is, slot_of_group, outer_slot}

-- ---- a filter that keeps a run

pub filter-run : {X : Type 0} (p : X → Bool) (xs : List X) (n m : ℕ)
    → ((k : ℕ) (x : X) → slice_get xs k ≡ Some x → k < n → p x ≡ false)
    → ((k : ℕ) (x : X) → slice_get xs k ≡ Some x → n ≤ k → k < n + m → p x ≡ true)
    → ((k : ℕ) (x : X) → slice_get xs k ≡ Some x → n + m ≤ k → p x ≡ false)
    → filter p xs ≡ take m (drop n xs)
filter-run p [] zero zero before within behind = refl
filter-run p [] zero (suc m) before within behind = refl
filter-run p [] (suc n) zero before within behind = refl
filter-run p [] (suc n) (suc m) before within behind = refl
filter-run p (x ∷ xs) (suc n) m before within behind =
    let rest = filter-run p xs n m (λ k y e l. before (suc k) y e (omega (arith, l))) (λ k y e l u. within (suc k) y e (omega (arith, l)) (omega (arith, u)))
    (λ k y e l. behind (suc k) y e (omega (arith, l))) in
    let fails : p x ≡ false = before 0 x refl (omega arith) in
    rw fails rest
filter-run p (x ∷ xs) zero (suc m) before within behind =
    let rest = filter-run p xs 0 m (λ k y e l. absurd (omega (arith, l))) (λ k y e l u. within (suc k) y e (omega arith) (omega (arith, u)))
    (λ k y e l. behind (suc k) y e (omega (arith, l))) in
    let passes : p x ≡ true = within 0 x refl (omega arith) (omega arith) in
    rw passes (ap (λ z. x ∷ z) rest)
filter-run p (x ∷ xs) zero zero before within behind =
    let rest = filter-run p xs 0 0 (λ k y e l. absurd (omega (arith, l))) (λ k y e l u. absurd (omega (arith, l, u)))
    (λ k y e l. behind (suc k) y e (omega arith)) in
    let fails : p x ≡ false = behind 0 x refl (omega arith) in
    rw fails rest

-- ---- lexicographic order

less_is : (o : Ordering) → is_lt o ≡ true → o ≡ Less
less_is Less h = refl
less_is Equal h = absurd (false≢true h)
less_is Greater h = absurd (false≢true h)

-- A list that isn't behind another comes before all that the other does.
pub not_less : (p q k : List ℕ) → precedes q p ≡ false → precedes q k ≡ true → precedes p k ≡ true
not_less p q k h l = go (slice_cmp nat_cmp q p) refl
  where
    go : (o : Ordering) → slice_cmp nat_cmp q p ≡ o → precedes p k ≡ true
    go Less e = absurd (false≢true (sym h ∙ ap is_lt e))
    go Equal e = ap is_lt (sym (nat_list_cmp_total.congr q p k e)) ∙ l
    go Greater e = ap is_lt (nat_list_cmp_total.trans p q k (nat_list_cmp_total.antisymm p q ∙ ap ordering_reverse e) (less_is _ l))

-- what doesn't come before, begins with a greater number, or with the same and then doesn't
pub not_before : (a b : ℕ) (p q : List ℕ) → precedes (a ∷ p) (b ∷ q) ≡ false → (b < a) ⊎ ((a ≡ b) × (precedes p q ≡ false))
not_before a b p q h = elim (nat_cases a b) [
  | inl l ↦ absurd (false≢true (sym h ∙ less_first a b p q l))
  | inr (inl e) ↦ inr (e, sym (equal_first a b p q e) ∙ h)
  | inr (inr g) ↦ inl g
]
  where
    nat_cases : (a b : ℕ) → (a < b) ⊎ ((a ≡ b) ⊎ (b < a))
    nat_cases a b = grind arith

    equal_first : (a b : ℕ) (p q : List ℕ) → a ≡ b → precedes (a ∷ p) (b ∷ q) ≡ precedes p q
    equal_first a b p q e = grind (arith, nat_tests)

    less_first : (a b : ℕ) (p q : List ℕ) → a < b → precedes (a ∷ p) (b ∷ q) ≡ true
    less_first a b p q l = grind (arith, nat_tests)

-- Behind the start of a context, and at most where one in the context is: the same first number, and so on behind it.
squeezed : (a b : ℕ) (p q r : List ℕ) → precedes (a ∷ p) (b ∷ q) ≡ false → precedes (b ∷ r) (a ∷ p) ≡ false → (a ≡ b) × (precedes p q ≡ false) ×
    (precedes r p ≡ false)
squeezed a b p q r h k = elim (not_before a b p q h) [
  | inl g ↦ elim (not_before b a r p k) [ inl l ↦ absurd (omega (arith, g, l)) | inr e ↦ absurd (let s = e.0 in omega (arith, g, s)) ]
  | inr e ↦ elim (not_before b a r p k) [ inl l ↦ absurd (let s = e.0 in omega (arith, s, l)) | inr f ↦ (e.0, e.1, f.1) ]
]

-- the same for the two numbers of a slot
level : (n0 n1 m0 m1 F i : ℕ) (place key high : List ℕ) → precedes (n0 ∷ n1 ∷ place) (F ∷ i ∷ key) ≡ false → precedes (m0 ∷ m1 ∷ high) (n0 ∷ n1 ∷ place) ≡ false
    → m0 ≡ F → m1 ≡ i → (n0 ≡ F) × (n1 ≡ i) × (precedes place key ≡ false) × (precedes high place ≡ false)
level n0 n1 m0 m1 F i place key high h k f g =
    let a = squeezed n0 F (n1 ∷ place) (i ∷ key) (m1 ∷ high) h (ap (λ x. precedes (x ∷ m1 ∷ high) (n0 ∷ n1 ∷ place)) (sym f) ∙ k) in
    let b = squeezed n1 i place key high a.1 (ap (λ x. precedes (x ∷ high) (n1 ∷ place)) (sym g) ∙ a.2) in
    (a.0, b.0, b.1, b.2)

-- ---- the slots of a seat and the numbers of its place

slot_numbers : (row : ℕ) (slot : Option Slot) (group : Option Group) (o : Slot) → is_slot_of slot group ≡ true → same_slot (Some o) slot ≡ true
    → (start row group ≡ first_row o.group) × (index_of slot ≡ o.index)
slot_numbers row None group o h k = absurd (false≢true k)
slot_numbers row (Some t) None o h k = absurd (false≢true h)
slot_numbers row (Some t) (Some g) o h k =
    let p = both (same_group o.group t.group) _ k in
    let i : o.index ≡ t.index = grind (arith, nat_tests, p.1) in
    (ap first_row (sym (same_group_is t.group g h) ∙ sym (same_group_is o.group t.group p.0)), sym i)

-- the slot with a group and an index
slot_with : (slot : Option Slot) (group : Option Group) (o : Slot) → is_slot_of slot group ≡ true → group ≡ Some o.group → index_of slot ≡ o.index
    → same_slot (Some o) slot ≡ true
slot_with slot group o h g i =
    let w = slot_of_group slot o.group (sym (slot_group-is slot group h) ∙ g) in
    let j : w.0.index ≡ o.index = ap index_of (sym w.1) ∙ i in
    ap (same_slot (Some o)) w.1 ∙ pair _ _ (ap (same_group o.group) w.2 ∙ same_group_itself o.group) (grind (arith, nat_tests, j))
  where
    pair : (a b : Bool) → a ≡ true → b ≡ true → (a && b) ≡ true
    pair a b e f = rw (e, f) refl

group_of_slot : (row : ℕ) (slot : Option Slot) (group : Option Group) (o : Slot) → is_slot_of slot group ≡ true → same_slot (Some o) slot ≡ true →
    group ≡ Some o.group
group_of_slot row None group o h k = absurd (false≢true k)
group_of_slot row (Some t) None o h k = absurd (false≢true h)
group_of_slot row (Some t) (Some g) o h k = ap Some (sym (same_group_is t.group g h) ∙
    sym (same_group_is o.group t.group (both (same_group o.group t.group) _ k).0))

and_true : (a : Bool) → a ≡ true → (a && true) ≡ true
and_true a h = rw h refl

and_both : (a b : Bool) → a ≡ true → b ≡ true → (a && b) ≡ true
and_both a b e f = rw (e, f) refl

-- ---- what stands in a context doesn't come before it, and what comes between it and the start of the context stands in it too

pub same_ahead : (x y : ℕ) (p q : List ℕ) → x ≡ y → precedes (x ∷ p) (y ∷ q) ≡ precedes p q
same_ahead x y p q e = grind (arith, nat_tests)

slot_ahead : (n0 n1 F i : ℕ) (p q : List ℕ) → n0 ≡ F → n1 ≡ i → precedes (n0 ∷ n1 ∷ p) (F ∷ i ∷ q) ≡ precedes p q
slot_ahead n0 n1 F i p q e f = same_ahead n0 F (n1 ∷ p) (i ∷ q) e ∙ same_ahead n1 i p q f

-- lists of which neither comes before the other
pub neither_before : (p q : List ℕ) → precedes p q ≡ false → precedes q p ≡ false → p ≡ q
neither_before [] [] h k = refl
neither_before [] (y ∷ q) h k = absurd (false≢true (sym h))
neither_before (x ∷ p) [] h k = absurd (false≢true (sym k))
neither_before (x ∷ p) (y ∷ q) h k =
    let a = squeezed x y p q q h k in
    rw (a.0, neither_before p q a.1 a.2) refl

pub never_before_itself : (p : List ℕ) → precedes p p ≡ false
never_before_itself [] = refl
never_before_itself (x ∷ p) = same_ahead x x p p refl ∙ never_before_itself p

pub not_both_ways : (p q : List ℕ) → precedes p q ≡ true → precedes q p ≡ false
not_both_ways p q h = go (precedes q p) refl
  where
    go : (b : Bool) → precedes q p ≡ b → precedes q p ≡ false
    go false e = e
    go true e = absurd (false≢true (sym (never_before_itself p) ∙ ap is_lt (nat_list_cmp_total.trans p q p (less_is _ h) (less_is _ e))))

abbrev test : Option (List ℕ) → Option (List ℕ) → Bool
test p q = elim p [ None ↦ false | Some x ↦ elim q [ None ↦ false | Some y ↦ precedes x y ] ]

-- one that comes before another may be followed by it
pub may_follow : (a b : Seat) → comes_before a b ≡ true → MayFollow a b
may_follow a b h = go (seat_place a) (seat_place b) refl refl h
  where
    go : (p q : Option (List ℕ)) → seat_place a ≡ p → seat_place b ≡ q → test p q ≡ true → MayFollow a b
    go None q e f k = absurd (false≢true k)
    go (Some x) None e f k = absurd (false≢true k)
    go (Some x) (Some y) e f k = record { first = x; second = y; first_is = e; second_is = f; order = not_both_ways x y k }

abbrev slots : Option Slot → Option Slot → Context
slots outer inner = record { outer = outer; inner = inner }

inside_numbers : (outer inner : Option Slot) (s : Seat) (a : At s) → is_in (slots outer inner) s ≡ true → IsNested (slots outer inner)
    → precedes (numbers s a) (context_start (slots outer inner)) ≡ false
inside_numbers None None s a h n = refl
inside_numbers None (Some i) s a h n = absurd (false≢true n)
inside_numbers (Some o) None s a h n =
    let p = slot_numbers a.row s.context.outer (outer_group a.line.group) o a.outer (both (same_slot (Some o) s.context.outer) _ h).0 in
    slot_ahead _ _ _ _ (rest s a) [] p.0 p.1
inside_numbers (Some o) (Some i) s a h n =
    let k = both (same_slot (Some o) s.context.outer) _ h in
    let p = slot_numbers a.row s.context.outer (outer_group a.line.group) o a.outer k.0 in
    let q = slot_numbers a.row s.context.inner (inner_group a.line.group) i a.inner k.1 in
    slot_ahead _ _ _ _ (rest s a) (slot_start (Some i)) p.0 p.1 ∙ slot_ahead _ _ _ _ (a.row ∷ []) [] q.0 q.1

inside_not_before : (c : Context) (s : Seat) → IsNested c → is_in c s ≡ true → stands_before c s ≡ false
inside_not_before c s n h = go (seat_place s) refl
  where
    go : (place : Option (List ℕ)) → seat_place s ≡ place → is_before c place ≡ false
    go None e = refl
    go (Some p) e = let a = at-place s p e in ap (λ x. precedes x (context_start c)) (sym a.1) ∙ inside_numbers c.outer c.inner s a.0 h n

between_numbers : (outer inner : Option Slot) (a b : Seat) (x : At a) (y : At b) → IsNested (slots outer inner) → precedes (numbers b y) (numbers a x) ≡ false
    → precedes (numbers a x) (context_start (slots outer inner)) ≡ false → is_in (slots outer inner) b ≡ true → is_in (slots outer inner) a ≡ true
between_numbers None None a b x y n order behind h = refl
between_numbers None (Some i) a b x y n order behind h = absurd (false≢true n)
between_numbers (Some o) None a b x y n order behind h =
    let same = (both (same_slot (Some o) b.context.outer) _ h).0 in
    let p = slot_numbers y.row b.context.outer (outer_group y.line.group) o y.outer same in
    let l = level _ _ _ _ _ _ (rest a x) [] (rest b y) behind order p.0 p.1 in
    let g = same_outer_start x.row y.row x.line y.line x.found y.found (l.0 ∙ sym p.0) ∙
    group_of_slot y.row b.context.outer (outer_group y.line.group) o y.outer same in
    and_true _ (slot_with a.context.outer (outer_group x.line.group) o x.outer g l.1)
between_numbers (Some o) (Some i) a b x y n order behind h =
    let both_same = both (same_slot (Some o) b.context.outer) _ h in
    let p = slot_numbers y.row b.context.outer (outer_group y.line.group) o y.outer both_same.0 in
    let q = slot_numbers y.row b.context.inner (inner_group y.line.group) i y.inner both_same.1 in
    let l = level _ _ _ _ _ _ (rest a x) (slot_start (Some i)) (rest b y) behind order p.0 p.1 in
    let m = level _ _ _ _ _ _ (x.row ∷ []) [] (y.row ∷ []) l.2 l.3 q.0 q.1 in
    let g = same_outer_start x.row y.row x.line y.line x.found y.found (l.0 ∙ sym p.0) ∙
    group_of_slot y.row b.context.outer (outer_group y.line.group) o y.outer both_same.0 in
    let f = same_inner_start x.row y.row x.line y.line x.found y.found (m.0 ∙ sym q.0) ∙
    group_of_slot y.row b.context.inner (inner_group y.line.group) i y.inner both_same.1 in
    and_both _ _ (slot_with a.context.outer (outer_group x.line.group) o x.outer g l.1) (slot_with a.context.inner (inner_group x.line.group) i x.inner f m.1)

follow_inside : (c : Context) (a b : Seat) → IsNested c → MayFollow a b → stands_before c a ≡ false → is_in c b ≡ true → is_in c a ≡ true
follow_inside c a b n m behind h =
    let x = at-place a m.first m.first_is in
    let y = at-place b m.second m.second_is in
    between_numbers c.outer c.inner a b x.0 y.0 n (ap (λ p. precedes p (numbers a x.0)) y.1 ∙ (ap (precedes m.second) x.1 ∙ m.order))
    (ap (λ p. precedes p (context_start c)) x.1 ∙ (ap (is_before c) (sym m.first_is) ∙ behind)) h

follow_before : (c : Context) (a b : Seat) → MayFollow a b → stands_before c b ≡ true → stands_before c a ≡ true
follow_before c a b m h = ap (is_before c) m.first_is ∙ not_less m.first m.second (context_start c) m.order (ap (is_before c) (sym m.second_is) ∙ h)

-- ---- a seat that has a place is told by its outer slot

less_first : (a x : ℕ) (p q : List ℕ) → a < x → precedes (a ∷ p) (x ∷ q) ≡ true
less_first a x p q l = grind (arith, nat_tests)

more_first : (a x : ℕ) (p q : List ℕ) → x < a → precedes (a ∷ p) (x ∷ q) ≡ false
more_first a x p q l = grind (arith, nat_tests)

below : (a b : ℕ) → nat_lt a b ≡ true → a < b
below a b e = grind (arith, nat_tests)

level_with : (a b : ℕ) → nat_lt a b ≡ false → nat_lt b a ≡ false → a ≡ b
level_with a b e f = grind (arith, nat_tests)

by_starts-is : (a b x y : ℕ) (p q : List ℕ) → by_starts a b x y (precedes (a ∷ b ∷ p) (x ∷ y ∷ q)) ≡ precedes (a ∷ b ∷ p) (x ∷ y ∷ q)
by_starts-is a b x y p q = elim (cases_Bool (nat_lt a x)) [
  | inl t ↦ ap (λ (c : Bool). cond c true (cond (nat_lt x a) false (cond (nat_lt b y) true (cond (nat_lt y b) false here)))) t ∙
      sym (less_first a x (b ∷ p) (y ∷ q) (below a x t))
  | inr s ↦ ap (λ (c : Bool). cond c true (cond (nat_lt x a) false (cond (nat_lt b y) true (cond (nat_lt y b) false here)))) s ∙
      elim (cases_Bool (nat_lt x a)) [
        | inl t ↦ ap (λ (c : Bool). cond c false (cond (nat_lt b y) true (cond (nat_lt y b) false here))) t ∙
            sym (more_first a x (b ∷ p) (y ∷ q) (below x a t))
        | inr r ↦ ap (λ (c : Bool). cond c false (cond (nat_lt b y) true (cond (nat_lt y b) false here))) r ∙
            elim (cases_Bool (nat_lt b y)) [
              | inl t ↦ ap (λ (c : Bool). cond c true (cond (nat_lt y b) false here)) t ∙
                  sym (same_ahead a x (b ∷ p) (y ∷ q) (level_with a x s r) ∙ less_first b y p q (below b y t))
              | inr u ↦ ap (λ (c : Bool). cond c true (cond (nat_lt y b) false here)) u ∙
                  elim (cases_Bool (nat_lt y b)) [
                    | inl t ↦ ap (λ (c : Bool). cond c false here) t ∙
                        sym (same_ahead a x (b ∷ p) (y ∷ q) (level_with a x s r) ∙ more_first b y p q (below y b t))
                    | inr v ↦ ap (λ (c : Bool). cond c false here) v
                  ]
            ]
      ]
]
  where
    here : Bool
    here = precedes (a ∷ b ∷ p) (x ∷ y ∷ q)

placed_row : (context : Context) (row : Option ℕ) → is_some (option_map (λ (n : ℕ). place n context) row) ≡ true → (n : ℕ) × (row ≡ Some n)
placed_row context None h = absurd (false≢true h)
placed_row context (Some n) h = (n, refl)

pub ahead-is : (c : Context) (s : Seat) → is_some (seat_place s) ≡ true → stands_ahead c s ≡ stands_before c s
ahead-is c s h = by (placed_row s.context (row_of s.term s.context) h)
  where
    go : (row : ℕ) (o t : Option Slot) → c.outer ≡ o → s.context.outer ≡ t → stands_before c s ≡ precedes (place row s.context) (context_start c)
        → stands_ahead c s ≡ stands_before c s
    go row None t e f is = rw e refl
    go row (Some outer) None e f is = rw (e, f) refl
    go row (Some outer) (Some slot) e f is =
        let inside : List ℕ = slot_place row s.context.inner ++ row ∷ [] in
        let here : stands_before c s ≡ precedes (first_row slot.group ∷ slot.index ∷ inside) (first_row outer.group ∷ outer.index ∷ slot_start c.inner) =
        is ∙ (ap (λ x. precedes (slot_place row x ++ inside) (context_start c)) f ∙
        ap (λ x. precedes (slot_place row (Some slot) ++ inside) (slot_start x ++ slot_start c.inner)) e) in
        let told : stands_ahead c s ≡ by_starts (first_row slot.group) slot.index (first_row outer.group) outer.index (stands_before c s) =
        rw (e, f) refl in
        told ∙ (ap (by_starts (first_row slot.group) slot.index (first_row outer.group) outer.index) here ∙
        (by_starts-is (first_row slot.group) slot.index (first_row outer.group) outer.index inside (slot_start c.inner) ∙ sym here))

    by : (w : (n : ℕ) × (row_of s.term s.context ≡ Some n)) → stands_ahead c s ≡ stands_before c s
    by w = go w.0 c.outer s.context.outer refl refl (ap (λ o. is_before c (option_map (λ (n : ℕ). place n s.context) o)) w.1)

-- ---- lists in listing order

module _ {A : Type 0} (f : A → Seat) (xs : List A) (c : Context) (n : IsNested c) (o : IsInOrder (map f xs)) where
  pub follows : (i j : ℕ) (d : A) → i < j → j < length xs → MayFollow (f (get_or xs i d)) (f (get_or xs j d))
  follows i j d l u =
      let v : i < length xs = omega (arith, l, u) in
      let w : j < length (map f xs) = rw (length-map xs f) u in
      subst (λ s. MayFollow s (f (get_or xs j d))) (get_or-map f xs i d (f d) v)
      (subst (λ s. MayFollow (get_or (map f xs) i (f d)) s) (get_or-map f xs j d (f d) u) (o.order i j (f d) l w))

  pub up_to : (i j : ℕ) → i ≤ j → (i ≡ j) ⊎ (i < j)
  up_to i j l = grind arith

  pub same_at : (i : ℕ) (d : A) → i < length xs → stands_ahead c (f (get_or xs i d)) ≡ stands_before c (f (get_or xs i d))
  same_at i d l =
      ahead-is c (f (get_or xs i d)) (subst (λ s. is_some (seat_place s) ≡ true) (get_or-map f xs i d (f d) l)
      (o.placed i (f d) (rw (length-map xs f) l)))

  pub before_first : IsPartitionedBy (λ x. stands_before c (f x)) xs
  before_first i j d l u h = elim (up_to i j l) [
    | inl e ↦ ap (λ k. stands_before c (f (get_or xs k d))) e ∙ h
    | inr m ↦ follow_before c _ _ (follows i j d m u) h
  ]

  pub ahead_first : IsPartitionedBy (λ x. stands_ahead c (f x)) xs
  ahead_first i j d l u h = same_at i d (omega (arith, l, u)) ∙ before_first i j d l u (sym (same_at j d u) ∙ h)

  pub ahead_point : (k : ℕ) → k ≤ length xs → IsPartitionPoint (λ x. stands_ahead c (f x) ≡ true) (λ x. stands_ahead c (f x) ≡ false) xs k
      → IsPartitionPoint (λ x. stands_before c (f x) ≡ true) (λ x. stands_before c (f x) ≡ false) xs k
  ahead_point k b point = (λ i d l u. sym (same_at i d (omega (arith, b, u))) ∙ point.0 i d l u, λ i d l u. sym (same_at i d u) ∙ point.1 i d l u)

  pub inside_first : (k : ℕ) → IsPartitionPoint (λ x. stands_before c (f x) ≡ true) (λ x. stands_before c (f x) ≡ false) xs k →
      IsPartitionedBy (λ x. is_in c (f x)) (drop k xs)
  inside_first k point i j d l u h =
      let v : k + j < length xs = omega (arith, u, length-drop k xs) in
      elim (up_to i j l) [
        | inl e ↦ ap (λ m. is_in c (f (get_or (drop k xs) m d))) e ∙ h
        | inr m ↦
            let behind : stands_before c (f (get_or xs (k + i) d)) ≡ false = point.1 (k + i) d (omega arith) (omega (arith, m, v)) in
            ap (λ y. is_in c (f y)) (get_or-drop k xs i d) ∙ follow_inside c _ _ n (follows (k + i) (k + j) d (omega (arith, m)) v) behind
            (ap (λ y. is_in c (f y)) (sym (get_or-drop k xs j d)) ∙ h)
      ]

  pub run-is : (k m : ℕ) → IsPartitionPoint (λ x. stands_before c (f x) ≡ true) (λ x. stands_before c (f x) ≡ false) xs k
      → IsPartitionPoint (λ x. is_in c (f x) ≡ true) (λ x. is_in c (f x) ≡ false) (drop k xs) m → filter (λ x. is_in c (f x)) xs ≡ take m (drop k xs)
  run-is k m first second = filter-run (λ x. is_in c (f x)) xs k m before within behind
    where
      at_place : (i : ℕ) (x : A) → slice_get xs i ≡ Some x → k ≤ i → (j : ℕ) × (k + j ≡ i) × (j < length (drop k xs)) × (get_or (drop k xs) j x ≡ x)
      at_place i x e l =
          let u : i < length xs = slice_get_within xs i x e in
          let s : k + (i - k) ≡ i = omega (arith, l) in
          (i - k, s, omega (arith, u, l, length-drop k xs), get_or-drop k xs (i - k) x ∙ (ap (λ z. get_or xs z x) s ∙ get_or_from_slice_get xs i x x e))

      before : (i : ℕ) (x : A) → slice_get xs i ≡ Some x → i < k → is_in c (f x) ≡ false
      before i x e l = go (is_in c (f x)) refl
        where
          ahead : stands_before c (f x) ≡ true
          ahead = ap (λ y. stands_before c (f y)) (sym (get_or_from_slice_get xs i x x e)) ∙ first.0 i x (omega arith) l

          go : (b : Bool) → is_in c (f x) ≡ b → is_in c (f x) ≡ false
          go true h = absurd (false≢true (sym (inside_not_before c (f x) n h) ∙ ahead))
          go false h = h

      within : (i : ℕ) (x : A) → slice_get xs i ≡ Some x → k ≤ i → i < k + m → is_in c (f x) ≡ true
      within i x e l u =
          let j = at_place i x e l in
          let v = j.1 in
          ap (λ y. is_in c (f y)) (sym j.3) ∙ second.0 j.0 x (omega arith) (omega (arith, u, v))

      behind : (i : ℕ) (x : A) → slice_get xs i ≡ Some x → k + m ≤ i → is_in c (f x) ≡ false
      behind i x e l =
          let j = at_place i x e (omega (arith, l)) in
          let v = j.1 in
          ap (λ y. is_in c (f y)) (sym j.3) ∙ second.1 j.0 x (omega (arith, l, v)) j.2

-- ---- where those that pass and those that don't part

-- the last of the first so many passes, and the one behind them doesn't
pub parts-at : {X : Type 0} (p : X → Bool) (xs : List X) (k : ℕ) → IsPartitionedBy p xs → k ≤ length xs
    → (0 < k → HoldsAt (λ x. p x ≡ true) xs (k - 1)) → (k < length xs → HoldsAt (λ x. p x ≡ false) xs k)
    → IsPartitionPoint (λ x. p x ≡ true) (λ x. p x ≡ false) xs k
parts-at p xs k h l before behind =
    (λ i d u v. h i (k - 1) d (omega (arith, v)) (omega (arith, v, l)) (before (omega (arith, v)) d), λ i d u v. go i d u v (p (get_or xs i d)) refl)
  where
    go : (i : ℕ) (d : _) → k ≤ i → i < length xs → (b : Bool) → p (get_or xs i d) ≡ b → p (get_or xs i d) ≡ false
    go i d u v false e = e
    go i d u v true e = absurd (false≢true (sym (behind (omega (arith, u, v)) d) ∙ h k i d u v e))

-- all before a place pass, and the one there doesn't
pub parts-before : {X : Type 0} (p : X → Bool) (xs : List X) (k : ℕ) → IsPartitionedBy p xs
    → ((i : ℕ) (d : X) → i < k → p (get_or xs i d) ≡ true) → HoldsAt (λ x. p x ≡ false) xs k
    → IsPartitionPoint (λ x. p x ≡ true) (λ x. p x ≡ false) xs k
parts-before p xs k h before stops = (λ i d u v. before i d v, λ i d u v. go i d u v (p (get_or xs i d)) refl)
  where
    go : (i : ℕ) (d : _) → k ≤ i → i < length xs → (b : Bool) → p (get_or xs i d) ≡ b → p (get_or xs i d) ≡ false
    go i d u v false e = e
    go i d u v true e = absurd (false≢true (sym (stops d) ∙ h k i d u v e))

-- ---- the law

partition : {X : Type 0} (p : X → Bool) (xs : List X) → IsPartitionedBy p xs → IsPartitionPoint (λ x. p x ≡ true) (λ x. p x ≡ false) xs (prefix_len p xs)
partition p xs h = (λ k d l u. prefix_len_passes p xs k d u, behind)
  where
    behind : (k : ℕ) (d : _) → prefix_len p xs ≤ k → k < length xs → p (get_or xs k d) ≡ false
    behind k d l u = go (p (get_or xs k d)) refl
      where
        go : (b : Bool) → p (get_or xs k d) ≡ b → p (get_or xs k d) ≡ false
        go false e = e
        go true e = absurd (false≢true (sym (prefix_len_stops p xs d (omega (arith, l, u))) ∙ h (prefix_len p xs) k d l u e))

pub law : (seats : List Seat) (c : Context) → IsInOrder seats → IsNested c → (k m : ℕ) × (filter (is_in c) seats ≡ take m (drop k seats))
law seats c o n =
    let same : map (λ (s : Seat). s) seats ≡ seats = map_itself seats in
    let order : IsInOrder (map (λ (s : Seat). s) seats) = subst IsInOrder (sym same) o in
    let first = partition (stands_before c) seats (before_first (λ s. s) seats c n order) in
    let second = partition (is_in c) (drop (prefix_len (stands_before c) seats) seats) (inside_first (λ s. s) seats c n order _ first) in
    (_, _, run-is (λ s. s) seats c n order _ _ first second)
  where
    map_itself : (xs : List Seat) → map (λ (s : Seat). s) xs ≡ xs
    map_itself [] = refl
    map_itself (x ∷ xs) = ap (λ z. x ∷ z) (map_itself xs)

pub nested : (s : Seat) (place : List ℕ) → seat_place s ≡ Some place → IsNested s.context
nested s p h =
    let a = at-place s p h in
    go s.context.outer s.context.inner refl refl a.0
  where
    go : (o i : Option Slot) → s.context.outer ≡ o → s.context.inner ≡ i → At s → (is_some s.context.outer || is_none s.context.inner) ≡ true
    go (Some o) i e f a = rw e refl
    go None None e f a = rw (e, f) refl
    go None (Some i) e f a = let u = outer_slot s a i f in absurd (let k : None ≡ Some u.0 = sym e ∙ u.1 in cc)
