-- Marks in their order: halving finds how many come before one.
use Rattle.std.proofs.Common.{◌≡◌, ℕ, ◌+◌, ◌-◌, ◌<◌, ◌≤◌, zero, suc, Bool, true, false, ◌&&◌, ◌||◌, List, [], ◌∷◌, length, get_or, refl, sym, ap, ◌∙◌, cond}
use Rattle.std.proofs.Common.{not, inl, inr, arith, Option, Some, None, ◌++◌}
use Rattle.std.specs.Prelude.{nat_lt, filter, slice_get}
use Rattle.std.specs.List.{list_all, dedup, dedup_from, AllByRecursion}
use Rattle.std.specs.List.Sorted.{IsPartitionedBy, IsPartitionPoint, IsSorted, IsStrictlySortedBy}
use Rattle.std.specs.Ordering.{nat_cmp, ordering_then, eq_by_cmp}
use Rattle.std.specs.Cmp.{IsTotalOrder}
use Rattle.std.proofs.lemmas.Cmp.{nat_cmp_total, then_total, on_total}
use Rattle.std.proofs.lemmas.List.Kept.{IsStrictlySortedBy-dedup}
use Rattle.std.proofs.lemmas.Option.{none-some}
use lib.Dec.{eqb, leb}
use Rattle.std.specs.declared.cmp.Ordering.{Ordering}
use Rattle.std.specs.declared.cmp.Ordering.TheVariants.{Less}
use Rattle.std.proofs.lemmas.Bool.{and_parts, and_from, or_right, lt-ltb, le-ltb, le-leb, cases_Bool}
use Rattle.std.proofs.lemmas.Bool.Decides.{nat_tests}
use Rattle.bind_seats.specs.declared.marks.Mark.{Mark}
use Rattle.bind_seats.specs.Marks.{is_beside, same_mark, comes_before, comes_before_kind, rises, has_mark, is_lower}

-- ---- tests of two marks

abbrev pub one_if : Bool → ℕ
one_if b = cond b 1 0

before-later : (a b m : Mark) → comes_before a b ≡ true → comes_before b m ≡ true → comes_before a m ≡ true
before-later a b m h k = grind (arith, nat_tests)

before_kind-later : (a b m : Mark) → comes_before a b ≡ true → comes_before_kind b m ≡ true → comes_before_kind a m ≡ true
before_kind-later a b m h k = grind (arith, nat_tests)

before-parts : (k m : Mark) → one_if (comes_before k m) ≡ one_if (comes_before_kind k m) + one_if (is_lower m k)
before-parts k m = grind (arith, nat_tests)

before-other : (k m : Mark) → comes_before k m ≡ true → same_mark m k ≡ false
before-other k m h = grind (arith, nat_tests)

before-not_after : (a b m : Mark) → comes_before a m ≡ false → comes_before a b ≡ true → comes_before b m ≡ false
before-not_after a b m h k = grind (arith, nat_tests)

behind-other : (a b m : Mark) → comes_before a m ≡ false → comes_before a b ≡ true → same_mark m b ≡ false
behind-other a b m h k = grind (arith, nat_tests)

-- ---- lists that are parted by a test

pub all-at : {X : Type 0} (p : X → Bool) (xs : List X) (k : ℕ) (d : X) → list_all p xs ≡ true → k < length xs → p (get_or xs k d) ≡ true
all-at p [] k d h l = absurd (omega arith)
all-at p (x ∷ xs) zero d h l = (and_parts (p x) (list_all p xs) h).0
all-at p (x ∷ xs) (suc k) d h l = all-at p xs k d (and_parts (p x) (list_all p xs) h).1 (omega arith)

pub parted : (p : Mark → Bool) → ((a b : Mark) → comes_before a b ≡ true → p b ≡ true → p a ≡ true) → (ms : List Mark) → rises ms ≡ true → IsPartitionedBy p ms
parted p down [] r i j d le l h = absurd (omega arith)
parted p down (m ∷ ms) r zero zero d le l h = h
parted p down (m ∷ ms) r zero (suc j) d le l h =
    down m (get_or ms j d) (all-at (comes_before m) ms j d (and_parts (list_all (comes_before m) ms) (rises ms) r).0 (omega arith)) h
parted p down (m ∷ ms) r (suc i) zero d le l h = absurd (omega arith)
parted p down (m ∷ ms) r (suc i) (suc j) d le l h =
    parted p down ms (and_parts (list_all (comes_before m) ms) (rises ms) r).1 i j d (omega arith) (omega arith) h

none-counted : {X : Type 0} (p : X → Bool) (xs : List X) → ((k : ℕ) (d : X) → k < length xs → p (get_or xs k d) ≡ false) → length (filter p xs) ≡ 0
none-counted p [] h = refl
none-counted p (x ∷ xs) h = rw (h 0 x (omega arith)) (none-counted p xs (λ k d l. h (suc k) d (omega arith)))

pub counted : {X : Type 0} (p : X → Bool) (xs : List X) (i : ℕ) → i ≤ length xs → IsPartitionPoint (λ x. p x ≡ true) (λ x. p x ≡ false) xs i
    → i ≡ length (filter p xs)
counted p xs zero le h = sym (none-counted p xs (λ k d l. h.1 k d (omega arith) l))
counted p [] (suc i) le h = absurd (omega arith)
counted p (x ∷ xs) (suc i) le h =
    rw (h.0 0 x (omega arith) (omega arith))
    (ap suc (counted p xs i (omega arith) (λ k d lo hi. h.0 (suc k) d (omega arith) (omega arith), λ k d lo hi. h.1 (suc k) d (omega arith) (omega arith))))

pub before_is_parted : (ms : List Mark) (m : Mark) → rises ms ≡ true → IsPartitionedBy (λ k. comes_before k m) ms
before_is_parted ms m r = parted (λ k. comes_before k m) (λ a b. before-later a b m) ms r

pub before_kind_is_parted : (ms : List Mark) (m : Mark) → rises ms ≡ true → IsPartitionedBy (λ k. comes_before_kind k m) ms
before_kind_is_parted ms m r = parted (λ k. comes_before_kind k m) (λ a b. before_kind-later a b m) ms r

-- ---- the place of a mark

length-cons : {X : Type 0} (p : X → Bool) (x : X) (xs : List X) → length (filter p (x ∷ xs)) ≡ one_if (p x) + length (filter p xs)
length-cons p x xs = grind arith

pub counts : (m : Mark) (ms : List Mark)
    → length (filter (λ k. comes_before k m) ms) ≡ length (filter (λ k. comes_before_kind k m) ms) + length (filter (is_lower m) ms)
counts m [] = refl
counts m (k ∷ ms) =
    omega (
      arith,
      length-cons (λ x. comes_before x m) k ms,
      length-cons (λ x. comes_before_kind x m) k ms,
      length-cons
          (is_lower m) k ms,
      before-parts k m,
      counts m ms,
    )

-- ---- a mark that is looked up

none-same : (k m : Mark) (ms : List Mark) → comes_before k m ≡ false → list_all (comes_before k) ms ≡ true
    → (length (filter (λ x. comes_before x m) ms) ≡ 0) × (has_mark ms m ≡ false)
none-same k m [] h a = (refl, refl)
none-same k m (x ∷ ms) h a =
    let both = and_parts (comes_before k x) (list_all (comes_before k) ms) a in
    let rest = none-same k m ms h both.1 in
    (rw (before-not_after k x m h both.0) rest.0, rw (behind-other k x m h both.0) rest.1)

lt-suc : (a b : ℕ) → nat_lt (suc a) (suc b) ≡ nat_lt a b
lt-suc a b = grind (arith, nat_tests)

or-false : (b : Bool) → (b || false) ≡ b
or-false true = refl
or-false false = refl

-- what `found` says of a list
abbrev Found : Mark → List Mark → Mark → Type 0
Found m ms d =
    has_mark ms m ≡ (nat_lt (length (filter (λ x. comes_before x m) ms)) (length ms) && same_mark m (get_or ms (length (filter (λ x. comes_before x m) ms)) d))

found-cons : (m k : Mark) (ms : List Mark) (d : Mark) (b : Bool) → comes_before k m ≡ b → list_all (comes_before k) ms ≡ true → Found m ms d
    → Found m (k ∷ ms) d
found-cons m k ms d true e all h =
    rw (e, before-other k m e) (h ∙ ap (λ b. b && same_mark m (get_or ms (length (filter (λ x. comes_before x m) ms)) d))
    (sym (lt-suc (length (filter (λ x. comes_before x m) ms)) (length ms))))
found-cons m k ms d false e all h = let none = none-same k m ms e all in
    rw (e, none.0, none.1) (or-false (same_mark m k) ∙ ap (λ b. b && same_mark m k) (sym (lt-ltb 0 (suc (length ms)) (omega arith))))

pub found : (m : Mark) (ms : List Mark) (d : Mark) → rises ms ≡ true → Found m ms d
found m [] d r = refl
found m (k ∷ ms) d r =
    let parts = and_parts (list_all (comes_before k) ms) (rises ms) r in
    found-cons m k ms d (comes_before k m) refl parts.0 (found m ms d parts.1)

-- ---- marks that are sorted, each once

-- the order and the equality of marks in the code's own words
abbrev pub mark_cmp : Mark → Mark → Ordering
mark_cmp a b = ordering_then (nat_cmp a.around b.around) (ordering_then (nat_cmp a.kind b.kind) (nat_cmp a.number b.number))

abbrev pub mark_eq : Mark → Mark → Bool
mark_eq a b = eqb a.around b.around && (eqb a.kind b.kind && eqb a.number b.number)

mark_cmp-total : IsTotalOrder mark_cmp
mark_cmp-total = then_total (on_total (λ (m : Mark). m.around) nat_cmp_total)
    (then_total (on_total (λ (m : Mark). m.kind) nat_cmp_total) (on_total (λ (m : Mark). m.number) nat_cmp_total))

pub mark_eq-same : (a b : Mark) → mark_eq a b ≡ same_mark b a
mark_eq-same a b = grind (arith, nat_tests)

mark_eq-cmp : (a b : Mark) → mark_eq a b ≡ eq_by_cmp mark_cmp a b
mark_eq-cmp a b = grind (arith, nat_tests)

cmp-before : (a b : Mark) → mark_cmp a b ≡ Less → comes_before a b ≡ true
cmp-before a b h = grind (arith, nat_tests)

all-before : (m : Mark) (ms : List Mark) → AllByRecursion (λ y. mark_cmp m y ≡ Less) ms → list_all (comes_before m) ms ≡ true
all-before m [] h = refl
all-before m (k ∷ ms) h = and_from (comes_before m k) _ (cmp-before m k h.0) (all-before m ms h.1)

strict-rises : (ms : List Mark) → IsStrictlySortedBy mark_cmp ms → rises ms ≡ true
unfolding IsStrictlySortedBy
strict-rises [] h = refl
strict-rises (m ∷ ms) h = and_from (list_all (comes_before m) ms) (rises ms) (all-before m ms h.0) (strict-rises ms h.1)

pub dedup-rises : (ms : List Mark) → IsSorted mark_cmp ms → rises (dedup mark_eq ms) ≡ true
dedup-rises ms h = strict-rises _ (IsStrictlySortedBy-dedup mark_cmp-total mark_eq-cmp ms h)

same-alike : (m a b : Mark) → mark_eq a b ≡ true → same_mark m a ≡ same_mark m b
same-alike m a b h = grind (arith, nat_tests)

or-twice : (a b r : Bool) → a ≡ b → (b || r) ≡ (b || (a || r))
or-twice true true r e = refl
or-twice false false r e = refl
or-twice true false r e = cc
or-twice false true r e = cc

-- A mark that is the last of some already makes no difference behind them.
pub last-twice : (ms : List Mark) (last mark : Mark) → Some last ≡ slice_get ms (length ms - 1) → mark_eq last mark ≡ true → (rest : List Mark) (m : Mark)
    → has_mark (ms ++ rest) m ≡ has_mark (ms ++ (mark ∷ rest)) m
last-twice [] last mark is same rest m = absurd (none-some last (sym is))
last-twice (x ∷ []) last mark is same rest m =
    let it : last ≡ x = ap (λ (found : Option Mark). elim found [ None ↦ x | (Some k) ↦ k ]) is in
    let alike : mark_eq x mark ≡ true = ap (λ k. mark_eq k mark) (sym it) ∙ same in
    or-twice (same_mark m mark) (same_mark m x) (has_mark rest m) (sym (same-alike m x mark alike))
last-twice (x ∷ (y ∷ ms)) last mark is same rest m =
    let one : length (x ∷ (y ∷ ms)) - 1 ≡ suc (length (y ∷ ms) - 1) = omega arith in
    ap (λ b. same_mark m x || b) (last-twice (y ∷ ms) last mark (is ∙ ap (slice_get (x ∷ (y ∷ ms))) one) same rest m)

dedup_from-has : (k : Mark) (ms : List Mark) (m : Mark) → has_mark (dedup_from mark_eq k ms) m ≡ has_mark (k ∷ ms) m
dedup_from-has k [] m = refl
dedup_from-has k (x ∷ ms) m = go (mark_eq x k) refl (dedup_from-has k ms m) (dedup_from-has x ms m)
  where
    go : (b : Bool) → mark_eq x k ≡ b → has_mark (dedup_from mark_eq k ms) m ≡ has_mark (k ∷ ms) m → has_mark (dedup_from mark_eq x ms) m ≡ has_mark (x ∷ ms) m
        → has_mark (dedup_from mark_eq k (x ∷ ms)) m ≡ has_mark (k ∷ (x ∷ ms)) m
    go true e h l = rw e (h ∙ or-twice (same_mark m x) (same_mark m k) (has_mark ms m) (same-alike m x k e))
    go false e h l = rw e (ap (λ b. same_mark m k || b) l)

pub dedup-has : (ms : List Mark) (m : Mark) → has_mark (dedup mark_eq ms) m ≡ has_mark ms m
dedup-has [] m = refl
dedup-has (k ∷ ms) m = dedup_from-has k ms m

pub found-at : (m : Mark) (ms : List Mark) (n : ℕ) → rises ms ≡ true → n ≡ length (filter (λ x. comes_before x m) ms) → n < length ms
    → mark_eq (get_or ms n (record { around = 0; kind = 0; number = 0 })) m ≡ has_mark ms m
found-at m ms n r e l =
    let z : Mark = record { around = 0; kind = 0; number = 0 } in
    mark_eq-same (get_or ms n z) m ∙ (ap (λ b. b && same_mark m (get_or ms n z)) (sym (lt-ltb n (length ms) l))
    ∙ (ap (λ k. nat_lt k (length ms) && same_mark m (get_or ms k z)) e ∙ sym (found m ms z r)))

pub found-nowhere : (m : Mark) (ms : List Mark) (n : ℕ) → rises ms ≡ true → n ≡ length (filter (λ x. comes_before x m) ms) → length ms ≤ n
    → nat_lt n (length ms) ≡ has_mark ms m
found-nowhere m ms n r e l =
    let z : Mark = record { around = 0; kind = 0; number = 0 } in
    le-ltb n (length ms) l ∙ (ap (λ b. b && same_mark m (get_or ms n z)) (sym (le-ltb n (length ms) l))
    ∙ (ap (λ k. nat_lt k (length ms) && same_mark m (get_or ms k z)) e ∙ sym (found m ms z r)))

-- ---- no more marks have a smaller number than there are such numbers

at_least : Mark → ℕ → Mark → Bool
at_least m n k = not (is_beside m k) || leb n k.number

all-follow : {X : Type 0} (p q : X → Bool) → ((x : X) → p x ≡ true → q x ≡ true) → (xs : List X) → list_all p xs ≡ true → list_all q xs ≡ true
all-follow p q f [] h = refl
all-follow p q f (x ∷ xs) h = let both = and_parts (p x) (list_all p xs) h in and_from (q x) (list_all q xs) (f x both.0) (all-follow p q f xs both.1)

after-least : (m k x : Mark) → is_lower m k ≡ true → comes_before k x ≡ true → at_least m (k.number + 1) x ≡ true
unfolding at_least
after-least m k x h b = grind (arith, nat_tests)

one-lower : (m k : Mark) (n : ℕ) → is_lower m k ≡ true → at_least m n k ≡ true → (n ≤ k.number) × (k.number < m.number)
unfolding at_least
one-lower m k n h a = (grind (arith, nat_tests), grind (arith, nat_tests))

few-from : (m : Mark) (n : ℕ) (ms : List Mark) → rises ms ≡ true → list_all (at_least m n) ms ≡ true → length (filter (is_lower m) ms) ≤ m.number - n
few-from m n [] r a = omega arith
few-from m n (k ∷ ms) r a =
    let parts = and_parts (list_all (comes_before k) ms) (rises ms) r in
    let rest = and_parts (at_least m n k) (list_all (at_least m n) ms) a in
    elim (cases_Bool (is_lower m k)) [
      | inl e ↦ (let more = few-from m (k.number + 1) ms parts.1
          (all-follow (comes_before k) (at_least m (k.number + 1)) (λ x. after-least m k x e) ms parts.0) in
          let at = one-lower m k n e rest.0 in
          rw e (omega arith))
      | inr e ↦ rw e (few-from m n ms parts.1 rest.1)
    ]

from-zero : (m : Mark) (ms : List Mark) → list_all (at_least m 0) ms ≡ true
unfolding at_least
from-zero m [] = refl
from-zero m (k ∷ ms) = and_from (at_least m 0 k) _ (or_right (not (is_beside m k)) (leb 0 k.number) (le-leb 0 k.number (omega arith))) (from-zero m ms)

pub few-lower : (m : Mark) (ms : List Mark) → rises ms ≡ true → length (filter (is_lower m) ms) ≤ m.number
few-lower m ms r = omega (arith, few-from m 0 ms r (from-zero m ms))
