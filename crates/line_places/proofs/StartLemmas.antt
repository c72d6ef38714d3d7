-- Starts that rise: how many of them are reached by a place, found by halving.
use Rattle.std.proofs.Common.{◌≡◌, ℕ, ◌+◌, ◌<◌, ◌≤◌, zero, suc, Bool, true, false, List, [], ◌∷◌, ◌++◌, length, get_or, refl, sym, ap, ◌∙◌, if◌then◌else◌}
use Rattle.std.proofs.Common.{arith}
use Rattle.std.specs.List.Sorted.{IsNonDecreasing, IsPartitionPoint}
use Rattle.std.proofs.lemmas.Bool.Decides.{nat_tests}
use lib.Dec.{leb}
use Rattle.line_places.specs.Places.{Rise, count_to}

-- ---- more bytes

pub rise_more : (low high more : ℕ) (starts : List ℕ) → Rise low starts high → high ≤ more → Rise low starts more
rise_more low high more [] rise few = omega (arith, rise, few)
rise_more low high more (start ∷ starts) rise few = (rise.0, rise_more start high more starts rise.1 few)

pub rise_push : (low high next : ℕ) (starts : List ℕ) → Rise low starts high → high < next → Rise low (starts ++ next ∷ []) next
rise_push low high next [] rise past = (omega (arith, rise, past), omega arith)
rise_push low high next (start ∷ starts) rise past = (rise.0, rise_push start high next starts rise.1 past)

-- ---- bounds

pub rise_count : (low high : ℕ) (starts : List ℕ) → Rise low starts high → low + length starts ≤ high
rise_count low high [] rise = omega (arith, rise)
rise_count low high (start ∷ starts) rise = omega (arith, rise.0, rise_count start high starts rise.1)

rise_above : (low high : ℕ) (starts : List ℕ) → Rise low starts high → (k d : ℕ) → k < length starts → low < get_or starts k d
rise_above low high [] rise k d few = absurd (omega (arith, few))
rise_above low high (start ∷ starts) rise zero d few = rise.0
rise_above low high (start ∷ starts) rise (suc k) d few = omega (arith, rise.0, rise_above start high starts rise.1 k d (omega (arith, few)))

pub never_falls : (low high : ℕ) (starts : List ℕ) → Rise low starts high → IsNonDecreasing starts
never_falls low high [] rise i j d le few = absurd (omega (arith, few))
never_falls low high (start ∷ starts) rise zero zero d le few = omega arith
never_falls low high (start ∷ starts) rise zero (suc j) d le few =
    let above = rise_above start high starts rise.1 j d (omega (arith, few)) in omega (arith, above)
never_falls low high (start ∷ starts) rise (suc i) zero d le few = absurd (omega (arith, le))
never_falls low high (start ∷ starts) rise (suc i) (suc j) d le few = never_falls start high starts rise.1 i j d (omega (arith, le)) (omega (arith, few))

-- ---- how many are reached

pub count_within : (place : ℕ) (starts : List ℕ) → count_to place starts ≤ length starts
count_within place [] = omega arith
count_within place (start ∷ starts) = by (leb start place) (count_within place starts)
  where
    by : (t : Bool) → count_to place starts ≤ length starts → (if t then suc (count_to place starts) else count_to place starts) ≤ suc (length starts)
    by true rest = omega (arith, rest)
    by false rest = omega (arith, rest)

none_reached : (low high place : ℕ) (starts : List ℕ) → Rise low starts high → place ≤ low → count_to place starts ≡ 0
none_reached low high place [] rise past = refl
none_reached low high place (start ∷ starts) rise past =
    let above : leb start place ≡ false = grind (arith, nat_tests, rise.0, past) in
    rw above (none_reached start high place starts rise.1 (omega (arith, rise.0, past)))

-- The last start that is reached is no higher than the place.
pub start_reached : (low high place : ℕ) (starts : List ℕ) → Rise low starts high → low ≤ place → get_or (low ∷ starts) (count_to place starts) 0 ≤ place
start_reached low high place [] rise at = at
start_reached low high place (start ∷ starts) rise at = by (leb start place) refl (start_reached start high place starts rise.1)
  where
    by : (t : Bool) → leb start place ≡ t → (start ≤ place → get_or (start ∷ starts) (count_to place starts) 0 ≤ place)
        → get_or (low ∷ (start ∷ starts)) (if t then suc (count_to place starts) else count_to place starts) 0 ≤ place
    by true is rest = rest (grind (arith, nat_tests, is))
    by false is rest =
        let past : place ≤ start = grind (arith, nat_tests, is) in
        rw (none_reached start high place starts rise.1 past) at

-- ---- halving

none_counted : (place : ℕ) (starts : List ℕ) → ((k d : ℕ) → k < length starts → leb (get_or starts k d) place ≡ false) → count_to place starts ≡ 0
none_counted place [] fails = refl
none_counted place (start ∷ starts) fails = rw (fails 0 0 (omega arith)) (none_counted place starts (λ k d few. fails (suc k) d (omega (arith, few))))

pub counted_by_halving : (place : ℕ) (starts : List ℕ) (i : ℕ) → i ≤ length starts
    → IsPartitionPoint (λ start. leb start place ≡ true) (λ start. leb start place ≡ false) starts i → i ≡ count_to place starts
counted_by_halving place starts zero few parts = sym (none_counted place starts (λ k d l. parts.1 k d (omega arith) l))
counted_by_halving place [] (suc i) few parts = absurd (omega (arith, few))
counted_by_halving place (start ∷ starts) (suc i) few parts =
    rw (parts.0 0 0 (omega arith) (omega arith)) (ap suc (counted_by_halving place starts i (omega (arith, few))
    (λ k d lo hi. parts.0 (suc k) d (omega arith) (omega (arith, hi)), λ k d lo hi. parts.1 (suc k) d (omega (arith, lo)) (omega (arith, hi)))))
