-- The occurrences of an element: those in which a line is written, in rising order.
use Rattle.std.proofs.Common.{◌≡◌, ℕ, ◌+◌, ◌<◌, suc, zero, true, ◌&&◌, ◌||◌, Option, Some, None, List, [], ◌∷◌, map, refl, sym, ap, ◌∙◌, arith}
use Rattle.std.specs.Prelude.{◌==◌, nat_lt}
use Rattle.std.specs.List.{range_with_len}
use Rattle.std.proofs.lemmas.Bool.Decides.{nat_tests}
use Rattle.term_table.specs.declared.groups.Group.{Group}
use Rattle.term_table.specs.declared.contexts.Slot.{Slot}
use Rattle.term_table.specs.declared.contexts.Context.{Context}
use Rattle.inv_terms.specs.declared.entries.Entry.{Entry}
use Rattle.bind_rows.specs.declared.rows.Step.{Step}
use Rattle.bind_meaning.specs.Trees.{spots, spots_of, or_here, outer_spots, inner_spots, outer_count, inner_count}
use Rattle.binding_laws.proofs.TreeLemmas.{Each}
use Rattle.binding_laws.proofs.ListLemmas.{map-map}
use Rattle.address_laws.specs.AddressTrees.{Place, comes_before}
use Rattle.address_laws.specs.Addresses.{Turn, turns, turn_of, group_turns, how_often, or_once}
use Rattle.address_laws.proofs.Orders.{Rising}

abbrev pub place_of : Step → Turn → Place
place_of s t = record { step = s; occurrence = t.occurrence }

abbrev context_of : Turn → Context
context_of t = t.context

-- ---- the contexts

once-here : (c : Context) (ts : List Turn) (cs : List Context) → map context_of ts ≡ cs → map context_of (or_once c ts) ≡ or_here c cs
once-here c [] cs e = ap (or_here c) e
once-here c (t ∷ ts) cs e = ap (or_here c) e

abbrev by_outer : List Entry → Group → Option Slot → List Context
by_outer es group None = outer_spots group (outer_count es group)
by_outer es group (Some outer) = inner_spots outer group (inner_count es outer group)

group-contexts : (es : List Entry) (outer : Option Slot) (c : Context) (group : Group) → c.outer ≡ outer →
    map context_of (group_turns es outer group) ≡ spots_of es c group
group-contexts es None c group e = map-map context_of (turn_of None group) (range_with_len 1 (outer_count es group)) ∙ ap (by_outer es group) (sym e)
group-contexts es (Some outer) c group e = map-map context_of (turn_of (Some outer) group) (range_with_len 1 (inner_count es outer group)) ∙
    ap (by_outer es group) (sym e)

pub turn-contexts : (es : List Entry) (c : Context) (group : Option Group) → map context_of (turns es c group) ≡ spots es c group
turn-contexts es c None = refl
turn-contexts es c (Some group) = once-here c (group_turns es c.outer group) (spots_of es c group) (group-contexts es c.outer c group refl)

-- ---- their order

number-later : (m k j : ℕ) → k < j → (nat_lt m m || ((m == m) && nat_lt k j)) ≡ true
number-later m k j l = grind (arith, nat_tests)

later : (k j : ℕ) (n : ℕ) → k < j → (s : Step) (outer : Option Slot) (group : Group)
    → Each (λ q. comes_before (record { step = s; occurrence = k }) q ≡ true) (map (place_of s) (map (turn_of outer group) (range_with_len j n)))
later k j zero l s outer group = tt
later k j (suc n) l s outer group = (number-later s.number k j l, later k (j + 1) n (omega (arith, l)) s outer group)

range-rising : (s : Step) (outer : Option Slot) (group : Group) (j n : ℕ) → Rising (map (place_of s) (map (turn_of outer group) (range_with_len j n)))
range-rising s outer group j zero = tt
range-rising s outer group j (suc n) = (later j (j + 1) n (omega arith) s outer group, range-rising s outer group (j + 1) n)

once-rising : (s : Step) (c : Context) (ts : List Turn) → Rising (map (place_of s) ts) → Rising (map (place_of s) (or_once c ts))
once-rising s c [] r = (tt, tt)
once-rising s c (t ∷ ts) r = r

pub turns-rising : (es : List Entry) (s : Step) (c : Context) (group : Option Group) → Rising (map (place_of s) (turns es c group))
turns-rising es s c None = (tt, tt)
turns-rising es s c (Some group) = once-rising s c (group_turns es c.outer group) (range-rising s c.outer group 1 (how_often es c.outer group))
