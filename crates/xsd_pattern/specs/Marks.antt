-- Operators with a mark at each character that may just have been read: each mark stands for one partial derivative, what may
-- still come behind it.
use Rattle.std.specs.Prelude.{ℕ, Bool, true, false, ◌&&◌, ◌||◌, List, [], ◌∷◌}
use Rattle.xsd_pattern.specs.Core.{Core, is_empty}
use Rattle.xsd_pattern.specs.Core as r

pub data Marked (C : Type 0) : Type 0 where
  nothing : Marked C
  one : C → Bool → Marked C
  both : Marked C → Marked C → Marked C
  either : Marked C → Marked C → Marked C
  maybe : Marked C → Marked C
  again : Marked C → Marked C

abbrev pub plain : {C : Type 0} → Marked C → Core C
plain nothing = r.nothing
plain (one class mark) = r.one class
plain (both x y) = r.both (plain x) (plain y)
plain (either x y) = r.either (plain x) (plain y)
plain (maybe x) = r.maybe (plain x)
plain (again x) = r.again (plain x)

abbrev pub unmarked : {C : Type 0} → Core C → Marked C
unmarked r.nothing = nothing
unmarked (r.one class) = one class false
unmarked (r.both x y) = both (unmarked x) (unmarked y)
unmarked (r.either x y) = either (unmarked x) (unmarked y)
unmarked (r.maybe x) = maybe (unmarked x)
unmarked (r.again x) = again (unmarked x)

-- some mark is at the end
abbrev pub at_end : {C : Type 0} → Marked C → Bool
at_end nothing = false
at_end (one class mark) = mark
at_end (both x y) = at_end y || (at_end x && is_empty (plain y))
at_end (either x y) = at_end x || at_end y
at_end (maybe x) = at_end x
at_end (again x) = at_end x

-- the marks behind a character, which may begin here too
abbrev pub moved : {C : Type 0} → (C → ℕ → Bool) → ℕ → Bool → Marked C → Marked C
moved has c here nothing = nothing
moved has c here (one class mark) = one class (here && has class c)
moved has c here (both x y) = both (moved has c here x) (moved has c (at_end x || (here && is_empty (plain x))) y)
moved has c here (either x y) = either (moved has c here x) (moved has c here y)
moved has c here (maybe x) = maybe (moved has c here x)
moved has c here (again x) = again (moved has c (here || at_end x) x)

abbrev pub found : {C : Type 0} → (C → ℕ → Bool) → Marked C → List ℕ → Bool
found has x [] = at_end x
found has x (c ∷ text) = found has (moved has c false x) text

-- the text is one that they have
abbrev pub is_in : {C : Type 0} → (C → ℕ → Bool) → Core C → List ℕ → Bool
is_in has x [] = is_empty x
is_in has x (c ∷ text) = found has (moved has c true (unmarked x)) text
