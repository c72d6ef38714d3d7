-- Marks in their order, each once, and the place of a mark among those that stand beside it.
use Rattle.std.specs.Prelude.{ℕ, ◌+◌, ◌==◌, nat_lt, Bool, true, ◌&&◌, ◌||◌, List, [], ◌∷◌, length, filter}
use Rattle.std.specs.List.{list_any, list_all}
use Rattle.bind_seats.specs.declared.marks.Mark.{Mark}

-- Both are of one kind in one node.
abbrev pub is_beside : Mark → Mark → Bool
is_beside a b = (a.around == b.around) && (a.kind == b.kind)

abbrev pub same_mark : Mark → Mark → Bool
same_mark a b = is_beside a b && (a.number == b.number)

-- The first stands before the second: its node comes first, or is the same and its kind comes first, and so on.
abbrev pub comes_before : Mark → Mark → Bool
comes_before a b = nat_lt a.around b.around
    || ((a.around == b.around) && (nat_lt a.kind b.kind || ((a.kind == b.kind) && nat_lt a.number b.number)))

-- The first stands before all that are beside the second.
abbrev pub comes_before_kind : Mark → Mark → Bool
comes_before_kind a b = nat_lt a.around b.around || ((a.around == b.around) && nat_lt a.kind b.kind)

-- Each mark stands before all that follow it.
abbrev pub rises : List Mark → Bool
rises [] = true
rises (m ∷ ms) = list_all (comes_before m) ms && rises ms

abbrev pub has_mark : List Mark → Mark → Bool
has_mark ms m = list_any (same_mark m) ms

-- The second stands beside the first and has a smaller number.
abbrev pub is_lower : Mark → Mark → Bool
is_lower m k = is_beside m k && nat_lt k.number m.number

-- the place of a mark among those beside it, from 1
abbrev pub place_of : List Mark → Mark → ℕ
place_of ms m = 1 + length (filter (is_lower m) ms)
