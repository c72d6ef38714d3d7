-- One order of all items: by kind, then by value. Untyped text is a string, and nodes are all alike.
use Rattle.std.specs.Prelude.{ℕ, Bool, true, List, [], ℤ, pos}
use Rattle.std.specs.declared.cmp.Ordering.{Ordering}
use Rattle.std.specs.List.{list_any}
use Rattle.std.specs.Ordering.{nat_cmp, int_cmp, on, then_cmp, is_eq}
use Rattle.std.specs.Cmp.{IsTotalOrder, nat_cmp_total, int_cmp_total, on_total, then_total}
use Rattle.std.specs.Cmp.Lexicographic.{slice_cmp, nat_list_cmp_total}
use Rattle.xpath_items.specs.declared.item.Item.{Item}
use Rattle.xpath_items.specs.declared.item.Item.TheVariants as i

abbrev pub rank : Item → ℕ
rank (i.Node n) = 0
rank (i.Boolean b) = 1
rank (i.Number z) = 2
rank (i.String s) = 3
rank (i.Untyped s) = 3
rank (i.Date day) = 4

-- The parts of a value by which items of one kind are compared: those of other kinds are alike.

abbrev pub text_part : Item → List ℕ
text_part (i.String s) = s
text_part (i.Untyped s) = s
text_part _ = []

abbrev pub number_part : Item → ℤ
number_part (i.Number z) = z
number_part (i.Boolean true) = pos 1
number_part _ = pos 0

abbrev pub year_part : Item → ℕ
year_part (i.Date day) = day.year
year_part _ = 0

abbrev pub month_part : Item → ℕ
month_part (i.Date day) = day.month
month_part _ = 0

abbrev pub day_part : Item → ℕ
day_part (i.Date day) = day.day
day_part _ = 0

abbrev pub item_cmp : Item → Item → Ordering
item_cmp =
    then_cmp (on rank nat_cmp)
    (then_cmp (on text_part (slice_cmp nat_cmp))
    (then_cmp (on number_part int_cmp) (then_cmp (on year_part nat_cmp) (then_cmp (on month_part nat_cmp) (on day_part nat_cmp)))))

-- It is a total order.
pub item_cmp_total : IsTotalOrder item_cmp
item_cmp_total =
    then_total (on_total rank nat_cmp_total)
    (then_total (on_total text_part nat_list_cmp_total)
    (then_total (on_total number_part int_cmp_total)
    (then_total (on_total year_part nat_cmp_total) (then_total (on_total month_part nat_cmp_total) (on_total day_part nat_cmp_total)))))

-- an item is as one of them
abbrev pub has_alike : List Item → Item → Bool
has_alike items x = list_any (λ y. is_eq (item_cmp x y)) items
