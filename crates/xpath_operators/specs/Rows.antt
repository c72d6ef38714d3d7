-- Many items beside many others, where no pair needs a look of its own.
use Rattle.std.specs.Prelude.{ℕ, Bool, true, false, ◌&&◌, ◌||◌, ◌==◌, ◌≡◌, List, [], ◌∷◌, map, Option, Some, None, Result, Ok, Err, if◌then◌else◌}
use Rattle.std.specs.List.{list_any, list_all}
use Rattle.std.specs.Ordering.{is_eq, is_lt, is_gt}
use Rattle.std.specs.declared.cmp.Ordering.{Ordering}
use Rattle.xpath_grammar.specs.declared.operators.Op.{Op}
use Rattle.xpath_grammar.specs.declared.operators.Op.TheVariants as c
use Rattle.xpath_items.specs.declared.item.Item.{Item}
use Rattle.xpath_items.specs.declared.item.Item.TheVariants as i
use Rattle.xpath_items.specs.declared.outcome.DynError.{DynError}
use Rattle.xpath_items.specs.declared.outcome.DynError.TheVariants as e
use Rattle.xpath_meaning.specs.Values.{then_}
use Rattle.xpath_meaning.specs.Comparing.{is_general, holds, any_of, beside, some_pair}
use Rattle.xpath_operators.specs.Ranks.{rank, item_cmp}
use Rattle.xpath_operators.specs.declared.ranking.Ranked.{Ranked}

-- a value that has a type
abbrev pub is_typed : Item → Bool
is_typed (i.Node n) = false
is_typed (i.Untyped s) = false
is_typed _ = true

abbrev pub is_textual : Item → Bool
is_textual (i.String s) = true
is_textual (i.Untyped s) = true
is_textual _ = false

abbrev pub is_typed_as : ℕ → Item → Bool
is_typed_as kind item = is_typed item && rank item == kind

-- All on the right are of one type, or there are texts alone: what an item on the left is read as hangs on no one of
-- those on the right.
abbrev pub are_comparable : List Item → List Item → Bool
are_comparable xs [] = false
are_comparable xs (y ∷ ys) = list_all (is_typed_as (rank y)) (y ∷ ys) || (list_all is_textual xs && list_all is_textual (y ∷ ys))

-- an item as it is compared with those of the kind of another
abbrev pub of_kind : ℕ → Item → Result Item DynError
of_kind kind item = if is_typed_as kind item then Ok item else Err e.XPTY0004

abbrev pub row : Item → Item → Result Item DynError
row other item = then_ (beside other item) (of_kind (rank other))

-- the first row that passes, or the first error
abbrev pub rows : Item → (Item → Bool) → List Item → Result Bool DynError
rows other test xs = any_of (λ x. then_ (row other x) (λ a. Ok (test a))) xs

-- Each item is read so beside another, where something is answered.
abbrev pub AreRead : Item → List Item → Option (List Item) → Type 0
AreRead other items None = Unit {0}
AreRead other items (Some read) = map (row other) items ≡ map Ok read

-- In place of those on the right these may be compared, where something is answered.
abbrev pub AreAlike : List Item → List Item → Option (List Item) → Type 0
AreAlike xs ys None = Unit {0}
AreAlike xs ys (Some read) = (are_comparable xs read ≡ true) × ((op : Op) → is_general op ≡ true → some_pair op xs ys ≡ some_pair op xs read)

-- the comparison holds of an item and some of the others
abbrev pub holds_of_some : Op → List Item → Item → Bool
holds_of_some op ys a = list_any (λ y. holds op (item_cmp a y)) ys

-- the order of items that are lent
abbrev pub ranked_cmp : Ranked → Ranked → Ordering
ranked_cmp x y = item_cmp x.item.now y.item.now

-- an item is equal to one of them
abbrev pub is_in : List Ranked → Item → Bool
is_in ranked a = list_any (λ known. is_eq (item_cmp a known.item.now)) ranked

-- An item that is so ordered to another decides in its place: the greatest for `<`, the least for `>`.
abbrev pub decides : Op → Ordering → Bool
decides c.Less order = is_gt order
decides c.LessOrEqual order = is_gt order
decides _ order = is_lt order

abbrev pub is_order : Op → Bool
is_order c.Less = true
is_order c.LessOrEqual = true
is_order c.Greater = true
is_order c.GreaterOrEqual = true
is_order _ = false
