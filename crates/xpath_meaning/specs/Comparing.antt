-- Comparisons (XPath 2.0, section 3.5), at atomised operands. Text is compared by code points, and false is below true.
use Rattle.std.specs.Prelude.{ℕ, Bool, true, false, List, [], ◌∷◌, Result, Ok, Err}
use Rattle.std.specs.Ordering.{nat_cmp, int_cmp, bool_cmp, is_eq, is_ne, is_lt, is_le, is_gt, is_ge}
use Rattle.std.specs.declared.cmp.Ordering.{Ordering}
use Rattle.std.specs.Cmp.Lexicographic.{slice_cmp}
use Rattle.inv_decimal.specs.CivilDay.{day_cmp}
use Rattle.xpath_grammar.specs.declared.operators.Op.{Op}
use Rattle.xpath_grammar.specs.declared.operators.Op.TheVariants as c
use Rattle.xpath_items.specs.declared.item.Item.{Item}
use Rattle.xpath_items.specs.declared.item.Item.TheVariants as i
use Rattle.xpath_items.specs.declared.outcome.DynError.{DynError}
use Rattle.xpath_items.specs.declared.outcome.DynError.TheVariants as e
use Rattle.xpath_meaning.specs.Values.{Value, then_, one}
use Rattle.xpath_meaning.specs.Reading.{read_boolean, read_day, number_item, boolean_item, day_item, read_number}
use Rattle.xpath_meaning.specs.Numbers.{at_two}

-- `=` and its like compare any pair of items, `eq` and its like two items
abbrev pub is_general : Op → Bool
is_general c.Equal = true
is_general c.NotEqual = true
is_general c.Less = true
is_general c.LessOrEqual = true
is_general c.Greater = true
is_general c.GreaterOrEqual = true
is_general _ = false

-- the comparison holds of two items that are so ordered
abbrev pub holds : Op → Ordering → Bool
holds c.Equal = is_eq
holds c.NotEqual = is_ne
holds c.Less = is_lt
holds c.LessOrEqual = is_le
holds c.Greater = is_gt
holds c.GreaterOrEqual = is_ge
holds c.Eq = is_eq
holds c.Ne = is_ne
holds c.Lt = is_lt
holds c.Le = is_le
holds c.Gt = is_gt
holds c.Ge = is_ge

-- two items of one kind
abbrev pub ordering : Item → Item → Result Ordering DynError
ordering (i.Boolean a) (i.Boolean b) = Ok (bool_cmp a b)
ordering (i.Number a) (i.Number b) = Ok (int_cmp a b)
ordering (i.String a) (i.String b) = Ok (slice_cmp nat_cmp a b)
ordering (i.Date a) (i.Date b) = Ok (day_cmp a b)
ordering _ _ = Err e.XPTY0004

-- what untyped text is read as beside an item, in a general comparison (section 3.5.2)
abbrev pub read_beside : Item → List ℕ → Result Item DynError
read_beside (i.Number z) text = number_item (read_number text)
read_beside (i.Boolean b) text = boolean_item (read_boolean text)
read_beside (i.Date day) text = day_item (read_day text)
read_beside _ text = Ok (i.String text)

abbrev pub beside : Item → Item → Result Item DynError
beside other (i.Untyped text) = read_beside other text
beside other item = Ok item

-- in a value comparison it is a string (section 3.5.1)
abbrev pub as_text : Item → Item
as_text (i.Untyped text) = i.String text
as_text item = item

-- both items, as they are compared
abbrev pub made_alike : Bool → Item → Item → Result (Item × Item) DynError
made_alike true x y = then_ (beside y x) (λ a. then_ (beside x y) (λ b. Ok (a, b)))
made_alike false x y = Ok (as_text x, as_text y)

-- the comparison of two items
unfoldable pub compare : Op → Item → Item → Result Bool DynError
compare op x y = then_ (made_alike (is_general op) x y) (λ pair. then_ (ordering pair.0 pair.1) (λ order. Ok (holds op order)))

-- the first that holds, or the first error, whichever comes first
abbrev pub any_of : {X : Type 0} → (X → Result Bool DynError) → List X → Result Bool DynError
any_of f [] = Ok false
any_of f (x ∷ xs) = then_ (f x) (λ found. elim found [ true ↦ Ok true | false ↦ any_of f xs ])

-- the same until one doesn't hold
abbrev pub all_of : {X : Type 0} → (X → Result Bool DynError) → List X → Result Bool DynError
all_of f [] = Ok true
all_of f (x ∷ xs) = then_ (f x) (λ found. elim found [ true ↦ all_of f xs | false ↦ Ok false ])

abbrev pub boolean : Result Bool DynError → Value
boolean result = then_ result (λ b. one (i.Boolean b))

-- some pair compares so, the pairs of the first item on the left first
abbrev pub some_pair : Op → List Item → List Item → Result Bool DynError
some_pair op xs ys = any_of (λ x. any_of (λ y. compare op x y) ys) xs

abbrev pub compared_as : Bool → Op → List Item → List Item → Value
compared_as true op xs ys = boolean (some_pair op xs ys)
compared_as false op xs ys = at_two (λ x y. boolean (compare op x y)) xs ys

abbrev pub compared : Op → List Item → List Item → Value
compared op xs ys = compared_as (is_general op) op xs ys
