-- Functions on sequences (Functions and Operators, sections 15.1 and 15.4), at atomised arguments.
use Rattle.std.specs.Prelude.{Bool, true, false, not, List, [], ◌∷◌, filter, Result, Ok, Err, ℤ, pos, if◌then◌else◌}
use Rattle.std.specs.List.{list_all}
use Rattle.std.specs.Ordering.{is_eq, is_lt, is_gt}
use Rattle.std.specs.declared.cmp.Ordering.{Ordering}
use Rattle.inv_decimal.specs.Arithmetic.{sum_of}
use Rattle.xpath_items.specs.declared.item.Item.{Item}
use Rattle.xpath_items.specs.declared.item.Item.TheVariants as i
use Rattle.xpath_items.specs.declared.outcome.DynError.{DynError}
use Rattle.xpath_items.specs.declared.outcome.DynError.TheVariants as e
use Rattle.xpath_meaning.specs.Values.{Value, then_, one}
use Rattle.xpath_meaning.specs.Reading.{read_number, number_item}
use Rattle.xpath_meaning.specs.Numbers.{in_range, number}
use Rattle.xpath_meaning.specs.Comparing.{ordering, as_text}

-- what each member comes to, or the first error
abbrev pub all_taken : {X Y : Type 0} → (X → Result Y DynError) → List X → Result (List Y) DynError
all_taken f [] = Ok []
all_taken f (x ∷ xs) = then_ (f x) (λ y. then_ (all_taken f xs) (λ ys. Ok (y ∷ ys)))

-- untyped text is read as a number
abbrev pub untyped_read : Item → Result Item DynError
untyped_read (i.Untyped text) = number_item (read_number text)
untyped_read item = Ok item

-- Sums go from 0 on, from left to right.

abbrev pub summand : Item → Result ℤ DynError
summand (i.Number z) = Ok z
summand _ = Err e.FORG0006

abbrev pub summed : ℤ → List ℤ → Result ℤ DynError
summed so_far [] = Ok so_far
summed so_far (z ∷ numbers) = then_ (in_range (sum_of so_far z)) (λ next. summed next numbers)

abbrev pub sum : List Item → Value
sum items = then_ (all_taken untyped_read items) (λ read. then_ (all_taken summand read) (λ numbers. number (summed (pos 0) numbers)))

-- The least and the greatest are of numbers, strings or dates. Deviation: booleans have neither.

abbrev pub are_alike : Item → Item → Bool
are_alike (i.Number a) (i.Number b) = true
are_alike (i.String a) (i.String b) = true
are_alike (i.Date a) (i.Date b) = true
are_alike _ _ = false

-- the items are so ordered
abbrev pub stand : (Ordering → Bool) → Item → Item → Bool
stand test x y = elim (ordering x y) [ Ok order ↦ test order | Err error ↦ false ]

-- of an item and others the one that no other goes before
abbrev pub foremost : (Ordering → Bool) → Item → List Item → Item
foremost goes_before best [] = best
foremost goes_before best (x ∷ items) = foremost goes_before (if stand goes_before x best then x else best) items

abbrev pub extreme_of : (Ordering → Bool) → List Item → Value
extreme_of goes_before [] = Ok []
extreme_of goes_before (x ∷ items) = elim (list_all (are_alike x) (x ∷ items)) [ true ↦ one (foremost goes_before x items) | false ↦ Err e.FORG0006 ]

abbrev pub extreme : (Ordering → Bool) → List Item → Value
extreme goes_before items = then_ (all_taken untyped_read items) (extreme_of goes_before)

abbrev pub least : List Item → Value
least items = extreme is_lt items

abbrev pub greatest : List Item → Value
greatest items = extreme is_gt items

-- Untyped text is compared as a string, and items of unlike kinds differ.
abbrev pub are_equal : Item → Item → Bool
are_equal x y = stand is_eq (as_text x) (as_text y)

-- the first of equal items
abbrev pub distinct : List Item → List Item
distinct [] = []
distinct (x ∷ items) = x ∷ filter (λ y. not (are_equal x y)) (distinct items)
