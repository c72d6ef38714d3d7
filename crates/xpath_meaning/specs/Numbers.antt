-- Arithmetic, signs and ranges (XPath 2.0, sections 3.4 and 3.3.1), at atomised operands. Deviation: all numbers are
-- decimals of at most 18 digits on each side of the point; sums are exact, products and quotients are cut towards zero
-- behind 18 digits.
use Rattle.std.specs.Prelude.{ℕ, zero, suc, ◌+◌, ◌/◌, ◌%◌, ◌*◌, Bool, true, false, List, [], ◌∷◌, Result, Ok, Err, ℤ, pos, neg_ℤ, ◌+ℤ◌, ◌-ℤ◌, ◌==◌, nat_lt}
use Rattle.std.specs.Prelude.{unsigned_abs}
use Rattle.std.specs.Int.{is_negative}
use Rattle.inv_decimal.specs.Number.{unit}
use Rattle.inv_decimal.specs.Arithmetic as d
use Rattle.inv_decimal.specs.declared.fault.Overflow.{Overflow}
use Rattle.inv_decimal.specs.declared.fault.DivisionByZero.{DivisionByZero}
use Rattle.inv_decimal.specs.declared.fault.DecFault.{DecFault}
use Rattle.inv_decimal.specs.declared.fault.DecFault.TheVariants as fault
use Rattle.xpath_tokens.specs.declared.token.Operator.{Operator}
use Rattle.xpath_tokens.specs.declared.token.Operator.TheVariants as o
use Rattle.xpath_items.specs.declared.item.Item.{Item}
use Rattle.xpath_items.specs.declared.item.Item.TheVariants as i
use Rattle.xpath_items.specs.declared.outcome.DynError.{DynError}
use Rattle.xpath_items.specs.declared.outcome.DynError.TheVariants as e
use Rattle.xpath_meaning.specs.Values.{Value, then_, one}
use Rattle.xpath_meaning.specs.Reading.{read_number}

-- the number that an operand is: untyped text is read as one
abbrev pub number_of : Item → Result ℤ DynError
number_of (i.Number z) = Ok z
number_of (i.Untyped s) = read_number s
number_of _ = Err e.XPTY0004

-- Operands of which each may be empty, and then so is the result: an empty one counts before the numbers of items.

abbrev pub at_one : (Item → Value) → List Item → Value
at_one f [] = Ok []
at_one f (x ∷ []) = f x
at_one f (x ∷ (y ∷ items)) = Err e.XPTY0004

abbrev pub at_two : (Item → Item → Value) → List Item → List Item → Value
at_two f [] ys = Ok []
at_two f (x ∷ xs) [] = Ok []
at_two f (x ∷ []) (y ∷ []) = f x y
at_two f _ _ = Err e.XPTY0004

-- Results out of range, and zero divisors

abbrev pub in_range : Result ℤ Overflow → Result ℤ DynError
in_range (Ok z) = Ok z
in_range (Err fault) = Err e.FOAR0002

abbrev pub of_fault : DecFault → DynError
of_fault fault.Overflow = e.FOAR0002
of_fault fault.DivisionByZero = e.FOAR0001

abbrev pub divided : Result ℤ DecFault → Result ℤ DynError
divided (Ok z) = Ok z
divided (Err fault) = Err (of_fault fault)

abbrev pub left_over : Result ℤ DivisionByZero → Result ℤ DynError
left_over (Ok z) = Ok z
left_over (Err fault) = Err e.FOAR0001

-- the operation of an operator
abbrev pub computed : Operator → ℤ → ℤ → Result ℤ DynError
computed o.Plus x y = in_range (d.sum_of x y)
computed o.Minus x y = in_range (d.difference_of x y)
computed o.Times x y = in_range (d.product_of x y)
computed o.Div x y = divided (d.quotient_of x y)
computed o.Idiv x y = divided (d.whole_quotient_of x y)
computed o.Mod x y = left_over (d.remainder_of x y)
computed _ x y = Err e.XPTY0004

abbrev pub number : Result ℤ DynError → Value
number result = then_ result (λ z. one (i.Number z))

-- kinds and readings, the left operand first
abbrev pub with_numbers : (ℤ → ℤ → Value) → Item → Item → Value
with_numbers f x y = then_ (number_of x) (λ a. then_ (number_of y) (λ b. f a b))

abbrev pub arithmetic : Operator → List Item → List Item → Value
arithmetic operator xs ys = at_two (with_numbers (λ a b. number (computed operator a b))) xs ys

-- a row of signs before a number
abbrev pub with_signs : List Operator → ℤ → ℤ
with_signs [] z = z
with_signs (o.Minus ∷ signs) z = neg_ℤ (with_signs signs z)
with_signs (_ ∷ signs) z = with_signs signs z

abbrev pub signed : List Operator → List Item → Value
signed signs items = at_one (λ x. then_ (number_of x) (λ z. one (i.Number (with_signs signs z)))) items

-- Ranges

abbrev pub is_whole : ℤ → Bool
is_whole z = unsigned_abs z % unit == 0

-- a whole number
abbrev pub whole_number_of : Item → Result ℤ DynError
whole_number_of item = then_ (number_of item) (λ z. elim (is_whole z) [ true ↦ Ok z | false ↦ Err e.XPTY0004 ])

-- how many whole numbers there are from one to the other
abbrev pub how_many : ℤ → ℤ → ℕ
how_many from to = elim (is_negative (to -ℤ from)) [ true ↦ 0 | false ↦ unsigned_abs (to -ℤ from) / unit + 1 ]

-- so many whole numbers in a row
abbrev pub in_a_row : ℕ → ℤ → List Item
in_a_row zero from = []
in_a_row (suc n) from = i.Number from ∷ in_a_row n (from +ℤ pos unit)

-- the most items that a range may have, this subset's own limit
abbrev pub most_in_range : ℕ
most_in_range = 100000

abbrev pub range : ℤ → ℤ → Value
range from to = elim (nat_lt most_in_range (how_many from to)) [ true ↦ Err e.FOAR0002 | false ↦ Ok (in_a_row (how_many from to) from) ]

abbrev pub range_of : List Item → List Item → Value
range_of xs ys = at_two (λ x y. then_ (whole_number_of x) (λ from. then_ (whole_number_of y) (λ to. range from to))) xs ys

-- the number of a count or a position, which is out of range from 10^18 on
abbrev pub counted : ℕ → Value
counted n = elim (nat_lt n unit) [ true ↦ one (i.Number (pos (n * unit))) | false ↦ Err e.FOAR0002 ]
