-- Numbers in units of 10^-18, or that one is out of range: the first step that leaves the range counts.
use Rattle.std.specs.Prelude.{◌*◌, ℤ, pos, List, [], ◌∷◌, Result, Ok, Err}
use Rattle.inv_decimal.specs.Number.{unit}
use Rattle.inv_decimal.specs.Arithmetic.{sum_of, difference_of, product_of, quotient_of, nearest_hundredth}
use Rattle.inv_decimal.specs.declared.fault.Overflow.{Overflow}
use Rattle.inv_decimal.specs.declared.fault.DecFault.{DecFault}

abbrev pub Number : Type 0
Number = Result ℤ Overflow

abbrev pub then_ : Number → (ℤ → Number) → Number
then_ (Ok x) next = next x
then_ (Err fault) next = Err fault

-- added one after another to what there is
abbrev pub total_from : ℤ → List ℤ → Number
total_from sum [] = Ok sum
total_from sum (x ∷ xs) = then_ (sum_of sum x) (λ s. total_from s xs)

abbrev pub total : List ℤ → Number
total xs = total_from (pos 0) xs

abbrev pub plus : Number → Number → Number
plus a b = then_ a (λ x. then_ b (λ y. sum_of x y))

abbrev pub minus : Number → Number → Number
minus a b = then_ a (λ x. then_ b (λ y. difference_of x y))

-- a hundred isn't zero, so only the range is left to fail
abbrev pub in_range_alone : Result ℤ DecFault → Number
in_range_alone (Ok x) = Ok x
in_range_alone (Err fault) = Err (record {})

-- the hundredth part, to the nearest hundredth
abbrev pub hundredth_part : ℤ → Number
hundredth_part x = then_ (in_range_alone (quotient_of x (pos (100 * unit)))) nearest_hundredth

-- the percentage of an amount, to the nearest hundredth: product and quotient are cut at 18 digits before it is rounded
abbrev pub percentage : ℤ → ℤ → Number
percentage rate amount = then_ (product_of amount rate) hundredth_part
