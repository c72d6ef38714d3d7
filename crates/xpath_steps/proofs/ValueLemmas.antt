-- The nodes of what operators come to.
use Rattle.std.proofs.Common.{ℕ, suc, zero, Bool, true, false, List, [], ◌∷◌, ℤ, pos, ◌+ℤ◌, Result, Ok, Err}
use Rattle.inv_decimal.specs.Number.{unit}
use Rattle.std.specs.Prelude.{nat_lt}
use Rattle.xpath_tokens.specs.declared.token.Operator.{Operator}
use Rattle.xpath_grammar.specs.declared.operators.Op.{Op}
use Rattle.xpath_items.specs.declared.item.Item.{Item}
use Rattle.xpath_items.specs.declared.outcome.DynError.{DynError}
use Rattle.xpath_items.specs.declared.outcome.DynError.TheVariants as e
use Rattle.xpath_meaning.specs.Comparing.{boolean, compare, compared, compared_as, is_general, some_pair}
use Rattle.xpath_meaning.specs.Numbers.{at_two, number, with_numbers, number_of, computed, arithmetic, in_a_row, range, how_many, most_in_range}
use Rattle.xpath_meaning.specs.Numbers.{whole_number_of, range_of}
use Rattle.xpath_meaning.specs.Values.{Value, then_}
use Rattle.xpath_operators.specs.Nodes.{AreWithin}
use Rattle.xpath_steps.specs.Variables.{ValueWithin}

boolean_within : (count : ℕ) (r : Result Bool DynError) → ValueWithin count (boolean r)
boolean_within count (Ok b) = (tt, tt)
boolean_within count (Err error) = tt

number_within : (count : ℕ) (r : Result ℤ DynError) → ValueWithin count (number r)
number_within count (Ok z) = (tt, tt)
number_within count (Err error) = tt

then_within : {X : Type 0} (count : ℕ) (r : Result X DynError) (f : X → Value) → ((x : X) → ValueWithin count (f x)) → ValueWithin count (then_ r f)
then_within count (Ok x) f h = h x
then_within count (Err error) f h = tt

at_two_within : (count : ℕ) (f : Item → Item → Value) → ((x y : Item) → ValueWithin count (f x y)) → (xs ys : List Item) → ValueWithin count (at_two f xs ys)
at_two_within count f h [] ys = tt
at_two_within count f h (x ∷ []) [] = tt
at_two_within count f h (x ∷ (x' ∷ xs)) [] = tt
at_two_within count f h (x ∷ []) (y ∷ []) = h x y
at_two_within count f h (x ∷ []) (y ∷ (y' ∷ ys)) = tt
at_two_within count f h (x ∷ (x' ∷ xs)) (y ∷ ys) = tt

pub compared_within : (count : ℕ) (op : Op) (xs ys : List Item) → ValueWithin count (compared op xs ys)
compared_within count op xs ys = go (is_general op)
  where
    go : (b : Bool) → ValueWithin count (compared_as b op xs ys)
    go true = boolean_within count (some_pair op xs ys)
    go false = at_two_within count (λ x y. boolean (compare op x y)) (λ x y. boolean_within count (compare op x y)) xs ys

row_within : (count n : ℕ) (z : ℤ) → AreWithin count (in_a_row n z)
row_within count zero z = tt
row_within count (suc n) z = (tt, row_within count n (z +ℤ pos unit))

from_to_within : (count : ℕ) (from to : ℤ) → ValueWithin count (range from to)
from_to_within count from to = go (nat_lt most_in_range (how_many from to))
  where
    go : (b : Bool) → ValueWithin count (elim b [ true ↦ Err e.FOAR0002 | false ↦ Ok (in_a_row (how_many from to) from) ])
    go true = tt
    go false = row_within count (how_many from to) from

pub range_within : (count : ℕ) (xs ys : List Item) → ValueWithin count (range_of xs ys)
range_within count xs ys =
    at_two_within count (λ x y. then_ (whole_number_of x) (λ from. then_ (whole_number_of y) (λ to. range from to)))
    (λ x y. then_within count (whole_number_of x) _ (λ from. then_within count (whole_number_of y) _ (λ to. from_to_within count from to))) xs ys

pub arithmetic_within : (count : ℕ) (operator : Operator) (xs ys : List Item) → ValueWithin count (arithmetic operator xs ys)
arithmetic_within count operator xs ys =
    at_two_within count (with_numbers (λ a b. number (computed operator a b)))
    (λ x y. then_within count (number_of x) _ (λ a. then_within count (number_of y) _ (λ b. number_within count (computed operator a b)))) xs ys
