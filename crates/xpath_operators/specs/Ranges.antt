-- Whole numbers as the code keeps them.
use Rattle.std.specs.Prelude.{◌≡◌, Result, Ok, Err, ℤ, pos, ◌*ℤ◌}
use Rattle.inv_decimal.specs.Number.{unit}
use Rattle.xpath_items.specs.declared.item.Item.{Item}
use Rattle.xpath_items.specs.declared.outcome.DynError.{DynError}
use Rattle.xpath_meaning.specs.Values.{Value, then_}
use Rattle.xpath_meaning.specs.Numbers.{whole_number_of, range}

-- The number is so many whole ones, or the error is the same.
abbrev pub IsWholeOf : Result ℤ DynError → Result ℤ DynError → Type 0
IsWholeOf (Ok n) number = number ≡ Ok (n *ℤ pos unit)
IsWholeOf (Err error) number = number ≡ Err error

abbrev pub range_of_two : Item → Item → Value
range_of_two x y = then_ (whole_number_of x) (λ from. then_ (whole_number_of y) (λ to. range from to))
