-- Calls that look at nothing but how many items their argument has.
use Rattle.std.proofs.Common.{ℕ, ◌*◌, Bool, true, false, not, List, length, Err, pos}
use Rattle.std.specs.Prelude.{nat_lt}
use Rattle.inv_decimal.specs.Number.{unit}
use Rattle.xpath_items.specs.declared.item.Item.TheVariants as i
use Rattle.xpath_items.specs.declared.outcome.DynError.TheVariants as e
use Rattle.xpath_meaning.specs.Items.{is_empty}
use Rattle.xpath_meaning.specs.Numbers.{counted}
use Rattle.xpath_parts.specs.declared.sizes.Sizing.TheVariants as z
use Rattle.xpath_steps.specs.Variables.{ValueWithin}
use Rattle.xpath_items.specs.declared.item.Item.{Item}
use Rattle.xpath_meaning.specs.Functions.{yes_or_no}
use Rattle.xpath_meaning.specs.Values.{one}
use Rattle.xpath_parts.specs.Sizes.{sized}
use Rattle.xpath_parts.specs.declared.sizes.Sizing.{Sizing}

-- what such a call tells is no node
boolean-within : (count : ℕ) (b : Bool) → ValueWithin count (yes_or_no b)
boolean-within count b = (tt, tt)

counted-within : (count n : ℕ) → ValueWithin count (counted n)
counted-within count n = by (nat_lt n unit)
  where
    by : (b : Bool) → ValueWithin count (elim b [ true ↦ one (i.Number (pos (n * unit))) | false ↦ Err e.FOAR0002 ])
    by true = (tt, tt)
    by false = tt

pub sized-within : (count : ℕ) (sizing : Sizing) (items : List Item) → ValueWithin count (sized sizing items)
sized-within count z.Exists items = boolean-within count (not (is_empty items))
sized-within count z.Empty items = boolean-within count (is_empty items)
sized-within count z.Count items = counted-within count (length items)
