-- The order of two items: as a general comparison reads them, and as a value comparison does.
use Rattle.std.specs.Prelude.{Result, Bool, true, false}
use Rattle.std.specs.declared.cmp.Ordering.{Ordering}
use Rattle.xpath_items.specs.declared.item.Item.{Item}
use Rattle.xpath_items.specs.declared.outcome.DynError.{DynError}
use Rattle.xpath_meaning.specs.Values.{then_}
use Rattle.xpath_meaning.specs.Comparing.{made_alike, as_text, ordering}

abbrev pub general_order : Item → Item → Result Ordering DynError
general_order x y = then_ (made_alike true x y) (λ pair. ordering pair.0 pair.1)

abbrev pub value_order : Item → Item → Result Ordering DynError
value_order x y = ordering (as_text x) (as_text y)

abbrev pub order_by : Bool → Item → Item → Result Ordering DynError
order_by true x y = general_order x y
order_by false x y = value_order x y
