-- What slots hold.
use Rattle.std.specs.Prelude.{List, Option, map, option_map}
use Rattle.xpath_items.specs.declared.outcome.Outcome.{Outcome}
use Rattle.xpath_meaning.specs.Values.{Value, value}

abbrev pub held_in : List (Option Outcome) → List (Option Value)
held_in kept = map (option_map value) kept
