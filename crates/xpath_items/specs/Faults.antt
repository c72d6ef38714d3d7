-- What a call gives that may want memory.
use Rattle.std.specs.Prelude.{Result, Ok, Err, ◌≡◌}
use Rattle.xpath_items.specs.declared.fault.Fault.{Fault}
use Rattle.xpath_items.specs.declared.fault.Fault.TheVariants as f
use Rattle.xpath_items.specs.declared.outcome.DynError.{DynError}

-- The call gives exactly this value or error, unless it wants memory.
abbrev pub Gives : {X : Type 0} → Result X Fault → Result X DynError → Type 0
Gives (Ok x) value = value ≡ Ok x
Gives (Err f.Memory) value = Unit {0}
Gives (Err (f.Error error)) value = value ≡ Err error
