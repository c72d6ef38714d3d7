-- Faults of several sorts, joined.
use Rattle.std.specs.Prelude.{ℕ, Option, Some, None, option_map}
use Rattle.schematron_meaning.specs.declared.fault.Fault.{Fault}
use Rattle.schematron_expansion.specs.declared.found.Found.{Found}

-- a fault at the element that it tells
abbrev pub at_itself : Option Fault → Option Found
at_itself None = None
at_itself (Some fault) = Some (record { at = fault.node; fault = fault })

-- where a fault stands
abbrev pub place_of : Option Found → Option ℕ
place_of None = None
place_of (Some found) = Some found.at

abbrev pub fault_of : Option Found → Option Fault
fault_of found = option_map (λ (f : Found). f.fault) found
