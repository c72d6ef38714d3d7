-- Values that fit their terms.
use Rattle.std.specs.Prelude.{◌≡◌, List, Some, All}
use Rattle.inv_terms.specs.declared.values.Value.{Value}
use Rattle.inv_terms.specs.Listing.{Fits}
use Rattle.bind_meaning.specs.Values.{ParsedValue}

-- The value, where there is one, is one of the term.
abbrev pub FitsIts : ParsedValue → Type 0
FitsIts s = (value : Value) → s.value ≡ Some value → Fits s.term value

abbrev pub AllFit : List ParsedValue → Type 0
AllFit all = All FitsIts all
