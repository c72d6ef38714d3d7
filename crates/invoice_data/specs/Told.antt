-- What members tell: what was found of terms, and faults, both in the order of the text.
use Rattle.std.specs.Prelude.{List, [], ◌∷◌, ◌++◌}
use Rattle.invoice_data.specs.declared.telling.Found.{Found}
use Rattle.invoice_data.specs.declared.faults.DataFault.{DataFault}

pub record Told : Type 0 where
  pub founds : List Found
  pub faults : List DataFault

abbrev pub nothing : Told
nothing = record { founds = []; faults = [] }

unfoldable pub both : Told → Told → Told
both a b = record { founds = a.founds ++ b.founds; faults = a.faults ++ b.faults }

abbrev pub one_found : Found → Told
one_found found = record { founds = found ∷ []; faults = [] }

abbrev pub one_fault : DataFault → Told
one_fault fault = record { founds = []; faults = fault ∷ [] }

-- what was found, and what is wrong with it
abbrev pub faulty : Found → DataFault → Told
faulty found fault = record { founds = found ∷ []; faults = fault ∷ [] }
