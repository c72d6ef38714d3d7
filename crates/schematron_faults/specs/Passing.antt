-- The first element at which there are too many patterns, rules or assertions.
use Rattle.std.specs.Prelude.{List, [], ◌∷◌, Option, None}
use Rattle.schematron_meaning.specs.Entries.{Entry}
use Rattle.schematron_meaning.specs.Expansion.{File}
use Rattle.schematron_meaning.specs.Counts.{Tally, no_tally, added, tally_of}
use Rattle.schematron_meaning.specs.Faults.{too_many}
use Rattle.schematron_expansion.specs.declared.found.Found.{Found}
use Rattle.schematron_expansion.specs.Found.{first_at, first_or}

-- from one element on, where the tally before it is known
abbrev pub passing_behind : File → Tally → List Entry → Option Found
passing_behind file before [] = None
passing_behind file before (e ∷ es) =
    let after : Tally = added before (tally_of file e) in
    first_or (first_at e.number (too_many before after e)) (passing_behind file after es)

abbrev pub first_passing : File → Option Found
first_passing file = passing_behind file no_tally file.entries
