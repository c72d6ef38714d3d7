use Rattle.std.proofs.Common.{◌≡◌, ◌+◌, ◌++◌, ℕ, List, drop}
use Rattle.line_places.specs.Places.{AreLinesOf}
use Rattle.validation_report.specs.Held.{fault_spots}
use Rattle.validation_report.proofs.places.push_fault_spots.Given as goal

-- the spots so far, and those of the faults that are left
abbrev pub invariant-faults : goal.invariant-faults
invariant-faults l = (content : List ℕ) → AreLinesOf l.lines content
    → l.spots.items ++ fault_spots l.doc content (l.k + 2) (drop l.k l.faults) ≡ l.initial.spots.items ++ fault_spots l.doc content 2 l.faults
