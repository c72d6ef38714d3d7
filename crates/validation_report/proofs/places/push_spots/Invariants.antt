use Rattle.std.proofs.Common.{◌≡◌, ◌++◌, ℕ, List, drop}
use Rattle.line_places.specs.Places.{AreLinesOf}
use Rattle.validation_report.specs.Held.{spots_of, spots_from}
use Rattle.validation_report.proofs.places.push_spots.Given as goal

-- the spots so far, and those of the lines that are left
abbrev pub invariant-lines : goal.invariant-lines
invariant-lines l = (content : List ℕ) → AreLinesOf l.input.lines.now content
    → l.spots.items ++ spots_from l.input.doc.now content l.k l.node (drop l.k l.found) ≡ l.initial.spots.items ++ spots_of l.input.doc.now content l.found
