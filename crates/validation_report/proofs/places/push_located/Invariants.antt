use Rattle.std.proofs.Common.{◌≡◌, ◌++◌, ℕ, List, map, drop}
use Rattle.line_places.specs.Places.{AreLinesOf}
use Rattle.validation_report.specs.Held.{located_at}
use Rattle.validation_report.proofs.places.push_located.Given as goal

-- the elements so far, and those that are left
abbrev pub invariant-nodes : goal.invariant-nodes
invariant-nodes l = (content : List ℕ) → AreLinesOf l.input.lines.now content
    → l.located.items ++ map (located_at l.input.doc.now content) (drop l.n-index l.nodes) ≡ l.initial.located.items
    ++ map (located_at l.input.doc.now content) l.nodes
