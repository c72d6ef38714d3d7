use Rattle.std.proofs.Common.{◌≡◌, ◌++◌, ℕ, List, map, drop}
use Rattle.line_places.specs.Places.{AreLinesOf}
use Rattle.validation_report.specs.Held.{unread_of}
use Rattle.validation_report.proofs.places.push_unread.Given as goal

-- the nodes so far, and those that are left
abbrev pub invariant-nodes : goal.invariant-nodes
invariant-nodes l = (content : List ℕ) → AreLinesOf l.input.lines.now content
    → l.unread.items ++ map (unread_of l.input.doc.now content) (drop l.n-index l.nodes) ≡ l.initial.unread.items
    ++ map (unread_of l.input.doc.now content) l.nodes
