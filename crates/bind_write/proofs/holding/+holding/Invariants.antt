use Rattle.std.proofs.Common.{◌≡◌, ◌+◌, ◌*◌, ◌≤◌, length, drop, List}
use Rattle.std.specs.List.{list_any}
use Rattle.bind_table.specs.Growing.{AreLines}
use Rattle.bind_table.specs.Lines.{Plan, Cell}
use Rattle.bind_meaning.specs.Trees as trees
use Rattle.bind_write.specs.Holding.{IsPlanOf, IsLineOf}
use Rattle.bind_write.specs.Sources.{spots_by}
use Rattle.bind_write.proofs.holding.+holding.Given as goal

abbrev pub invariant-holds-lines : goal.invariant-holds-lines
invariant-holds-lines l = record {
  lines : AreLines l.rest;
  same : (plan : Plan) → IsPlanOf l.source.rows.now l.fn.lines plan
      → (left : Plan) × IsPlanOf l.source.rows.now l.rest left ×
      (trees.holds l.source.entries.now plan l.source.context ≡ trees.holds l.source.entries.now left l.source.context);
  fewer : length l.rest ≤ length l.fn.lines;
}

abbrev pub decreases-holds-lines : goal.decreases-holds-lines
decreases-holds-lines l = length l.rest

abbrev pub invariant-is_held_somewhere-spots : goal.invariant-is_held_somewhere-spots
invariant-is_held_somewhere-spots l = (cells : List Cell) (plan : Plan) → IsLineOf l.source.rows.now l.line l.inside cells plan
    → list_any (trees.line_holds l.source.entries.now cells plan) (drop l.k (spots_by l.source.context l.spots.group l.spots.count))
    ≡ list_any (trees.line_holds l.source.entries.now cells plan) (spots_by l.source.context l.spots.group l.spots.count)

abbrev pub decreases-holds : goal.decreases-holds
decreases-holds l = 3 * length l.lines.now

abbrev pub decreases-is_held_somewhere : goal.decreases-is_held_somewhere
decreases-is_held_somewhere l = 3 * length l.inside.now + 2

abbrev pub decreases-is_held : goal.decreases-is_held
decreases-is_held l = 3 * length l.inside.now + 1
