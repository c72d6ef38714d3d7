use Rattle.std.proofs.Common.{◌≡◌, drop, List}
use Rattle.bind_table.specs.Lines.{Plan, Cell}
use Rattle.bind_write.specs.Holding.{IsLineOf}
use Rattle.bind_write.specs.Sources.{spots_by}
use Rattle.bind_write.specs.Roots.{first_root}
use Rattle.bind_write.proofs.roots.root_at.Given as goal

abbrev pub invariant-spots : goal.invariant-spots
invariant-spots l = (cells : List Cell) (plan : Plan) → IsLineOf l.source.rows.now l.line l.inside cells plan
    → first_root l.source.entries.now l.line.step cells plan (drop l.k (spots_by l.source.context l.spots.group l.spots.count))
    ≡ first_root l.source.entries.now l.line.step cells plan (spots_by l.source.context l.spots.group l.spots.count)
