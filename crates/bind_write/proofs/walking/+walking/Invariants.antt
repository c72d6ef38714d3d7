use Rattle.std.proofs.Common.{◌≢◌, ◌+◌, ◌*◌, ◌≤◌, length, drop, List, flat_map}
use Rattle.xml_write.specs.declared.pen.PenState.TheVariants.{Fresh}
use Rattle.xml_write.specs.Writers.{state_of}
use Rattle.bind_table.specs.Growing.{AreLines}
use Rattle.bind_table.specs.Lines.{Plan, Cell}
use Rattle.bind_write.specs.Holding.{IsPlanOf, IsLineOf}
use Rattle.bind_write.specs.Sources.{spots_by}
use Rattle.bind_write.specs.Walking.{plan_calls, element_calls}
use Rattle.bind_write.proofs.WriterSteps.{Ahead}
use Rattle.bind_write.proofs.walking.+walking.Given as goal

abbrev pub invariant-put_lines-lines : goal.invariant-put_lines-lines
invariant-put_lines-lines g l = record {
  lines : AreLines l.rest;
  fewer : length l.rest ≤ length l.fn.lines;
  state : state_of (g.W.Writer.view l.pen) ≢ Fresh;
  ahead : (plan : Plan) → IsPlanOf l.source.rows.now l.fn.lines plan
      → (left : Plan) × IsPlanOf l.source.rows.now l.rest left
      × Ahead (g.W.Writer.view l.initial.pen) (g.K.Sink.view l.initial.out) (plan_calls l.source.entries.now plan l.held l.source.context)
      (g.W.Writer.view l.pen) (g.K.Sink.view l.out) (plan_calls l.source.entries.now left l.held l.source.context);
}

abbrev pub decreases-put_lines-lines : goal.decreases-put_lines-lines
decreases-put_lines-lines g l = length l.rest

abbrev pub invariant-put_line-spots : goal.invariant-put_line-spots
invariant-put_line-spots g l = record {
  state : state_of (g.W.Writer.view l.pen) ≢ Fresh;
  ahead : (cells : List Cell) (plan : Plan) → IsLineOf l.source.rows.now l.line l.inside cells plan
      → Ahead (g.W.Writer.view l.initial.pen) (g.K.Sink.view l.initial.out)
      (flat_map (element_calls l.source.entries.now l.line.step cells plan l.held) (spots_by l.source.context l.spots.group l.spots.count))
      (g.W.Writer.view l.pen) (g.K.Sink.view l.out)
      (flat_map (element_calls l.source.entries.now l.line.step cells plan l.held) (drop l.k (spots_by l.source.context l.spots.group l.spots.count)));
}

abbrev pub decreases-put_lines : goal.decreases-put_lines
decreases-put_lines g l = 3 * length l.lines.now

abbrev pub decreases-put_line : goal.decreases-put_line
decreases-put_line g l = 3 * length l.inside.now + 2

abbrev pub decreases-put_element : goal.decreases-put_element
decreases-put_element g l = 3 * length l.inside.now + 1
