use Rattle.std.proofs.Common.{◌≡◌, drop, flat_map}
use Rattle.xml_write.specs.declared.pen.PenState.TheVariants.{InsideTag}
use Rattle.xml_write.specs.Writers.{state_of}
use Rattle.bind_write.specs.Cells.{attribute_calls}
use Rattle.bind_write.proofs.WriterSteps.{Ahead}
use Rattle.bind_write.proofs.cells.put_attributes.Given as goal

abbrev pub invariant-rows : goal.invariant-rows
invariant-rows g l = record {
  ahead : Ahead (g.W.Writer.view l.initial.pen) (g.K.Sink.view l.initial.out)
      (flat_map (attribute_calls l.source.rows.now l.source.entries.now l.source.context) l.numbers)
      (g.W.Writer.view l.pen) (g.K.Sink.view l.out) (flat_map (attribute_calls l.source.rows.now l.source.entries.now l.source.context)
      (drop l.number-index l.numbers));
  state : state_of (g.W.Writer.view l.pen) ≡ InsideTag;
}
