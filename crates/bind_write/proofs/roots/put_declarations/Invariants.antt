use Rattle.std.proofs.Common.{◌≡◌, drop, map}
use Rattle.xml_write.specs.declared.pen.PenState.TheVariants.{InsideTag}
use Rattle.xml_write.specs.Writers.{state_of}
use Rattle.bind_write.specs.Roots.{declaration_call}
use Rattle.bind_write.proofs.WriterSteps.{Ahead}
use Rattle.bind_write.proofs.roots.put_declarations.Given as goal

abbrev pub invariant-namespaces : goal.invariant-namespaces
invariant-namespaces g l = record {
  ahead : Ahead (g.W.Writer.view l.initial.pen) (g.K.Sink.view l.initial.out) (map declaration_call l.namespaces)
      (g.W.Writer.view l.pen) (g.K.Sink.view l.out) (map declaration_call (drop l.namespace-index l.namespaces));
  state : state_of (g.W.Writer.view l.pen) ≡ InsideTag;
}
