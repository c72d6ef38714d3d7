use Rattle.std.proofs.Common.{◌-◌, take, length}
use Rattle.inv_base.specs.Printing.{Printed}
use Rattle.xml_document.specs.Walking.{StandsIn}
use Rattle.document_jobs.proofs.OutlineLemmas.{lines_of}
use Rattle.document_jobs.proofs.printing.print_walk.Given as goal

-- the lines of the nodes before the one where the walk stands
abbrev pub invariant-nodes : goal.invariant-nodes
invariant-nodes g l = record {
  stands : StandsIn l.doc l.at;
  printed : Printed l.printer.failed (lines_of l.doc.names (take l.at.node l.doc.nodes)) (g.K.Sink.view l.initial.out) (g.K.Sink.view l.out);
}

abbrev pub decreases-nodes : goal.decreases-nodes
decreases-nodes g l = length l.doc.nodes - l.at.node
