use Rattle.std.proofs.Common.{◌-◌, length}
use Rattle.xml_document.specs.Walking.{StandsIn}
use Rattle.document_tests.proofs.walk_cases.levels_of.Given as goal

abbrev pub invariant-nodes : goal.invariant-nodes
invariant-nodes g l = StandsIn l.doc l.at

abbrev pub decreases-nodes : goal.decreases-nodes
decreases-nodes g l = length l.doc.nodes - l.at.node
