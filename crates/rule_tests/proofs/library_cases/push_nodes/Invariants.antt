use Rattle.std.proofs.Common.{◌-◌, length}
use Rattle.xml_document.specs.Walking.{StandsIn}
use Rattle.rule_tests.proofs.library_cases.push_nodes.Given as goal

-- The walk stands at a node of what is joined.
abbrev pub invariant-nodes : goal.invariant-nodes
invariant-nodes g l = StandsIn l.library.document l.at

abbrev pub decreases-nodes : goal.decreases-nodes
decreases-nodes g l = length l.library.document.nodes - l.at.node
