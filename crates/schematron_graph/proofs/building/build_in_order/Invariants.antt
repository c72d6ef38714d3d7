use Rattle.schematron_graph.specs.Rules.{bodies_of}
use Rattle.schematron_graph.specs.Built.{Fits}
use Rattle.schematron_graph.proofs.building.build_in_order.Given as goal

-- what is built is right
abbrev pub invariant-order : goal.invariant-order
invariant-order l = Fits (bodies_of l.rules) l.built.ranked l.built.puts.items
