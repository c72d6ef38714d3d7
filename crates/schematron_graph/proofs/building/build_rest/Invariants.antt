use Rattle.std.proofs.Common.{◌-◌, length}
use Rattle.schematron_graph.specs.Rules.{bodies_of}
use Rattle.schematron_graph.specs.Built.{Fits, built_count}
use Rattle.schematron_graph.proofs.building.build_rest.Given as goal

-- what is built is right
abbrev pub invariant-rest : goal.invariant-rest
invariant-rest l = Fits (bodies_of l.rules) l.built.ranked l.built.puts.items

-- the rules that aren't built
abbrev pub decreases-rest : goal.decreases-rest
decreases-rest l = length l.rules - built_count l.built.puts.items
