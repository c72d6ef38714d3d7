use Rattle.schematron_graph.specs.Rules.{bodies_of}
use Rattle.schematron_graph.proofs.BuiltLemmas.{NoneNext}
use Rattle.schematron_graph.proofs.building.first_next.Given as goal

-- none so far is next
abbrev pub invariant-rules : goal.invariant-rules
invariant-rules l = NoneNext (bodies_of l.rules) l.puts l.rule
