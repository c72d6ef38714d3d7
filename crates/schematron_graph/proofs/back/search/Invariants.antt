use Rattle.schematron_graph.specs.Rules.{bodies_of, is_back}
use Rattle.schematron_graph.specs.Back.{NoneBefore}
use Rattle.schematron_graph.proofs.back.search.Given as goal

-- no part of the rules so far leads back
abbrev pub invariant-rules : goal.invariant-rules
invariant-rules l = NoneBefore (is_back (bodies_of l.rules)) (bodies_of l.rules) l.rule
