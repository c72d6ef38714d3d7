use Rattle.schematron_graph.specs.Rules.{bodies_of}
use Rattle.schematron_graph.specs.Back.{NoneBefore, level_test}
use Rattle.schematron_graph.proofs.back.first_level.Given as goal

-- no part of the rules so far is level
abbrev pub invariant-rules : goal.invariant-rules
invariant-rules l = NoneBefore (level_test l.labels) (bodies_of l.rules) l.rule
