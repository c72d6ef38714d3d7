use Rattle.schematron_run.proofs.CompiledLemmas.{compiled_have}
use Rattle.schematron_run.proofs.law.compiled_rules_have_patterns.Goals as goal

pub returns : goal.returns
returns c = compiled_have c.machine_reads.ensures.found c.patterns_are_expressions.ensures c.patterns_have_their_shape.ensures
