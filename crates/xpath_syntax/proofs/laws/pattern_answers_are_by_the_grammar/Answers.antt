use Rattle.xpath_syntax.proofs.AnswerLaws.{pattern_refused, pattern_found, pattern_too_deep, pattern_syntax}
use Rattle.xpath_syntax.proofs.laws.pattern_answers_are_by_the_grammar.Goals as goal

pub returns-clause-refused : goal.returns-clause-refused
returns-clause-refused c = pattern_refused

pub returns-clause-found : goal.returns-clause-found
returns-clause-found c = pattern_found c.machine_reads.ensures.found c.patterns_are_expressions.ensures

pub returns-clause-too_deep : goal.returns-clause-too_deep
returns-clause-too_deep c = pattern_too_deep c.machine_reads.ensures.found c.patterns_are_expressions.ensures

pub returns-clause-syntax : goal.returns-clause-syntax
returns-clause-syntax c = pattern_syntax c.machine_reads.ensures.found c.patterns_are_expressions.ensures
