use Rattle.xpath_syntax.proofs.AnswerLaws.{answer_grammatical, pattern_grammatical}
use Rattle.xpath_syntax.proofs.laws.answers_are_grammatical.Goals as goal

pub returns-clause-expression : goal.returns-clause-expression
returns-clause-expression c = answer_grammatical c.machine_reads.ensures.found

pub returns-clause-pattern : goal.returns-clause-pattern
returns-clause-pattern c = pattern_grammatical c.machine_reads.ensures.found c.patterns_are_expressions.ensures
