use Rattle.xpath_syntax.proofs.AnswerLaws.{answer_refused, answer_found, answer_too_deep, answer_syntax}
use Rattle.xpath_syntax.proofs.laws.answers_are_by_the_grammar.Goals as goal

pub returns-clause-refused : goal.returns-clause-refused
returns-clause-refused c = answer_refused

pub returns-clause-found : goal.returns-clause-found
returns-clause-found c = answer_found c.machine_reads.ensures.found

pub returns-clause-too_deep : goal.returns-clause-too_deep
returns-clause-too_deep c = answer_too_deep c.machine_reads.ensures.found

pub returns-clause-syntax : goal.returns-clause-syntax
returns-clause-syntax c = answer_syntax c.machine_reads.ensures.found
