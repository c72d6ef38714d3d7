use Rattle.json_grammar.proofs.ValueReading.{derived_is_read}
use Rattle.json_grammar.proofs.ValueDeriving.{read_derives}
use Rattle.json_grammar.proofs.texts_of_the_grammar_are_read.Goals as goal

pub returns-clause-read : goal.returns-clause-read
returns-clause-read c = derived_is_read

pub returns-clause-derived : goal.returns-clause-derived
returns-clause-derived c = read_derives
