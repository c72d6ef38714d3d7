use Rattle.xpath_tokens.specs.Tokens.{value_words, clause_words}
use Rattle.xpath_tokens.proofs.TableLaws.{entry_first, entry_later}
use Rattle.xpath_tokens.proofs.spelled.operator_word.Goals as goal

pub returns-in-Some : goal.returns-in-Some
returns-in-Some c = entry_first value_words clause_words c.args.word.now c.in-Some.operator c.in-Some.ensures

pub returns-in-None : goal.returns-in-None
returns-in-None c = entry_later value_words clause_words c.args.word.now c.clause_operator.result c.in-None.ensures c.clause_operator.ensures
