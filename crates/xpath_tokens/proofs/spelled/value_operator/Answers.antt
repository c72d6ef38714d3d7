use Rattle.std.proofs.Common.{take, drop}
use Rattle.xpath_tokens.specs.Tokens.{value_words}
use Rattle.xpath_tokens.proofs.TableLaws.{entry_first, entry_later}
use Rattle.xpath_tokens.proofs.spelled.value_operator.Goals as goal

pub returns-in-Some : goal.returns-in-Some
returns-in-Some c = entry_first (take 5 value_words) (drop 5 value_words) c.args.word.now c.in-Some.operator c.in-Some.ensures

pub returns-in-None : goal.returns-in-None
returns-in-None c = entry_later (take 5 value_words) (drop 5 value_words) c.args.word.now c.comparing_operator.result c.in-None.ensures
    c.comparing_operator.ensures
