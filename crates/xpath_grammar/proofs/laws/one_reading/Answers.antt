use Rattle.xpath_grammar.proofs.Complete.{one_reading}
use Rattle.xpath_grammar.proofs.PatternLaws.{pattern_spelled}
use Rattle.xpath_grammar.proofs.laws.one_reading.Goals as goal

pub returns-clause-expression : goal.returns-clause-expression
returns-clause-expression c = one_reading

pub returns-clause-pattern : goal.returns-clause-pattern
returns-clause-pattern c = λ tokens x y a b. one_reading tokens x y (pattern_spelled tokens x a).0 (pattern_spelled tokens y b).0
