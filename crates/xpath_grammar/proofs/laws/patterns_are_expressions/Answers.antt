use Rattle.xpath_grammar.proofs.PatternLaws.{pattern_spelled, spelled_pattern}
use Rattle.xpath_grammar.proofs.laws.patterns_are_expressions.Goals as goal

pub returns : goal.returns
returns c = λ tokens x. (pattern_spelled tokens x, λ s. spelled_pattern tokens x s.0 s.1)
