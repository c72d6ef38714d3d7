use Rattle.xpath_grammar.proofs.ViewLaws.{view-value}
use Rattle.xpath_grammar.proofs.laws.trees_are_expressions.Goals as goal

pub returns : goal.returns
returns c = view-value
