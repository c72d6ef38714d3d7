use Rattle.xpath_grammar.proofs.PatternLaws.{derived_spelled, spelled_derived}
use Rattle.xpath_grammar.proofs.laws.productions_spell.Goals as goal

pub returns : goal.returns
returns c = λ tokens x. (derived_spelled tokens x, spelled_derived tokens x)
