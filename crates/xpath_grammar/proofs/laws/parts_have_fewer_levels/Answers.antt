use Rattle.xpath_grammar.proofs.PlaceLaws.{parts_below}
use Rattle.xpath_grammar.proofs.laws.parts_have_fewer_levels.Goals as goal

pub returns : goal.returns
returns c = parts_below
