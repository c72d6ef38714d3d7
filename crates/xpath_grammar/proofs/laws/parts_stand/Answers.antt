use Rattle.xpath_grammar.proofs.PlaceLaws.{parts_stand}
use Rattle.xpath_grammar.proofs.laws.parts_stand.Goals as goal

pub returns : goal.returns
returns c = parts_stand
