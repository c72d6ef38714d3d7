use Rattle.xpath_grammar.proofs.Complete.{finds}
use Rattle.xpath_grammar.proofs.laws.written_is_read.Goals as goal

pub returns : goal.returns
returns c = finds
