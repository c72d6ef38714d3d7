use Rattle.xpath_meaning.proofs.TreeUses.{alone_same}
use Rattle.xpath_meaning.proofs.parts_depend_on_the_document_alone.Goals as goal

pub returns : goal.returns
returns c = alone_same
