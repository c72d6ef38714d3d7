use Rattle.xpath_meaning.proofs.TreeUses.{position_same}
use Rattle.xpath_meaning.proofs.positions_change_nothing.Goals as goal

pub returns : goal.returns
returns c = position_same
