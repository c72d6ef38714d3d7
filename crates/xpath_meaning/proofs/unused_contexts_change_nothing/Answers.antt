use Rattle.xpath_meaning.proofs.SameValues.{mean_same}
use Rattle.xpath_meaning.proofs.unused_contexts_change_nothing.Goals as goal

pub returns : goal.returns
returns c = mean_same
