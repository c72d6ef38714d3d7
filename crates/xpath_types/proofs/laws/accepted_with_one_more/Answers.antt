use Rattle.xpath_types.proofs.WiderLemmas.{accepted}
use Rattle.xpath_types.proofs.laws.accepted_with_one_more.Goals as goal

pub returns : goal.returns
returns c = accepted
