use Rattle.xpath_meaning.proofs.MeaningKinds.{of_mean}
use Rattle.xpath_meaning.proofs.values_have_their_kinds.Goals as goal

pub returns : goal.returns
returns c = of_mean
