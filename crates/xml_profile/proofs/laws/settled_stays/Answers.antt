use Rattle.xml_profile.proofs.GrowthLemmas.{settled-stays}
use Rattle.xml_profile.proofs.laws.settled_stays.Goals as goal

pub returns : goal.returns
returns c = settled-stays
