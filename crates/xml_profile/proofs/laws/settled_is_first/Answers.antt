use Rattle.xml_profile.proofs.GrowthLemmas.{settled-first}
use Rattle.xml_profile.proofs.laws.settled_is_first.Goals as goal

pub returns : goal.returns
returns c = settled-first
