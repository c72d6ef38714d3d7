use Rattle.xml_profile.proofs.FinishLemmas.{finish-ends}
use Rattle.xml_profile.proofs.reader.Reader.finish.Goals as goal

pub returns-clause-ended : goal.returns-clause-ended
returns-clause-ended g c = finish-ends _ _ _ _ c.end.ensures
