use Rattle.xml_laws.proofs.CanonicalReadLemmas.{canonical-read}
use Rattle.xml_laws.proofs.canonical_text_is_read.Goals as goal

pub returns : goal.returns
returns c = canonical-read
