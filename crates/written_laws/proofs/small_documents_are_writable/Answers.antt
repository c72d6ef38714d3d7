use Rattle.written_laws.proofs.ReadLemmas.{writable}
use Rattle.written_laws.proofs.small_documents_are_writable.Goals as goal

pub returns : goal.returns
returns c = writable c.spelled_values_are_read_back.ensures
