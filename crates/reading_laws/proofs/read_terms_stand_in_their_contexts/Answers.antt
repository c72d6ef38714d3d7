use Rattle.reading_laws.proofs.InvoiceLemmas.{read-placed}
use Rattle.reading_laws.proofs.read_terms_stand_in_their_contexts.Goals as goal

pub returns : goal.returns
returns c = read-placed
