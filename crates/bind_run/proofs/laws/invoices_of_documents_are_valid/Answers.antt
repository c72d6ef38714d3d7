use Rattle.bind_run.proofs.RootLemmas.{root-read}
use Rattle.bind_run.proofs.laws.invoices_of_documents_are_valid.Goals as goal

pub returns : goal.returns
returns c = root-read c.read_invoices_are_valid.ensures.documents
