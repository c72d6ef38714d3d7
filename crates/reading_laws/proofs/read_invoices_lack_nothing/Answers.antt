use Rattle.reading_laws.proofs.WholeLemmas.{read-valid}
use Rattle.reading_laws.proofs.read_invoices_lack_nothing.Goals as goal

pub returns : goal.returns
returns c = read-valid c.valid_invoices_lack_nothing.ensures
