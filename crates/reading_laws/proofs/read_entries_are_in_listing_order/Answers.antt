use Rattle.reading_laws.proofs.InvoiceLemmas.{read-listed}
use Rattle.reading_laws.proofs.read_entries_are_in_listing_order.Goals as goal

pub returns : goal.returns
returns c = read-listed
