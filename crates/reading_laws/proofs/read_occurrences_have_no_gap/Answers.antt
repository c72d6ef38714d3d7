use Rattle.reading_laws.proofs.InvoiceLemmas.{read-numbered}
use Rattle.reading_laws.proofs.read_occurrences_have_no_gap.Goals as goal

pub returns : goal.returns
returns c = read-numbered
