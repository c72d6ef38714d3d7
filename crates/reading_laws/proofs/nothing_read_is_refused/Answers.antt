use Rattle.reading_laws.proofs.InvoiceLemmas.{places-told}
use Rattle.reading_laws.proofs.FrontLemmas.{none-refused}
use Rattle.reading_laws.proofs.nothing_read_is_refused.Goals as goal

pub returns-clause-places : goal.returns-clause-places
returns-clause-places c = places-told

pub returns-clause-entries : goal.returns-clause-entries
returns-clause-entries c = none-refused c.push_refuses_what_makes_no_invoice.ensures
