use Rattle.bind_table.specs.Lines.{plan_of}
use Rattle.written_laws.specs.Readable.{invoice_number}
use Rattle.written_laws.proofs.RootLemmas.{lines-hold, number-stands}
use Rattle.written_laws.proofs.shown_terms_make_a_document.Goals as goal

pub returns-clause-term : goal.returns-clause-term
returns-clause-term c rows es term shown stands = lines-hold es term stands (plan_of rows) shown

pub returns-clause-valid : goal.returns-clause-valid
returns-clause-valid c rows es lists shown valid = lines-hold es invoice_number (number-stands es lists valid) (plan_of rows) shown
