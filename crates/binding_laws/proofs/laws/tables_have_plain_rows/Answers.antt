use Rattle.binding_laws.proofs.Counts.{terms-invoice, plain-invoice, attributes-invoice, terms-credit_note, plain-credit_note, attributes-credit_note}
use Rattle.binding_laws.proofs.Counts.{terms-cii, plain-cii, attributes-cii}
use Rattle.binding_laws.proofs.laws.tables_have_plain_rows.Goals as goal

pub returns-clause-invoice : goal.returns-clause-invoice
returns-clause-invoice c = (terms-invoice, plain-invoice, attributes-invoice)

pub returns-clause-credit_note : goal.returns-clause-credit_note
returns-clause-credit_note c = (terms-credit_note, plain-credit_note, attributes-credit_note)

pub returns-clause-cii : goal.returns-clause-cii
returns-clause-cii c = (terms-cii, plain-cii, attributes-cii)
