use Rattle.binding_laws.proofs.Leaves.{covered-invoice, settled-invoice, faultless-invoice, left-invoice, covered-credit_note, settled-credit_note}
use Rattle.binding_laws.proofs.Leaves.{faultless-credit_note, left-credit_note, covered-cii, settled-cii, faultless-cii, left-cii, unlike-invoice}
use Rattle.binding_laws.proofs.Leaves.{unlike-credit_note, together-invoice, together-credit_note, asked-cii}
use Rattle.binding_laws.proofs.laws.tables_leave_terms_out.Goals as goal

pub returns-clause-invoice : goal.returns-clause-invoice
returns-clause-invoice c = (covered-invoice, settled-invoice, faultless-invoice, left-invoice)

pub returns-clause-credit_note : goal.returns-clause-credit_note
returns-clause-credit_note c = (covered-credit_note, settled-credit_note, faultless-credit_note, left-credit_note)

pub returns-clause-cii : goal.returns-clause-cii
returns-clause-cii c = (covered-cii, settled-cii, faultless-cii, left-cii)

pub returns-clause-asked_invoice : goal.returns-clause-asked_invoice
returns-clause-asked_invoice c = (unlike-invoice, together-invoice)

pub returns-clause-asked_credit_note : goal.returns-clause-asked_credit_note
returns-clause-asked_credit_note c = (unlike-credit_note, together-credit_note)

pub returns-clause-asked_cii : goal.returns-clause-asked_cii
returns-clause-asked_cii c = asked-cii
