use Rattle.written_laws.proofs.NumberLemmas.{number-read}
use Rattle.written_laws.proofs.TableLemmas.{read-holds}
use Rattle.written_laws.proofs.read_invoices_have_a_number.Goals as goal

pub returns-clause-number : goal.returns-clause-number
returns-clause-number c = number-read

pub returns-clause-document : goal.returns-clause-document
returns-clause-document c = read-holds
