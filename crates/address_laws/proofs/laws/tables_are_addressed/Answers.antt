use Rattle.address_laws.proofs.Tables.{addressed}
use Rattle.address_laws.proofs.laws.tables_are_addressed.Goals as goal

pub returns : goal.returns
returns c document_type = addressed document_type
