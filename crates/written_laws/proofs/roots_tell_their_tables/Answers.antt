use Rattle.written_laws.proofs.Rows.{all-told}
use Rattle.written_laws.proofs.TableLemmas.{root-tells}
use Rattle.written_laws.proofs.roots_tell_their_tables.Goals as goal

pub returns-clause-document : goal.returns-clause-document
returns-clause-document c = root-tells

pub returns-clause-tables : goal.returns-clause-tables
returns-clause-tables c = all-told
