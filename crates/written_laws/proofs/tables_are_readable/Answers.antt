use Rattle.written_laws.proofs.Rows.{all-readable, all-show}
use Rattle.written_laws.proofs.tables_are_readable.Goals as goal

pub returns-clause-readable : goal.returns-clause-readable
returns-clause-readable c = all-readable

pub returns-clause-shows : goal.returns-clause-shows
returns-clause-shows c = all-show
