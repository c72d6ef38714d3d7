use Rattle.whole_laws.proofs.Tables.{whole-each}
use Rattle.whole_laws.proofs.tables_are_whole.Goals as goal

pub returns : goal.returns
returns c = whole-each
