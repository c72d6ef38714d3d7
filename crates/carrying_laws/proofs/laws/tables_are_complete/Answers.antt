use Rattle.carrying_laws.proofs.TableLemmas.{tables-complete, tables-left}
use Rattle.carrying_laws.proofs.laws.tables_are_complete.Goals as goal

pub returns-clause-complete : goal.returns-clause-complete
returns-clause-complete c = tables-complete

pub returns-clause-left : goal.returns-clause-left
returns-clause-left c = tables-left
