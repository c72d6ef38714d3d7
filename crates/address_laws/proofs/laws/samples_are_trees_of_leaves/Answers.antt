use Rattle.address_laws.proofs.Tries.{whole, spread, table-addressed, table-size}
use Rattle.address_laws.proofs.laws.samples_are_trees_of_leaves.Goals as goal

pub returns-clause-table : goal.returns-clause-table
returns-clause-table c = (table-addressed, table-size)

pub returns-clause-full : goal.returns-clause-full
returns-clause-full c = whole

pub returns-clause-spread : goal.returns-clause-spread
returns-clause-spread c = spread
