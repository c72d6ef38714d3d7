use Rattle.address_laws.proofs.Tries.{group-well_formed, group-laid, group-addressed, group-document, group-tree, constant-well_formed, constant-laid}
use Rattle.address_laws.proofs.Tries.{constant-addressed, constant-document, constant-tree}
use Rattle.address_laws.proofs.laws.other_tables_may_differ.Goals as goal

pub returns-clause-group : goal.returns-clause-group
returns-clause-group c = (group-well_formed, (group-laid, (group-addressed, (group-document, group-tree))))

pub returns-clause-constant : goal.returns-clause-constant
returns-clause-constant c = (constant-well_formed, (constant-laid, (constant-addressed, (constant-document, constant-tree))))
