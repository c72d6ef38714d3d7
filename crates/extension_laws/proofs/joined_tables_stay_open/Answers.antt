use Rattle.extension_laws.proofs.OpenLemmas.{open-more, room-more, open-extended}
use Rattle.extension_laws.proofs.joined_tables_stay_open.Goals as goal

pub returns-clause-open_table : goal.returns-clause-open_table
returns-clause-open_table c = open-more

pub returns-clause-room : goal.returns-clause-room
returns-clause-room c = room-more

pub returns-clause-extended_table : goal.returns-clause-extended_table
returns-clause-extended_table c = open-extended
