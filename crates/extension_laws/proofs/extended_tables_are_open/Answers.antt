use Rattle.extension_laws.proofs.OpenLemmas.{less-room}
use Rattle.bind_meaning.specs.Tables.{rows_of}
use Rattle.std.specs.Prelude.{length}
use Rattle.extension_laws.proofs.extended_tables_are_open.Goals as goal

pub returns : goal.returns
returns c = λ table terms few joins.
    c.joined_tables_stay_open.ensures.extended_table table terms (rows_of table) (c.tables_are_open.ensures.open_table table)
    (less-room (rows_of table) 99 (length terms) few (c.tables_are_open.ensures.room table)) joins
