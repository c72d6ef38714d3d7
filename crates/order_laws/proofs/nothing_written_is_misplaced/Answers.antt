use Rattle.bind_meaning.specs.Tables.{rows_of}
use Rattle.bind_run.specs.Extensions.{rows_for}
use Rattle.order_laws.proofs.nothing_written_is_misplaced.Goals as goal

pub returns-clause-tables : goal.returns-clause-tables
returns-clause-tables c = λ table es. c.tables_in_order_misplace_nothing.ensures (rows_of table) es (c.tables_are_in_order.ensures table)

pub returns-clause-extended_tables : goal.returns-clause-extended_tables
returns-clause-extended_tables c = λ bytes terms table es read formed.
    c.tables_in_order_misplace_nothing.ensures (rows_for terms table) es
    (c.good_extensions_stay_in_order.ensures table terms (c.file_terms_are_extensions.ensures bytes terms read) formed)
