use Rattle.bind_meaning.specs.Tables.{rows_of}
use Rattle.bind_run.specs.Extensions.{terms_for}
use Rattle.order_laws.proofs.good_extensions_stay_in_order.Goals as goal

pub returns : goal.returns
returns c = λ table terms fine formed.
    c.joined_tables_stay_in_order.ensures.extended_table table (rows_of table) (terms_for table terms)
    (c.good_extensions_join.ensures table terms fine formed)
    (c.tables_are_in_order.ensures table)
