use Rattle.bind_meaning.specs.Tables.{rows_of}
use Rattle.bind_run.specs.Extensions.{terms_for}
use Rattle.whole_laws.proofs.good_extensions_are_whole.Goals as goal

pub returns : goal.returns
returns c = λ terms good table.
    c.joined_tables_stay_whole.ensures.terms table (terms_for table terms) (rows_of table) (c.tables_are_whole.ensures table)
    (c.good_extensions_join.ensures table terms good.fine (good.formed table))
