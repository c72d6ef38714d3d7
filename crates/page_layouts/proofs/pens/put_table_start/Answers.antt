use Rattle.std.proofs.Common.{sym, ◌∙◌}
use Rattle.inv_base.proofs.PrintingLemmas.{Prints-append, Prints-same}
use Rattle.page_tables.specs.Tables.{column_lent}
use Rattle.page_layouts.proofs.HeadLemmas.{table_start-some}
use Rattle.page_layouts.proofs.pens.put_table_start.Goals as goal

pub returns : goal.returns
returns g c =
    Prints-same _ _ _ _ _ _ (table_start-some column_lent c.args.columns.now (sym c.is_empty.ensures ∙ c.if-is_empty.false))
    (Prints-append _ _ _ _ _ _ _ _ c.put.ensures (Prints-append _ _ _ _ _ _ _ _ c.put_columns.ensures c.put-2.ensures))
