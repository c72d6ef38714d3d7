use Rattle.std.proofs.Common.{sym}
use Rattle.page_tables.specs.Tables.{row_lent}
use Rattle.page_layouts.specs.Tables.{rows_of}
use Rattle.page_values.specs.Seen.{seen}
use Rattle.page_values.proofs.LoopLemmas.{of-at}
use Rattle.page_layouts.proofs.ShowLemmas.{Shows-append, Shows-same}
use Rattle.page_layouts.proofs.tables.put_rows.Goals as goal

pub groups-preserved : goal.groups-preserved
groups-preserved g c =
    Shows-same _ _ _ _ _ _ _ (sym (of-at (rows_of (seen c.args.place.now)) row_lent c.args.groups.now c.groups.row-index _ c.groups-test.true))
    (Shows-append _ _ _ _ _ _ _ _ _ c.groups.invariant c.put_rows_of.ensures)
