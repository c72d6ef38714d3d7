use Rattle.std.proofs.Common.{sym, ◌∙◌}
use Rattle.inv_base.proofs.PrintingLemmas.{Prints-append}
use Rattle.page_layouts.proofs.ShowLemmas.{Shows-opened}
use Rattle.page_layouts.proofs.tables.put_row.Goals as goal

pub returns : goal.returns
returns g c = Shows-opened _ _ _ _ c.open.new.pen _ _ _ _ c.open.ensures.prints c.open.ensures.begun
    (Prints-append _ _ _ _ _ _ _ _ c.put.ensures (Prints-append _ _ _ _ _ _ _ _ c.put_cells.ensures.prints c.put-2.ensures))
    (c.put_cells.ensures.begun ∙ sym c.open.ensures.begun)
