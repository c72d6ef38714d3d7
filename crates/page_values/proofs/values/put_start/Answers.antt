use Rattle.inv_base.proofs.PrintingLemmas.{Prints-append}
use Rattle.page_values.proofs.values.put_start.Goals as goal

pub returns : goal.returns
returns g c = Prints-append _ _ _ _ _ _ _ _ c.put.ensures
    (Prints-append _ _ _ _ _ _ _ _ c.put_title.ensures
    c.put-2.ensures)
