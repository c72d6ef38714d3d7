use Rattle.inv_base.proofs.PrintingLemmas.{Prints-append}
use Rattle.page_layouts.proofs.items.put_row_of_text.Goals as goal

pub returns : goal.returns
returns g c = Prints-append _ _ _ _ _ _ _ _ c.put.ensures
    (Prints-append _ _ _ _ _ _ _ _ c.put_value.ensures
    (Prints-append _ _ _ _ _ _ _ _ c.put-2.ensures
    (Prints-append _ _ _ _ _ _ _ _ c.put_parts.ensures
    c.put-3.ensures)))
