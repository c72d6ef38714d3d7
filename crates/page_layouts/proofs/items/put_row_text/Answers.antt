use Rattle.inv_base.proofs.PrintingLemmas.{Prints-append, Prints-same}
use Rattle.page_layouts.proofs.items.put_row_text.Goals as goal

pub returns : goal.returns
returns g c = Prints-append _ _ _ _ _ _ _ _ c.put.ensures
    (Prints-append _ _ _ _ _ _ _ _ (Prints-same _ _ _ _ _ _ c.as_bytes.ensures.value c.put-2.ensures)
    (Prints-append _ _ _ _ _ _ _ _ c.put-3.ensures
    (Prints-append _ _ _ _ _ _ _ _ c.put_parts.ensures
    c.put-4.ensures)))
