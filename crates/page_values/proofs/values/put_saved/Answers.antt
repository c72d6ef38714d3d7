use Rattle.inv_base.proofs.PrintingLemmas.{Prints-append}
use Rattle.page_values.proofs.values.put_saved.Goals as goal

pub returns : goal.returns
returns g c = Prints-append _ _ _ _ _ _ _ _ c.put.ensures
    (Prints-append _ _ _ _ _ _ _ _ c.put_title.ensures
    (Prints-append _ _ _ _ _ _ _ _ c.put-2.ensures
    (Prints-append _ _ _ _ _ _ _ _ c.put_text_at.ensures
    c.put_link.ensures)))
