use Rattle.std.proofs.Common.{ap}
use Rattle.inv_base.proofs.PrintingLemmas.{Prints-append, Prints-same}
use Rattle.page_values.specs.Values.{sign}
use Rattle.page_values.proofs.values.put_plain.Goals as goal

pub returns : goal.returns
returns g c = Prints-append _ _ _ _ _ _ _ _ c.put_element.ensures
    (Prints-append _ _ _ _ _ _ _ _ (Prints-same _ _ _ _ _ _ (ap sign c.is_percentage.ensures) c.put_sign.ensures) c.put_meaning_of.ensures)
