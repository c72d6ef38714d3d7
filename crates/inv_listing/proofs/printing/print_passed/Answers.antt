use Rattle.std.proofs.Common.{◌∙◌}
use Rattle.inv_base.proofs.PrintingLemmas.{Prints-append, Prints-same}
use Rattle.inv_listing.proofs.printing.print_passed.Goals as goal

pub returns : goal.returns
returns g c =
    let number = Prints-same _ _ _ _ _ _ (c.as_bytes.ensures.value ∙ c.format.ensures.text) c.put-2.ensures in
    Prints-append _ _ _ _ _ _ _ _ c.put.ensures (Prints-append _ _ _ _ _ _ _ _ number c.put-3.ensures)
