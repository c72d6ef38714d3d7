use Rattle.std.proofs.Common.{sym, ap, ◌∙◌}
use Rattle.inv_base.proofs.PrintingLemmas.{Prints-append, Prints-same}
use Rattle.invoice_page.specs.Page.{breakdown_text}
use Rattle.invoice_page.proofs.differing.put_breakdown.Goals as goal

pub returns-in-Some : goal.returns-in-Some
returns-in-Some g c =
    Prints-same _ _ _ _ _ _ (sym (ap breakdown_text c.in-Some.is))
    (Prints-append _ _ _ _ _ _ _ _ c.put.ensures (Prints-same _ _ _ _ _ _ (c.as_bytes.ensures.value ∙ c.format.ensures.text) c.put-in-Some.ensures))
