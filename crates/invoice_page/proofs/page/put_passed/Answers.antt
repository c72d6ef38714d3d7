use Rattle.std.proofs.Common.{◌∙◌}
use Rattle.inv_base.proofs.PrintingLemmas.{Prints-append, Prints-same}
use Rattle.invoice_page.proofs.HeadLemmas.{passed-some}
use Rattle.invoice_page.proofs.page.put_passed.Goals as goal

pub returns : goal.returns
returns g c =
    Prints-same _ _ _ _ _ _ (passed-some c.args.passed_over c.if-passed_over-eq0.false)
    (Prints-append _ _ _ _ _ _ _ _ c.put.ensures
    (Prints-append _ _ _ _ _ _ _ _ (Prints-same _ _ _ _ _ _ (c.as_bytes.ensures.value ∙ c.format.ensures.text) c.put-2.ensures) c.put-3.ensures))
