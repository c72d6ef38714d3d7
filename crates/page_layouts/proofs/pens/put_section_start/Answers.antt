use Rattle.std.proofs.Common.{sym, ◌∙◌}
use Rattle.inv_base.proofs.PrintingLemmas.{Prints-append, Prints-same}
use Rattle.page_layouts.proofs.HeadLemmas.{section_start-some}
use Rattle.page_layouts.proofs.pens.put_section_start.Goals as goal

pub returns : goal.returns
returns g c =
    Prints-same _ _ _ _ _ _ (section_start-some c.args.class.now (sym c.is_empty.ensures ∙ c.if-is_empty.false))
    (Prints-append _ _ _ _ _ _ _ _ c.put-2.ensures
    (Prints-append _ _ _ _ _ _ _ _ (Prints-same _ _ _ _ _ _ c.as_bytes.ensures.value c.put-3.ensures) c.put-4.ensures))
