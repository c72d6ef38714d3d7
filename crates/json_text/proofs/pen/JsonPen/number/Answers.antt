use Rattle.std.proofs.Common.{sym, ◌∙◌}
use Rattle.inv_base.proofs.PrintingLemmas.{Prints-append, Prints-same}
use Rattle.json_text.proofs.LayoutLemmas.{encode-number}
use Rattle.json_text.proofs.pen.JsonPen.number.Goals as goal

pub returns-clause-prints : goal.returns-clause-prints
returns-clause-prints g c =
    let was = c.args.self.now.state in
    let digits = Prints-same _ _ _ _ _ _ (c.as_bytes.ensures.value ∙ c.format.ensures.text) c.put.ensures in
    Prints-same _ _ _ _ _ _ (sym (encode-number was.place was.depth c.args.value c.ranges.value.fits))
    (Prints-append _ _ _ _ _ _ _ _ c.lead.ensures.prints digits)
