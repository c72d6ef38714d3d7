use Rattle.std.proofs.Common.{sym}
use Rattle.inv_base.proofs.PrintingLemmas.{Prints-append, Prints-same}
use Rattle.json_text.proofs.LayoutLemmas.{encode-end}
use Rattle.json_text.proofs.pen.JsonPen.end.Goals as goal

pub returns-clause-prints : goal.returns-clause-prints
returns-clause-prints g c =
    let was = c.args.self.now.state in
    Prints-same _ _ _ _ _ _ (sym (encode-end was.place was.depth c.args.kind))
    (Prints-append _ _ _ _ _ _ _ _ c.end_lead.ensures.prints (Prints-same _ _ _ _ _ _ c.closing.ensures c.put.ensures))
