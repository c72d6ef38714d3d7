use Rattle.std.proofs.Common.{sym}
use Rattle.inv_base.proofs.PrintingLemmas.{Prints-append, Prints-same}
use Rattle.json_text.proofs.LayoutLemmas.{encode-begin}
use Rattle.json_text.proofs.pen.JsonPen.begin.Goals as goal

pub returns-clause-prints : goal.returns-clause-prints
returns-clause-prints g c =
    let was = c.args.self.now.state in
    Prints-same _ _ _ _ _ _ (sym (encode-begin was.place was.depth c.args.kind))
    (Prints-append _ _ _ _ _ _ _ _ c.lead.ensures.prints (Prints-same _ _ _ _ _ _ c.opening.ensures c.put.ensures))
