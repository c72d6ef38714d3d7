use Rattle.std.proofs.Common.{[], ◌∷◌, sym}
use Rattle.std.specs.Str.{chars}
use Rattle.inv_base.proofs.PrintingLemmas.{Prints-append, Prints-same}
use Rattle.json_text.proofs.LayoutLemmas.{encode-name}
use Rattle.json_text.proofs.pen.JsonPen.name.Goals as goal

pub returns-clause-prints : goal.returns-clause-prints
returns-clause-prints g c =
    let was = c.args.self.now.state in
    Prints-same _ _ _ _ _ _ (sym (encode-name was.place was.depth (chars c.args.name.now)))
    (Prints-append _ _ _ _ _ _ _ _ c.lead.ensures.prints (Prints-append _ (0x3A ∷ 0x20 ∷ []) _ _ _ _ _ _ c.put_string.ensures c.put.ensures))
