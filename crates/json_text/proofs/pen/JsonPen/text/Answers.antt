use Rattle.std.proofs.Common.{sym}
use Rattle.std.specs.Str.{chars}
use Rattle.std.proofs.lemmas.Str.{encodes-append}
use Rattle.inv_base.proofs.PrintingLemmas.{Prints-append, Prints-same}
use Rattle.json_text.specs.Layout.{lead, string_text}
use Rattle.json_text.proofs.pen.JsonPen.text.Goals as goal

pub returns-clause-prints : goal.returns-clause-prints
returns-clause-prints g c =
    let was = c.args.self.now.state in
    Prints-same _ _ _ _ _ _ (sym (encodes-append (lead was.place was.depth) (string_text (chars c.args.value.now))))
    (Prints-append _ _ _ _ _ _ _ _ c.lead.ensures.prints c.put_string.ensures)
