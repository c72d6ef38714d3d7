use Rattle.std.proofs.Common.{sym, ap, ◌∙◌}
use Rattle.inv_base.proofs.WritingLemmas.{Writes-append}
use Rattle.xml_write.proofs.EncodingLemmas.{content_text-some}
use Rattle.xml_write.specs.Calls.{lead_in}
use Rattle.xml_write.proofs.pen.Pen.text.Goals as goal

pub returns-clause-writes : goal.returns-clause-writes
returns-clause-writes g c =
    let first = rw (c.lead_in-lead_in.ensures ∙ ap lead_in c.self.view_is) at c.in_ok-put.ensures in
    rw (content_text-some c.args.self.now c.args.t.now (sym c.is_empty.ensures ∙ c.if-is_empty.false))
    (Writes-append _ _ _ _ _ _ first c.put_escaped.ensures)
