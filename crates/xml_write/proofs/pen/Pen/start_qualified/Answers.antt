use Rattle.std.proofs.Common.{◌∷◌, [], ap, ◌∙◌}
use Rattle.inv_base.proofs.WritingLemmas.{WritesFront-append, WritesFront-more, Writes-append, Writes-at_err}
use Rattle.xml_write.specs.Calls.{lead_in}
use Rattle.xml_write.proofs.pen.Pen.start_qualified.Goals as goal

pub returns-in_err-put-2-clause-writes : goal.returns-in_err-put-2-clause-writes
returns-in_err-put-2-clause-writes g c =
    let first = rw (c.lead_in-lead_in.ensures ∙ ap lead_in c.self.view_is) at c.in_ok-put.ensures in
    Writes-at_err _ _ _ _ c.from_residual-in_err-put-2.ensures.0
    (WritesFront-append _ _ _ _ _ first (WritesFront-more (0x3C ∷ []) _ _ _ c.in_err-put-2.ensures))

pub returns-clause-writes : goal.returns-clause-writes
returns-clause-writes g c =
    let first = rw (c.lead_in-lead_in.ensures ∙ ap lead_in c.self.view_is) at c.in_ok-put.ensures in
    Writes-append _ _ _ _ _ _ first (Writes-append _ (0x3C ∷ []) _ _ _ _ c.in_ok-put-2.ensures c.put_qualified.ensures)
