use Rattle.std.proofs.Common.{◌∷◌, []}
use Rattle.inv_base.proofs.WritingLemmas.{WritesFront-append, WritesFront-more, Writes-append, Writes-at_err}
use Rattle.xml_write.proofs.pen.Pen.declare.Goals as goal

pub returns-in_err-put-clause-writes : goal.returns-in_err-put-clause-writes
returns-in_err-put-clause-writes g c =
    Writes-at_err _ _ _ _ c.from_residual.ensures.0 (WritesFront-more (0x20 ∷ []) _ _ _ c.in_err-put.ensures)

pub returns-in_err-put_declaring_name-clause-writes : goal.returns-in_err-put_declaring_name-clause-writes
returns-in_err-put_declaring_name-clause-writes g c =
    Writes-at_err _ _ _ _ c.from_residual-in_err-put_declaring_name.ensures.0
    (WritesFront-append (0x20 ∷ []) _ _ _ _ c.in_ok-put.ensures
    (WritesFront-more _ _ _ _ c.in_err-put_declaring_name.ensures))

pub returns-clause-writes : goal.returns-clause-writes
returns-clause-writes g c =
    Writes-append _ (0x20 ∷ []) _ _ _ _ c.in_ok-put.ensures
    (Writes-append _ _ _ _ _ _ c.in_ok-put_declaring_name.ensures c.put_value.ensures)
