use Rattle.std.proofs.Common.{◌∷◌, []}
use Rattle.inv_base.proofs.WritingLemmas.{WritesFront-append, WritesFront-more, Writes-append, Writes-at_err}
use Rattle.xml_write.proofs.pen.put_value.Goals as goal

pub returns-in_err-put : goal.returns-in_err-put
returns-in_err-put g c =
    Writes-at_err _ _ _ _ c.from_residual.ensures.0 (WritesFront-more (0x3D ∷ 0x22 ∷ []) _ _ _ c.in_err-put.ensures)

pub returns-in_err-put_escaped : goal.returns-in_err-put_escaped
returns-in_err-put_escaped g c =
    Writes-at_err _ _ _ _ c.from_residual-in_err-put_escaped.ensures.0
    (WritesFront-append (0x3D ∷ 0x22 ∷ []) _ _ _ _ c.in_ok-put.ensures
    (WritesFront-more _ _ _ _ c.in_err-put_escaped.ensures))

pub returns : goal.returns
returns g c =
    Writes-append _ (0x3D ∷ 0x22 ∷ []) _ _ _ _ c.in_ok-put.ensures
    (Writes-append _ _ _ _ _ _ c.in_ok-put_escaped.ensures c.put-2.ensures)
