use Rattle.std.proofs.Common.{◌∷◌, [], sym, ◌∙◌}
use Rattle.inv_base.proofs.WritingLemmas.{WritesFront-append, WritesFront-more, Writes-append, Writes-at_err}
use Rattle.xml_write.proofs.EncodingLemmas.{qualified-some}
use Rattle.xml_write.proofs.pen.put_qualified.Goals as goal

pub returns-in_err-put : goal.returns-in_err-put
returns-in_err-put g c =
    rw (qualified-some c.args.prefix.now c.args.local.now (sym c.is_empty.ensures ∙ c.if-is_empty.false))
    (Writes-at_err _ _ _ _ c.from_residual.ensures.0 (WritesFront-more _ _ _ _ c.in_err-put.ensures))

pub returns-in_err-put-2 : goal.returns-in_err-put-2
returns-in_err-put-2 g c =
    rw (qualified-some c.args.prefix.now c.args.local.now (sym c.is_empty.ensures ∙ c.if-is_empty.false))
    (Writes-at_err _ _ _ _ c.from_residual-in_err-put-2.ensures.0
    (WritesFront-append _ _ _ _ _ c.in_ok-put.ensures
    (WritesFront-more (0x3A ∷ []) _ _ _ c.in_err-put-2.ensures)))

pub returns : goal.returns
returns g c =
    rw (qualified-some c.args.prefix.now c.args.local.now (sym c.is_empty.ensures ∙ c.if-is_empty.false))
    (Writes-append _ _ _ _ _ _ c.in_ok-put.ensures
    (Writes-append _ (0x3A ∷ []) _ _ _ _ c.in_ok-put-2.ensures c.put-4.ensures))
