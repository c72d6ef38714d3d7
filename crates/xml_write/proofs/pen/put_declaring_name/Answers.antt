use Rattle.std.proofs.Common.{◌∷◌, [], sym, ◌∙◌}
use Rattle.inv_base.proofs.WritingLemmas.{WritesFront-more, Writes-append, Writes-at_err}
use Rattle.xml_write.proofs.EncodingLemmas.{declaring_name-some}
use Rattle.xml_write.proofs.pen.put_declaring_name.Goals as goal

pub returns-in_err-put : goal.returns-in_err-put
returns-in_err-put g c =
    rw (declaring_name-some c.args.prefix.now (sym c.is_empty.ensures ∙ c.if-is_empty.false))
    (Writes-at_err _ _ _ _ c.from_residual.ensures.0
    (WritesFront-more (0x78 ∷ 0x6D ∷ 0x6C ∷ 0x6E ∷ 0x73 ∷ 0x3A ∷ []) _ _ _ c.in_err-put.ensures))

pub returns : goal.returns
returns g c =
    rw (declaring_name-some c.args.prefix.now (sym c.is_empty.ensures ∙ c.if-is_empty.false))
    (Writes-append _ (0x78 ∷ 0x6D ∷ 0x6C ∷ 0x6E ∷ 0x73 ∷ 0x3A ∷ []) _ _ _ _ c.in_ok-put.ensures c.put-3.ensures)
