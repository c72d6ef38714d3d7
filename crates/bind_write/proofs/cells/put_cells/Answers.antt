use Rattle.bind_write.proofs.WriterSteps.{begin, step, break, last}
use Rattle.xml_write.proofs.WriterLemmas.{Makes-at_err}
use Rattle.bind_write.proofs.cells.put_cells.Goals as goal

pub returns-in_err-put_currencies-clause-makes : goal.returns-in_err-put_currencies-clause-makes
returns-in_err-put_currencies-clause-makes g c =
    Makes-at_err _ _ _ _ _ _ c.from_residual.ensures.0 (break _ _ _ _ _ _ _ _ c.in_err-put_currencies.ensures.makes (begin _ _ _))

pub returns-in_err-put_attributes-clause-makes : goal.returns-in_err-put_attributes-clause-makes
returns-in_err-put_attributes-clause-makes g c =
    Makes-at_err _ _ _ _ _ _ c.from_residual-in_err-put_attributes.ensures.0
    (break _ _ _ _ _ _ _ _ c.in_err-put_attributes.ensures.makes (step _ _ _ _ _ _ _ _ _ c.in_ok-put_currencies.ensures.makes (begin _ _ _)))

pub returns-clause-makes : goal.returns-clause-makes
returns-clause-makes g c =
    last _ _ _ _ _ _ _ _ _ c.put_texts.ensures.makes
    (step _ _ _ _ _ _ _ _ _ c.in_ok-put_attributes.ensures.makes (step _ _ _ _ _ _ _ _ _ c.in_ok-put_currencies.ensures.makes (begin _ _ _)))
