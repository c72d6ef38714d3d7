use Rattle.bind_write.specs.Walking.{start_calls}
use Rattle.xml_write.proofs.WriterLemmas.{Makes-at_err}
use Rattle.bind_write.proofs.WriterSteps.{begin, step, break, last}
use Rattle.bind_write.proofs.roots.put_root_start.Goals as goal

pub returns-in_err-put_start-clause-makes : goal.returns-in_err-put_start-clause-makes
returns-in_err-put_start-clause-makes g c = Makes-at_err _ _ _ _ _ _ c.from_residual.ensures.0
    (break _ _ _ _ _ _ (start_calls c.args.line.now.step) _ c.in_err-put_start.ensures.makes (begin _ _ _))

pub returns-in_err-put_declarations-clause-makes : goal.returns-in_err-put_declarations-clause-makes
returns-in_err-put_declarations-clause-makes g c =
    Makes-at_err _ _ _ _ _ _ c.from_residual-in_err-put_declarations.ensures.0
    (break _ _ _ _ _ _ _ _ c.in_err-put_declarations.ensures.makes
    (step _ _ _ _ _ _ _ (start_calls c.args.line.now.step) _ c.in_ok-put_start.ensures.makes (begin _ _ _)))

pub returns-clause-makes : goal.returns-clause-makes
returns-clause-makes g c =
    last _ _ _ _ _ _ _ _ _ c.put_cells.ensures.makes
    (step _ _ _ _ _ _ _ _ _ c.in_ok-put_declarations.ensures.makes
    (step _ _ _ _ _ _ _ (start_calls c.args.line.now.step) _ c.in_ok-put_start.ensures.makes (begin _ _ _)))
