use Rattle.bind_write.proofs.WriterSteps.{loop-err, loop-ok, loop-end}
use Rattle.bind_write.proofs.cells.put_attributes.Goals as goal

pub returns-in_err-put_attribute-clause-makes : goal.returns-in_err-put_attribute-clause-makes
returns-in_err-put_attribute-clause-makes g c =
    loop-err _ _ _ _ _ _ _ _ _ _ _ c.as_slice-numbers.ensures c.rows-test.true c.rows.invariant.ahead c.in_err-put_attribute.ensures.makes
    c.from_residual.ensures.0

pub rows-preserved : goal.rows-preserved
rows-preserved g c = record {
  ahead = loop-ok _ _ c.as_slice-numbers.result.now _ _ _ _ _ _ _ c.rows-test.true c.rows.invariant.ahead c.in_ok-put_attribute.ensures.makes;
  state = c.in_ok-put_attribute.ensures.state;
}

pub returns-clause-makes : goal.returns-clause-makes
returns-clause-makes g c = loop-end _ _ _ _ _ _ _ _ c.as_slice-numbers.ensures c.rows-test.false c.rows.invariant.ahead
