use Rattle.std.proofs.Common.{arith, sym, ◌∙◌}
use Rattle.bind_table.proofs.GrowingLemmas.{line_fits, next_lines, passing_more, seeks_end, seeks_here}
use Rattle.bind_table.proofs.growing.seek.Goals as goal

pub overflow_add-at : goal.overflow_add-at
overflow_add-at c = omega (arith, c.ranges.to.fits, line_fits _ _ _ _ c.beside.invariant.0 c.beside-test.true c.index-lines-at.is)

pub overflow_add-at-in-beside : goal.overflow_add-at-in-beside
overflow_add-at-in-beside c = omega (arith, c.ranges.to.fits, line_fits _ _ _ _ c.beside.invariant.0 c.beside-test.true c.index-lines-at.is)

pub beside-preserved : goal.beside-preserved
beside-preserved c = (
  next_lines _ _ _ _ c.beside.invariant.0 c.beside-test.true c.index-lines-at.is,
  passing_more _ _ _ _ _ _ c.beside.invariant.1 c.beside-test.true c.index-lines-at.is (sym c.stops.ensures ∙ c.if-stops.false),
)

pub returns-then-stops : goal.returns-then-stops
returns-then-stops c = seeks_here _ _ _ _ _ _ c.beside.invariant.1 c.beside-test.true c.index-lines-at.is (sym c.stops.ensures ∙ c.if-stops.true)

pub returns : goal.returns
returns c = seeks_end _ _ _ _ _ c.beside.invariant.1 c.beside-test.false
