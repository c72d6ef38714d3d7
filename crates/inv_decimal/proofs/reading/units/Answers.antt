use Rattle.std.proofs.Common.{◌∙◌}
use Rattle.inv_decimal.proofs.NumberParts.{parts_read, parts_bound, no_parts, long_fraction, bad_whole, bad_fraction}
use Rattle.inv_decimal.proofs.reading.units.Goals as goal

pub returns-then-whole-fraction-eq0-clause-value : goal.returns-then-whole-fraction-eq0-clause-value
returns-then-whole-fraction-eq0-clause-value c =
    no_parts _ _ c.if-whole-fraction-eq0.true

pub returns-then-fraction-gt18-clause-value : goal.returns-then-fraction-gt18-clause-value
returns-then-fraction-gt18-clause-value c = long_fraction _ _ c.if-fraction-gt18.true

pub returns-in_err-ones-clause-value : goal.returns-in_err-ones-clause-value
returns-in_err-ones-clause-value c =
    c.from_residual.ensures ∙ bad_whole _ _ c.in_err-ones.ensures

pub returns-in_err-rest-clause-value : goal.returns-in_err-rest-clause-value
returns-in_err-rest-clause-value c =
    c.from_residual-in_err-rest.ensures ∙ bad_fraction _ _ c.if-fraction-gt18.false c.in_err-rest.ensures

pub returns-clause-value : goal.returns-clause-value
returns-clause-value c =
    parts_read _ _ _ _ _ _ _ c.if-whole-fraction-eq0.false c.if-fraction-gt18.false c.in_ok-ones.ensures c.in_ok-rest.ensures c.from.ensures c.from-2.ensures
    c.pow-unused.ensures

pub returns-clause-bound : goal.returns-clause-bound
returns-clause-bound c =
    parts_bound c.args.whole.now c.args.fraction.now _ _ _ _ _ c.if-fraction-gt18.false c.in_ok-ones.ensures c.in_ok-rest.ensures c.from.ensures
    c.from-2.ensures c.pow-unused.ensures
