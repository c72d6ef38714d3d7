use Rattle.std.proofs.Common.{◌+◌, ◌-◌, ◌*◌, replicate, arith}
use Rattle.xpath_tokens.proofs.NumberLaws.{passed, value-zeros}
use Rattle.xpath_tokens.proofs.numbers.with_zeros.Goals as goal

pub returns-then-filled-ge-LIMIT-clause-exact : goal.returns-then-filled-ge-LIMIT-clause-exact
returns-then-filled-ge-LIMIT-clause-exact c =
    passed (c.zeros.filled * 10) _ (replicate (c.args.zeros - (c.zeros.i + 1)) 48)
    (value-zeros c.zeros.filled (c.args.zeros - (c.zeros.i + 1)) (c.args.zeros - c.zeros.i) _ (omega arith) c.zeros.invariant.same) (omega arith)

pub zeros-preserved : goal.zeros-preserved
zeros-preserved c = record {
  small = omega arith;
  same = value-zeros c.zeros.filled (c.args.zeros - (c.zeros.i + 1)) (c.args.zeros - c.zeros.i) _
      (omega arith) c.zeros.invariant.same;
}
