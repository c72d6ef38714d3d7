use Rattle.std.proofs.Common.{sym, arith}
use Rattle.trial_invoice.proofs.SumLemmas.{sum-next, sum-none}
use Rattle.trial_invoice.proofs.amounts.sum_of_nets.Goals as goal

pub lines-init : goal.lines-init
lines-init c = record { value = sym sum-none; small = omega arith }

pub lines-preserved : goal.lines-preserved
lines-preserved c = record {
  value = omega (arith, sum-next c.lines.behind, c.net-sum.ensures.value);
  small = omega (arith, c.net-sum.ensures.small);
}
