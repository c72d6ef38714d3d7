use Rattle.std.proofs.Common.{◌≡◌, ◌≤◌, ◌*◌}
use Rattle.trial_invoice.specs.Amounts.{sum_of_nets}
use Rattle.trial_invoice.proofs.amounts.sum_of_nets.Given as goal

-- what the lines so far come to
abbrev pub invariant-lines : goal.invariant-lines
invariant-lines l = record {
  value : l.sum ≡ sum_of_nets l.behind;
  small : l.sum ≤ 9000 * l.behind;
}
