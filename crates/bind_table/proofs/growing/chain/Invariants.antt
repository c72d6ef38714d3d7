use Rattle.std.proofs.Common.{◌≡◌, ◌++◌, length}
use Rattle.bind_table.specs.Growing.{chain}
use Rattle.bind_table.proofs.growing.chain.Given as goal

abbrev pub invariant-steps : goal.invariant-steps
invariant-steps l = l.fresh.items ++ chain l.left l.row ≡ chain l.path l.row

abbrev pub decreases-steps : goal.decreases-steps
decreases-steps l = length l.left
