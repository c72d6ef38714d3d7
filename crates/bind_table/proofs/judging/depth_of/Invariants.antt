use Rattle.std.proofs.Common.{◌≡◌, ◌+◌, drop}
use Rattle.bind_table.specs.WellFormed.{depth_of}
use Rattle.bind_table.proofs.judging.depth_of.Given as goal

abbrev pub invariant-steps : goal.invariant-steps
invariant-steps l = (l.depth ≡ l.step-index) × (l.depth + depth_of l.group (drop l.step-index l.path) ≡ depth_of l.group l.path)
