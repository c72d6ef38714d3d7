use Rattle.std.proofs.Common.{length}
use Rattle.bind_table.proofs.growing.+extend.Given as goal

abbrev pub decreases-extend : goal.decreases-extend
decreases-extend l = length l.path.now
