use Rattle.std.proofs.Common.{take}
use Rattle.inv_totals.specs.Adding.{Tallies}
use Rattle.inv_totals.proofs.adding.add_up.Given as goal

-- the tally of the entries so far
abbrev pub invariant-entries : goal.invariant-entries
invariant-entries l = Tallies l.i (take l.e-index l.e-items) l.tally
