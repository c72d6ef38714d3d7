use Rattle.std.proofs.Common.{◌≡◌, ◌++◌}
use Rattle.std.specs.Prelude.{flat_map}
use Rattle.inv_totals.specs.Adding.{Tallies}
use Rattle.inv_totals.specs.Totals.{in_breakdown, numbers_from}
use Rattle.inv_totals.proofs.comparing.compare_breakdowns.Given as goal

-- what was found of the breakdowns so far
abbrev pub invariant-breakdowns : goal.invariant-breakdowns
invariant-breakdowns l = record {
  tally : Tallies l.i l.i l.tally;
  found : l.found ≡ l.initial.found ++ flat_map (in_breakdown l.i) (numbers_from 1 l.before);
}
