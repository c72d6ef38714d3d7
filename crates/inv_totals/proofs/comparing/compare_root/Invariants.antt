use Rattle.std.proofs.Common.{◌≡◌, ◌++◌, take}
use Rattle.std.specs.Prelude.{flat_map}
use Rattle.inv_totals.specs.Totals.{at_root_of, root_numbers}
use Rattle.inv_totals.proofs.comparing.compare_root.Given as goal

-- what was found of the totals so far
abbrev pub invariant-numbers : goal.invariant-numbers
invariant-numbers l = l.found ≡ l.initial.found ++ flat_map (at_root_of l.i) (take l.number-index root_numbers)
