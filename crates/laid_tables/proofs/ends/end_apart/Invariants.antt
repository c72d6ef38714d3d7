use Rattle.std.proofs.Common.{◌≡◌, length}
use Rattle.laid_tables.specs.Lines.{rows_end_apart}
use Rattle.laid_tables.proofs.ends.end_apart.Given as goal

abbrev pub invariant-numbers : goal.invariant-numbers
invariant-numbers l = rows_end_apart l.table l.rest ≡ rows_end_apart l.table l.numbers

abbrev pub decreases-numbers : goal.decreases-numbers
decreases-numbers l = length l.rest
