use Rattle.std.proofs.Common.{◌≡◌, length}
use Rattle.invoice_tests.proofs.laid_cases.put_all.Given as goal

abbrev pub invariant-rows : goal.invariant-rows
invariant-rows l = length l.table ≡ l.row-index
