use Rattle.std.proofs.Common.{length}
use Rattle.inv_decimal.proofs.DigitLists.{HasDigits}
use Rattle.inv_decimal.proofs.printing.write_last_digits.Given as goal

abbrev pub invariant-loop-i : goal.invariant-loop-i
invariant-loop-i l = HasDigits l.out l.i (length l.initial.out) l.value l.rest
