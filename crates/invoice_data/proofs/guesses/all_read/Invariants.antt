use Rattle.std.proofs.Common.{◌≡◌, fold, drop}
use Rattle.invoice_data.specs.Guesses.{guess_read, no_guess}
use Rattle.invoice_data.proofs.guesses.all_read.Given as goal

-- what the rest makes of the guess so far is what the name makes of none
abbrev pub invariant-bytes : goal.invariant-bytes
invariant-bytes l = fold guess_read l.guess (drop l.byte-index l.name) ≡ fold guess_read no_guess l.name
