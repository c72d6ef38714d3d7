use Rattle.std.proofs.Common.{◌≡◌, ◌≤◌, drop}
use Rattle.invoice_cli.specs.Job.{digits_value}
use Rattle.invoice_cli.proofs.words.digits_value.Given as goal

-- the number of the digits so far, with the others behind it
abbrev pub invariant-digits : goal.invariant-digits
invariant-digits l = record {
  few : l.value ≤ l.most;
  is : digits_value l.value (drop l.digit-index l.digits) ≡ digits_value 0 l.digits;
}
