use Rattle.std.proofs.Common.{◌≡◌, drop}
use Rattle.std.specs.List.{list_any}
use Rattle.invoice_data.specs.Values.{is_exponent}
use Rattle.invoice_data.proofs.values.has_exponent.Given as goal

-- whether the rest has one is whether all has one
abbrev pub invariant-bytes : goal.invariant-bytes
invariant-bytes l = list_any is_exponent (drop l.byte-index l.spelling) ≡ list_any is_exponent l.spelling
