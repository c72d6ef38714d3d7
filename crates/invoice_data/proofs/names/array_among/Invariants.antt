use Rattle.std.proofs.Common.{◌≡◌, drop, find, bytes_eq}
use Rattle.invoice_json.specs.InvoiceJson.{array_name}
use Rattle.invoice_data.proofs.names.array_among.Given as goal

-- what is found in the rest is found in all
abbrev pub invariant-arrays : goal.invariant-arrays
invariant-arrays l =
    find (λ group. bytes_eq (array_name group) l.name) (drop l.group-index l.arrays) ≡ find (λ group. bytes_eq (array_name group) l.name) l.arrays
