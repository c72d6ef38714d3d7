use Rattle.std.proofs.Common.{◌≡◌, length, find}
use Rattle.invoice_data.specs.Parts.{parts}
use Rattle.invoice_data.specs.Members.{is_scheme}
use Rattle.invoice_data.proofs.schemes.has_scheme.Given as goal

-- what is found in the rest is found in all
abbrev pub invariant-members : goal.invariant-members
invariant-members l = find (is_scheme l.input.bytes) (parts l.rest) ≡ find (is_scheme l.input.bytes) (parts l.items)

abbrev pub decreases-members : goal.decreases-members
decreases-members l = length l.rest
