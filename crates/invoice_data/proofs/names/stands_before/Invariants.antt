use Rattle.std.proofs.Common.{◌≡◌, drop}
use Rattle.std.specs.List.{list_any}
use Rattle.invoice_data.specs.Names.{same_member}
use Rattle.invoice_data.proofs.names.stands_before.Given as goal

-- whether it is among the rest is whether it is among all
abbrev pub invariant-seen : goal.invariant-seen
invariant-seen l = list_any (same_member l.m) (drop l.other-index l.seen) ≡ list_any (same_member l.m) l.seen
