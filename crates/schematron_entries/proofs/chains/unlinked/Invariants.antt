use Rattle.std.proofs.Common.{◌≡◌, length}
use Rattle.schematron_entries.proofs.chains.unlinked.Given as goal

abbrev pub invariant-places : goal.invariant-places
invariant-places l = length l.next.items ≡ l._at
