use Rattle.std.proofs.Common.{◌-◌, length}
use Rattle.xml_tokens.proofs.StringLemmas.{Searching}
use Rattle.xml_tokens.proofs.scanning.place_after.Given as goal

abbrev pub invariant-places : goal.invariant-places
invariant-places l = Searching l.string l.bytes l.place

abbrev pub decreases-places : goal.decreases-places
decreases-places l = length l.bytes - l.place
