use Rattle.std.proofs.Common.{◌-◌}
use Rattle.xml_tokens.proofs.TagEndLemmas.{Searching}
use Rattle.xml_tokens.proofs.scanning.tag_end.Given as goal

abbrev pub invariant-places : goal.invariant-places
invariant-places l = Searching l.bytes 262143 l.place l.quote

abbrev pub decreases-places : goal.decreases-places
decreases-places l = l.end - l.place
