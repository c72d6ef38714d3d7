use Rattle.std.proofs.Common.{◌≡◌, ◌+◌, drop}
use Rattle.xml_tokens.specs.Searches.{shared_front}
use Rattle.xml_tokens.proofs.scanning.shared_front.Given as goal

abbrev pub invariant-places : goal.invariant-places
invariant-places l = shared_front l.string l.bytes ≡ l.i + shared_front (drop l.i l.string) (drop l.i l.bytes)
