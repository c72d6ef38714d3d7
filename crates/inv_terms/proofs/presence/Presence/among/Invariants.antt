use Rattle.std.proofs.Common.{take}
use Rattle.std.specs.Prelude.{map}
use Rattle.inv_terms.proofs.PresenceLemmas.{AreNoted}
use Rattle.inv_terms.proofs.presence.Presence.among.Given as goal

abbrev pub invariant-seats : goal.invariant-seats
invariant-seats g l = AreNoted l.numbers (map g.T.Seated.seat_of (take l.item-index l.seats))
