use Rattle.std.proofs.Common.{◌≡◌, replicate, None}
use Rattle.xpath_parts.proofs.slots.Slots.new.Given as goal

abbrev pub invariant-slots : goal.invariant-slots
invariant-slots l = l.kept.items ≡ replicate l._k None
