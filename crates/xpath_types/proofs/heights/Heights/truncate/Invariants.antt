use Rattle.std.proofs.Common.{◌≡◌, ◌-◌, length, drop}
use Rattle.xpath_types.proofs.heights.Heights.truncate.Given as goal

abbrev pub invariant-inner : goal.invariant-inner
invariant-inner l = drop (length l.self - l.height) l.self ≡ drop (length l.initial.self - l.height) l.initial.self

abbrev pub decreases-inner : goal.decreases-inner
decreases-inner l = length l.self
