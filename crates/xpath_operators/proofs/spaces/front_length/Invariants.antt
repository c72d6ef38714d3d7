use Rattle.std.proofs.Common.{◌≡◌, ◌≤◌, true, drop, length}
use Rattle.std.specs.List.{list_all}
use Rattle.inv_base.specs.Characters.{is_white_space}
use Rattle.xpath_operators.proofs.spaces.front_length.Given as goal

abbrev pub invariant-bytes : goal.invariant-bytes
invariant-bytes l = (l.n ≤ length l.bytes) × (list_all is_white_space (drop l.n l.bytes) ≡ true)

abbrev pub decreases-bytes : goal.decreases-bytes
decreases-bytes l = l.n
