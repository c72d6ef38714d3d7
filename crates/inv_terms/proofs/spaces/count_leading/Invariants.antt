use Rattle.std.proofs.Common.{length, ◌-◌, ◌≡◌, ℕ, ◌<◌, ◌≤◌, get_or, true}
use Rattle.inv_base.specs.Characters.{is_white_space}
use Rattle.inv_terms.proofs.spaces.count_leading.Given as goal

abbrev pub invariant-bytes : goal.invariant-bytes
invariant-bytes l = record { bound : l.count ≤ length l.bytes; below : (i : ℕ) → i < l.count → is_white_space (get_or l.bytes i 0) ≡ true }

abbrev pub decreases-bytes : goal.decreases-bytes
decreases-bytes l = length l.bytes - l.count
