use Rattle.std.proofs.Common.{◌≡◌, ℕ, ◌≤◌, Bool, List, drop, length}
use Rattle.xpath_tokens.specs.Scanning.{pending, MarksFrom}
use Rattle.xpath_tokens.proofs.comments.unclosed_comments.Given as goal

pub record Known (text : List ℕ) (flags : List Bool) (left_over place : ℕ) : Type 0 where
  pub within : place ≤ length text
  pub left : left_over ≡ pending 0 (drop place text)
  pub marks : MarksFrom place text flags

abbrev pub invariant-places : goal.invariant-places
invariant-places l = Known l.text l.unclosed.items l.pending l.place

abbrev pub decreases-places : goal.decreases-places
decreases-places l = l.place
