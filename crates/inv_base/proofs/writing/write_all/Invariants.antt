use Rattle.std.proofs.Common.{◌≡◌, List, ℕ, ◌++◌, length}
use Rattle.inv_base.specs.Writing.{WritesAll}
use Rattle.inv_base.proofs.writing.write_all.Given as goal

-- what was taken and what is left are the piece
abbrev pub invariant-pieces : goal.invariant-pieces
invariant-pieces g l = (taken : List ℕ) × (taken ++ l.rest ≡ l.piece) × WritesAll taken (g.K.Sink.view l.initial.out) (g.K.Sink.view l.out)

abbrev pub decreases-pieces : goal.decreases-pieces
decreases-pieces g l = length l.rest
