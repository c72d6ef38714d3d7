use Rattle.std.proofs.Common.{◌≡◌, List, ℕ, ◌++◌, length}
use Rattle.std.specs.List.{flat_map}
use Rattle.inv_base.specs.Printing.{Prints}
use Rattle.inv_base.specs.Text.{quoted_character}
use Rattle.inv_base.proofs.printing.Printer.put_escaped.Given as goal

-- what was printed, and the rest, are all
abbrev pub invariant-runs : goal.invariant-runs
invariant-runs g l = (done : List ℕ) × (done ++ flat_map quoted_character l.rest ≡ flat_map quoted_character l.bytes)
    × Prints done l.initial.self.failed l.self.failed (g.K.Sink.view l.initial.out) (g.K.Sink.view l.out)

abbrev pub decreases-runs : goal.decreases-runs
decreases-runs g l = length l.rest
