use Rattle.std.proofs.Common.{◌≡◌, ◌++◌, List, ℕ, length}
use Rattle.std.specs.List.{flat_map}
use Rattle.inv_base.specs.Printing.{Prints}
use Rattle.page_values.specs.Seen.{squeezed}
use Rattle.page_values.proofs.escapes.put_bare_bytes.Given as goal

abbrev pub invariant-runs : goal.invariant-runs
invariant-runs g l = (done : List ℕ) × (done ++ flat_map squeezed l.rest ≡ flat_map squeezed l.bytes)
    × Prints done l.initial.printer.failed l.printer.failed (g.K.Sink.view l.initial.out) (g.K.Sink.view l.out)

abbrev pub decreases-runs : goal.decreases-runs
decreases-runs g l = length l.rest
