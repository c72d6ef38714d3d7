use Rattle.std.proofs.Common.{◌≡◌, List, ℕ, ◌++◌, length}
use Rattle.std.specs.List.{flat_map}
use Rattle.inv_base.specs.Printing.{Prints}
use Rattle.json_text.specs.Layout.{character_text}
use Rattle.json_text.proofs.strings.put_escaped.Given as goal

-- what was printed, and the rest, are all
abbrev pub invariant-runs : goal.invariant-runs
invariant-runs g l = (done : List ℕ) × (done ++ flat_map character_text l.rest ≡ flat_map character_text l.bytes)
    × Prints done l.initial.printer.failed l.printer.failed (g.K.Sink.view l.initial.out) (g.K.Sink.view l.out)

abbrev pub decreases-runs : goal.decreases-runs
decreases-runs g l = length l.rest
