use Rattle.std.proofs.Common.{◌≡◌, ◌++◌, ℕ, List, length}
use Rattle.inv_base.specs.Writing.{WritesAll}
use Rattle.xml_write.specs.Escapes.{escaped}
use Rattle.xml_write.proofs.escape.put_escaped.Given as goal

-- what was written and what the rest stands for are the whole
abbrev pub invariant-runs : goal.invariant-runs
invariant-runs g l =
    (written : List ℕ) × (written ++ escaped l.within l.rest ≡ escaped l.within l.fn.text) ×
    WritesAll written (g.K.Sink.view l.initial.out) (g.K.Sink.view l.out)

abbrev pub decreases-runs : goal.decreases-runs
decreases-runs g l = length l.rest
