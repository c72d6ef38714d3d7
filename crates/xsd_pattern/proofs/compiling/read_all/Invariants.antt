use Rattle.std.proofs.Common.{◌≡◌, drop}
use Rattle.xsd_pattern.specs.Machine.{run}
use Rattle.xsd_pattern.specs.Parts.{parts}
use Rattle.xsd_pattern.specs.States.{placed_from, seen}
use Rattle.xsd_pattern.proofs.compiling.read_all.Given as goal

abbrev pub invariant-tokens : goal.invariant-tokens
invariant-tokens l = run parts (placed_from l.place (drop l.place l.tokens)) (seen l.state) ≡ run parts (placed_from 0 l.tokens) (seen l.initial.state)
