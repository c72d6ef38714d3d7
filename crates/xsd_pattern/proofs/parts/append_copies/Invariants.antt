use Rattle.std.proofs.Common.{◌≡◌, ◌++◌}
use Rattle.xsd_pattern.specs.Parts.{copies}
use Rattle.xsd_pattern.proofs.parts.append_copies.Given as goal

abbrev pub invariant-copies : goal.invariant-copies
invariant-copies l = l.steps ≡ l.initial.steps ++ copies l.k l.block
