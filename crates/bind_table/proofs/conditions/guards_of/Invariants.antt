use Rattle.std.proofs.Common.{◌≡◌, take, map}
use Rattle.bind_table.specs.Items.{guard_of}
use Rattle.bind_table.proofs.conditions.guards_of.Given as goal

abbrev pub invariant-conditions : goal.invariant-conditions
invariant-conditions l = l.guards ≡ map guard_of (take l.condition-index l.conditions)
