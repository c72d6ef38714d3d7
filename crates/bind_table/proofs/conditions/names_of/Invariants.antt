use Rattle.std.proofs.Common.{◌≡◌, take, map}
use Rattle.bind_table.specs.Items.{name_of}
use Rattle.bind_table.proofs.conditions.names_of.Given as goal

abbrev pub invariant-tags : goal.invariant-tags
invariant-tags l = l.names ≡ map name_of (take l.tag-index l.tags)
