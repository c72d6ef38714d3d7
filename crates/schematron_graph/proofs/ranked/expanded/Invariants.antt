use Rattle.std.proofs.Common.{◌≡◌, take}
use Rattle.std.specs.List.{flat_map}
use Rattle.schematron_graph.specs.Rules.{bodies_of, things_of}
use Rattle.schematron_graph.specs.Ranked.{found, things_behind}
use Rattle.schematron_graph.proofs.ranked.expanded.Given as goal

-- the parts so far are written
abbrev pub invariant-parts : goal.invariant-parts
invariant-parts l = l.things.items ≡ flat_map (things_of (found (things_behind (bodies_of l.bodies)))) (take l.part-index l.body)
