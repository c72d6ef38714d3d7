use Rattle.std.proofs.Common.{take}
use Rattle.std.specs.List.{flat_map}
use Rattle.schematron_graph.specs.Rules.{bodies_of, things_of}
use Rattle.schematron_graph.specs.Ranked.{found, things_behind}
use Rattle.schematron_graph.specs.Once.{Alike, AreWritten}
use Rattle.schematron_graph.proofs.once.push_parts.Given as goal

-- the parts so far are written, as far as firsts go
abbrev pub invariant-parts : goal.invariant-parts
invariant-parts l = record {
  gone : AreWritten (found (things_behind (bodies_of l.bodies))) l.gone.keys l.things.items;
  alike : Alike l.things.items (flat_map (things_of (found (things_behind (bodies_of l.bodies)))) (take l.part-index l.body));
}
