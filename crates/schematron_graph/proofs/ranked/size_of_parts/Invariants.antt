use Rattle.std.proofs.Common.{◌≡◌, List, map, take}
use Rattle.std.specs.List.{flat_map}
use Rattle.schematron_graph.specs.declared.part.Thing.{Thing}
use Rattle.schematron_graph.specs.Rules.{things_of}
use Rattle.schematron_graph.specs.Counts.{count_of}
use Rattle.schematron_graph.specs.Ranked.{found}
use Rattle.schematron_graph.proofs.ranked.size_of_parts.Given as goal

-- the parts so far are counted
abbrev pub invariant-parts : goal.invariant-parts
invariant-parts l =
    (things : List (List Thing)) → l.sizes ≡ map count_of things → l.size ≡ count_of (flat_map (things_of (found things)) (take l.part-index l.parts))
