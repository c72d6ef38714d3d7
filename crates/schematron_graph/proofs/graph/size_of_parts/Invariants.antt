use Rattle.std.proofs.Common.{◌≡◌, take}
use Rattle.std.specs.List.{flat_map}
use Rattle.schematron_graph.specs.Rules.{things_of}
use Rattle.schematron_graph.specs.Counts.{count_of}
use Rattle.schematron_graph.specs.Ranked.{found, things_behind}
use Rattle.schematron_graph.specs.Built.{built_body}
use Rattle.schematron_graph.proofs.graph.size_of_parts.Given as goal

-- the parts so far are counted
abbrev pub invariant-parts : goal.invariant-parts
invariant-parts l = l.size ≡ count_of (flat_map (things_of (found (things_behind l.ranked))) (built_body l.puts (take l.part-index l.parts)))
