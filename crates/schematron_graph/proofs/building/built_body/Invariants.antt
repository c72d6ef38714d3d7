use Rattle.std.proofs.Common.{◌≡◌, take}
use Rattle.schematron_graph.specs.Built.{built_body}
use Rattle.schematron_graph.proofs.building.built_body.Given as goal

-- the parts so far
abbrev pub invariant-parts : goal.invariant-parts
invariant-parts l = l.parts.items ≡ built_body l.puts (take l.part-index l.body)
