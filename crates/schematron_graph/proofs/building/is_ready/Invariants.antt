use Rattle.std.proofs.Common.{◌≡◌, drop}
use Rattle.schematron_graph.specs.Built.{is_ready}
use Rattle.schematron_graph.proofs.building.is_ready.Given as goal

-- the parts so far are ready
abbrev pub invariant-parts : goal.invariant-parts
invariant-parts l = is_ready l.puts (drop l.part-index l.body) ≡ is_ready l.puts l.body
