use Rattle.std.proofs.Common.{◌≡◌, drop}
use Rattle.schematron_graph.specs.Back.{all_fall}
use Rattle.schematron_graph.proofs.back.all_fall.Given as goal

-- the parts so far pass
abbrev pub invariant-parts : goal.invariant-parts
invariant-parts l = all_fall l.labels l.own (drop l.part-index l.parts) ≡ all_fall l.labels l.own l.parts
