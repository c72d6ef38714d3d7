use Rattle.std.proofs.Common.{◌≡◌, take}
use Rattle.schematron_graph.specs.Rules.{bodies_of}
use Rattle.schematron_entries.specs.Seen.{seen_entries}
use Rattle.schematron_expansion.specs.Bodied as spec
use Rattle.schematron_expansion.proofs.bodies.all_bodies.Given as goal

-- the rules so far
abbrev pub invariant-rules : goal.invariant-rules
invariant-rules l = bodies_of l.found.items ≡ spec.bodies_at (seen_entries l.entries) (take l.node-index l.nodes)
