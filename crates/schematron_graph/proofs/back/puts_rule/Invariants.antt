use Rattle.std.proofs.Common.{◌≡◌, drop}
use Rattle.schematron_graph.specs.Back.{puts_rule}
use Rattle.schematron_graph.proofs.back.puts_rule.Given as goal

-- none so far puts it
abbrev pub invariant-parts : goal.invariant-parts
invariant-parts l = puts_rule l.rule (drop l.part-index l.parts) ≡ puts_rule l.rule l.parts
