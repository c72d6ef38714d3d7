use Rattle.std.proofs.Common.{◌≡◌, drop}
use Rattle.schematron_graph.specs.Back.{any_leads}
use Rattle.schematron_graph.proofs.back.any_leads.Given as goal

-- none so far leads there
abbrev pub invariant-parts : goal.invariant-parts
invariant-parts l = any_leads l.row l.goal (drop l.part-index l.parts) ≡ any_leads l.row l.goal l.parts
