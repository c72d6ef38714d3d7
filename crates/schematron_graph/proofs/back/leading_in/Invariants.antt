use Rattle.std.proofs.Common.{◌≡◌, take, false}
use Rattle.std.specs.List.{list_any}
use Rattle.schematron_graph.specs.Rules.{part_leads}
use Rattle.schematron_graph.specs.Back.{leads_in}
use Rattle.schematron_graph.proofs.back.leading_in.Given as goal

-- none so far leads there
abbrev pub invariant-parts : goal.invariant-parts
invariant-parts l = list_any (part_leads (leads_in l.row) l.goal) (take l.k l.parts) ≡ false
