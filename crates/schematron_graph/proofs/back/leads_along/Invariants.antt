use Rattle.std.proofs.Common.{◌≡◌, drop}
use Rattle.schematron_graph.specs.Rules.{bodies_of}
use Rattle.schematron_graph.specs.Back.{leads_along}
use Rattle.schematron_graph.proofs.back.leads_along.Given as goal

-- the rest leads on from here where all leads from the start
abbrev pub invariant-steps : goal.invariant-steps
invariant-steps l = leads_along (bodies_of l.rules) l.goal l.from (drop l.step-index l.steps) ≡ leads_along (bodies_of l.rules) l.goal l.initial.from l.steps
