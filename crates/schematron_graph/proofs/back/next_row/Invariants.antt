use Rattle.std.proofs.Common.{◌≡◌, take}
use Rattle.schematron_graph.specs.Rules.{bodies_of}
use Rattle.schematron_graph.specs.Back.{next_row}
use Rattle.schematron_graph.proofs.back.next_row.Given as goal

-- the rules so far
abbrev pub invariant-rules : goal.invariant-rules
invariant-rules l = l.next.items ≡ next_row l.row l.goal (bodies_of (take l.body-index l.rules))
