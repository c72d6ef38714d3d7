use Rattle.std.proofs.Common.{◌≡◌, take}
use Rattle.schematron_graph.specs.Rules.{bodies_of}
use Rattle.schematron_graph.specs.Back.{no_row}
use Rattle.schematron_graph.proofs.back.first_row.Given as goal

-- the rules so far
abbrev pub invariant-rules : goal.invariant-rules
invariant-rules l = l.row.items ≡ no_row (bodies_of (take l._body-index l.rules))
