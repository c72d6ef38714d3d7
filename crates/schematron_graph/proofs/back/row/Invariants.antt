use Rattle.std.proofs.Common.{◌≡◌}
use Rattle.schematron_graph.specs.Rules.{bodies_of}
use Rattle.schematron_graph.specs.Back.{row_of}
use Rattle.schematron_graph.proofs.back.row.Given as goal

-- the row of that depth
abbrev pub invariant-depths : goal.invariant-depths
invariant-depths l = l.row.items ≡ row_of l._depth (bodies_of l.rules) l.goal
