use Rattle.std.proofs.Common.{◌++◌}
use Rattle.schematron_graph.specs.Rules.{bodies_of}
use Rattle.schematron_graph.specs.Ranked.{found, things_behind}
use Rattle.schematron_graph.proofs.WalkLemmas.{turns_left}
use Rattle.schematron_graph.proofs.OnceLemmas.{Walks}
use Rattle.schematron_graph.proofs.once.push_once.Given as goal

-- what is written, and what is left, have the firsts of all
abbrev pub invariant-budget : goal.invariant-budget
invariant-budget l =
    Walks (bodies_of l.fn.bodies) l.gone.keys (l.initial.out.items ++ found (things_behind (bodies_of l.fn.bodies)) l.fn.rank) l.out.items l.place l.above.items

abbrev pub decreases-budget : goal.decreases-budget
decreases-budget l = turns_left (bodies_of l.fn.bodies) l.place l.above.items
