use Rattle.std.proofs.Common.{◌≡◌, ◌++◌}
use Rattle.schematron_graph.specs.Rules.{bodies_of}
use Rattle.schematron_graph.specs.Ranked.{found, things_behind}
use Rattle.schematron_graph.proofs.WalkLemmas.{things_left, turns_left}
use Rattle.schematron_graph.proofs.walk.push_things.Given as goal

-- what is written, and what is left, are all
abbrev pub invariant-budget : goal.invariant-budget
invariant-budget l =
    l.out.items ++ things_left (bodies_of l.fn.bodies) l.place l.above.items ≡ l.initial.out.items ++ found (things_behind (bodies_of l.fn.bodies)) l.fn.rank

abbrev pub decreases-budget : goal.decreases-budget
decreases-budget l = turns_left (bodies_of l.fn.bodies) l.place l.above.items
