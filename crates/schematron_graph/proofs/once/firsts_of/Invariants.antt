use Rattle.std.proofs.Common.{◌≡◌, ◌++◌, drop}
use Rattle.schematron_graph.specs.Firsts.{firsts, firsts_behind}
use Rattle.schematron_graph.proofs.once.firsts_of.Given as goal

-- what is found, and what is left of the others, are the firsts of all
abbrev pub invariant-things : goal.invariant-things
invariant-things l = l.found.items ++ firsts_behind l.told.keys (drop l.thing-index l.things) ≡ firsts l.things
