use Rattle.std.proofs.Common.{◌≡◌, take, false}
use Rattle.std.specs.List.{list_any}
use Rattle.schematron_graph.specs.Back.{is_level}
use Rattle.schematron_graph.proofs.back.level_in.Given as goal

-- none so far is level
abbrev pub invariant-parts : goal.invariant-parts
invariant-parts l = list_any (is_level l.labels l.own) (take l.k l.parts) ≡ false
