use Rattle.std.proofs.Common.{◌≡◌, drop}
use Rattle.std.specs.List.{list_any}
use Rattle.bind_walk.specs.Lines.{has_built}
use Rattle.bind_walk.proofs.lines.is_built.Given as goal

abbrev pub invariant-lines : goal.invariant-lines
invariant-lines l = list_any (has_built l.rows) (drop l.inner-index l.inside) ≡ list_any (has_built l.rows) l.inside
