use Rattle.std.proofs.Common.{◌≡◌, drop}
use Rattle.std.specs.List.{list_any}
use Rattle.bind_walk.specs.Lines.{is_built_at}
use Rattle.bind_walk.proofs.lines.has_built.Given as goal

abbrev pub invariant-numbers : goal.invariant-numbers
invariant-numbers l = list_any (is_built_at l.rows) (drop l.number-index l.numbers) ≡ list_any (is_built_at l.rows) l.numbers
