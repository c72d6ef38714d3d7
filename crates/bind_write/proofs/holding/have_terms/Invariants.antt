use Rattle.std.proofs.Common.{◌≡◌, drop}
use Rattle.std.specs.List.{list_any}
use Rattle.bind_write.specs.Holding.{line_has_terms}
use Rattle.bind_write.proofs.holding.have_terms.Given as goal

abbrev pub invariant-lines : goal.invariant-lines
invariant-lines l = list_any (line_has_terms l.rows) (drop l.line-index l.lines) ≡ list_any (line_has_terms l.rows) l.lines
