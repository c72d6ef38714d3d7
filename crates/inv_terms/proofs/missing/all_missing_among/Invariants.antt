use Rattle.std.proofs.Common.{◌≡◌, ◌++◌, ◌+◌, drop}
use Rattle.inv_terms.specs.Lacking as spec
use Rattle.inv_terms.proofs.missing.all_missing_among.Given as goal

abbrev pub invariant-rows : goal.invariant-rows
invariant-rows g l =
    l.violations.items ++ spec.all_missing_from l.standing l.context (l.first + l.k) (drop l.k l.rows) ≡ spec.all_missing_from
    l.standing l.context l.first l.rows
