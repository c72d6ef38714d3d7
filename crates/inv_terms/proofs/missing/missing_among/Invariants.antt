use Rattle.std.proofs.Common.{◌≡◌, drop}
use Rattle.inv_terms.specs.Lacking as spec
use Rattle.inv_terms.proofs.missing.missing_among.Given as goal

abbrev pub invariant-rows : goal.invariant-rows
invariant-rows g l =
    spec.missing_from l.standing l.context l.k (drop l.k l.rows) ≡ spec.missing_from l.standing l.context 0 l.rows
