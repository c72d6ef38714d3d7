use Rattle.std.proofs.Common.{◌<◌, unsigned_abs, arith}
use Rattle.std.proofs.lemmas.Int.{ints}
use Rattle.inv_decimal.proofs.Results.{whole_quotient_some, code_quotient}
use Rattle.inv_decimal.proofs.decimal.Dec.idiv.Goals as goal

pub returns-then-whole-lt-UNIT : goal.returns-then-whole-lt-UNIT
returns-then-whole-lt-UNIT c =
    let apart : 0 < unsigned_abs c.other.inside.units = omega (arith, ints) in
    rw (← c.self.view_is, ← c.other.view_is)
    (whole_quotient_some _ _ _ apart (code_quotient c.self.inside.units c.other.inside.units c.self.invariant c.other.invariant) c.if-whole.true
    c.if-whole-lt-UNIT.true)
