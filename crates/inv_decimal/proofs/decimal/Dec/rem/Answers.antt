use Rattle.std.proofs.Common.{◌<◌, unsigned_abs, arith}
use Rattle.std.proofs.lemmas.Int.{ints}
use Rattle.inv_decimal.proofs.Results.{remainder_some, code_remainder}
use Rattle.inv_decimal.proofs.decimal.Dec.rem.Goals as goal

pub returns : goal.returns
returns c =
    let apart : 0 < unsigned_abs c.other.inside.units = omega (arith, ints) in
    rw (← c.self.view_is, ← c.other.view_is)
    (remainder_some _ _ _ apart (code_remainder c.self.inside.units c.other.inside.units c.self.invariant c.other.invariant))
