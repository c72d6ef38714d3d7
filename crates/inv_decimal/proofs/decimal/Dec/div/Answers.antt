use Rattle.std.proofs.Common.{◌<◌, arith}
use Rattle.std.proofs.lemmas.Int.{ints}
use Rattle.inv_decimal.proofs.Results.{quotient_some, quotient_none}
use Rattle.inv_decimal.proofs.decimal.Dec.div.Goals as goal

pub returns-in-Some : goal.returns-in-Some
returns-in-Some c =
    let apart : 0 < c.magnitude-2.result = omega (arith, ints) in
    quotient_some _ _ _ _ _ _ _ _ c.magnitude.ensures.value c.magnitude-2.ensures.value c.is_negative.ensures c.is_negative-2.ensures apart c.in-Some.ensures
    c.from_parts.ensures

pub returns-in-None : goal.returns-in-None
returns-in-None c =
    let apart : 0 < c.magnitude-2.result = omega (arith, ints) in
    quotient_none _ _ _ _ c.magnitude.ensures.value c.magnitude-2.ensures.value apart c.in-None.ensures
