use Rattle.inv_decimal.proofs.Results.{product_some, product_none}
use Rattle.inv_decimal.proofs.decimal.Dec.mul.Goals as goal

pub returns-in-Some : goal.returns-in-Some
returns-in-Some c =
    product_some _ _ _ _ _ _ _ _ c.magnitude.ensures.value c.magnitude-2.ensures.value c.is_negative.ensures c.is_negative-2.ensures c.in-Some.ensures
    c.from_parts.ensures

pub returns-in-None : goal.returns-in-None
returns-in-None c =
    product_none _ _ _ _ c.magnitude.ensures.value c.magnitude-2.ensures.value c.in-None.ensures
