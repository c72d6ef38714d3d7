use Rattle.inv_decimal.proofs.Results.{hundredth_some, hundredth_none}
use Rattle.inv_decimal.proofs.decimal.Dec.to_hundredth.Goals as goal

pub returns-in-Some : goal.returns-in-Some
returns-in-Some c =
    hundredth_some _ _ _ _ _ c.magnitude.ensures.value c.is_negative.ensures c.in-Some.ensures c.from_parts.ensures

pub returns-in-None : goal.returns-in-None
returns-in-None c = hundredth_none _ _ c.magnitude.ensures.value c.in-None.ensures
