use Rattle.inv_decimal.proofs.NumberLaws.{quotient_fits, remainder_below, remainder_sign}
use Rattle.inv_decimal.proofs.laws.remainders_fit_quotients.Goals as goal

pub returns : goal.returns
returns c = record { whole = quotient_fits; small = remainder_below; sign = remainder_sign }
