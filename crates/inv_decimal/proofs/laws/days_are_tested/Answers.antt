use Rattle.inv_decimal.proofs.DayBack.{is_day-from}
use Rattle.inv_decimal.proofs.InRange.{IsDay-from_is_day}
use Rattle.inv_decimal.proofs.laws.days_are_tested.Goals as goal

pub returns : goal.returns
returns c = λ d. (IsDay-from_is_day d, is_day-from d)
