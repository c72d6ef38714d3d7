use Rattle.inv_decimal.proofs.DayBack.{day_cmp_total, same_day}
use Rattle.inv_decimal.proofs.laws.days_are_ordered.Goals as goal

pub returns : goal.returns
returns c = record { total = day_cmp_total; equal = same_day }
