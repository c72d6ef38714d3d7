use Rattle.inv_decimal.proofs.DayBack.{plain_back, dashed_back}
use Rattle.inv_decimal.proofs.laws.printed_days_are_read.Goals as goal

pub returns : goal.returns
returns c = record { plain = plain_back; dashed = dashed_back }
