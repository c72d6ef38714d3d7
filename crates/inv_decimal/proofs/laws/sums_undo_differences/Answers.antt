use Rattle.inv_decimal.proofs.NumberLaws.{sum_back, difference_back}
use Rattle.inv_decimal.proofs.laws.sums_undo_differences.Goals as goal

pub returns : goal.returns
returns c = record { sum = sum_back; difference = difference_back }
