use Rattle.inv_decimal.proofs.InRange.{decimal_in_range, scaled_in_range, plain_in_range, dashed_in_range}
use Rattle.inv_decimal.proofs.laws.readings_are_in_range.Goals as goal

pub returns : goal.returns
returns c = record {
  decimal = decimal_in_range;
  scaled = scaled_in_range;
  plain = plain_in_range;
  dashed = dashed_in_range;
}
