use Rattle.inv_decimal.proofs.ReadBack.{decimal_back_whole, scaled_back}
use Rattle.inv_decimal.proofs.laws.printed_numbers_are_read.Goals as goal

pub returns : goal.returns
returns c = record { decimal = decimal_back_whole; scaled = scaled_back }
