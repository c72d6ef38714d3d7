use Rattle.inv_decimal.specs.WrittenNumber.{decimal_text, scaled_text}
use Rattle.inv_decimal.specs.WrittenDay.{plain_day_text, dashed_day_text}
use Rattle.inv_decimal.proofs.Ascii.{IsAscii-read_scaled, IsAscii-read_decimal}
use Rattle.inv_decimal.proofs.AsciiDay.{IsAscii-plain, IsAscii-dashed}
use Rattle.inv_decimal.proofs.DayBack.{plain_back, dashed_back}
use Rattle.inv_decimal.proofs.ReadBack.{decimal_back_whole, scaled_back}
use Rattle.inv_decimal.proofs.laws.printed_texts_are_ascii.Goals as goal

pub returns : goal.returns
returns c = record {
  decimal = λ z h. IsAscii-read_decimal (decimal_text z) z (decimal_back_whole z h);
  scaled = λ s h. IsAscii-read_scaled (scaled_text s) s (scaled_back s h);
  plain = λ d h. IsAscii-plain (plain_day_text d) d (plain_back d h);
  dashed = λ d h. IsAscii-dashed (dashed_day_text d) d (dashed_back d h);
}
