use Rattle.std.proofs.Common.{sym, ap, ◌∙◌}
use Rattle.inv_decimal.specs.WrittenNumber.{read_scaled}
use Rattle.inv_decimal.proofs.Ascii.{read_scaled-chars}
use Rattle.inv_decimal.proofs.scaled_decimal.Scaled.read.Goals as goal

pub returns : goal.returns
returns c =
    c.read_bytes.ensures ∙ ap read_scaled c.as_bytes.ensures.value ∙ sym (read_scaled-chars c.args.text.now c.utf8.text)
