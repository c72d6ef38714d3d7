use Rattle.std.proofs.Common.{take, drop, ap, ◌∙◌}
use Rattle.std.proofs.lemmas.List.{take_rest}
use Rattle.inv_decimal.specs.WrittenDay.{day_from}
use Rattle.inv_decimal.proofs.ReadDay.{plain_is, plain_none}
use Rattle.inv_decimal.proofs.calendar.read_plain_bytes.Goals as goal

pub returns-then-text-ne8 : goal.returns-then-text-ne8
returns-then-text-ne8 c = plain_none _ c.if-text-ne8.true

pub returns : goal.returns
returns c =
    let text = c.args.text.now in
    c.from_digits.ensures ∙ ap (day_from (take 4 text) (take 2 (drop 4 text))) (take_rest text 6) ∙ plain_is text c.if-text-ne8.false
