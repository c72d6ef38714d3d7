use Rattle.std.proofs.Common.{take, drop, ap, inl, inr, ◌∙◌}
use Rattle.std.proofs.lemmas.List.{take_rest}
use Rattle.inv_decimal.specs.WrittenDay.{day_from}
use Rattle.inv_decimal.proofs.ReadDay.{dashed_is, dashed_none}
use Rattle.inv_decimal.proofs.calendar.read_dashed_bytes.Goals as goal
use Rattle.inv_decimal.proofs.calendar.read_dashed_bytes.Goals.{then-text-ne45-via-then-text-ne45, then-text-ne45-via-else-text-ne45+then-text-ne45-2}

pub returns-then-text-ne10 : goal.returns-then-text-ne10
returns-then-text-ne10 c = dashed_none _ (inl c.if-text-ne10.true)

pub returns-then-text-ne45 : goal.returns-then-text-ne45
returns-then-text-ne45 c =
    elim c.then-text-ne45.branch [
      | then-text-ne45-via-then-text-ne45 w ↦ dashed_none _ (inr (inl w.if-text-ne45.true))
      | then-text-ne45-via-else-text-ne45+then-text-ne45-2 w ↦ dashed_none _ (inr (inr w.if-text-ne45-2.true))
    ]

pub returns : goal.returns
returns c =
    let text = c.args.text.now in
    c.from_digits.ensures ∙ ap (day_from (take 4 text) (take 2 (drop 5 text))) (take_rest text 8) ∙
    dashed_is text c.if-text-ne10.false c.if-text-ne45.false c.if-text-ne45-2.false
